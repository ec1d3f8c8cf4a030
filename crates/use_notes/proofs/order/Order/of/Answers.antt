use Rattle.std.proofs.Common.{◌∙◌}
use Rattle.use_notes.proofs.Orders.{capped}
use Rattle.use_notes.proofs.order.Order.of.Goals as goal

pub returns : goal.returns
returns c = λ t. record {
  fell = (c.fallen.ensures ∙ capped c.args.uses.now) t;
  window = c.widest.ensures t;
  high = c.high.ensures t;
}
