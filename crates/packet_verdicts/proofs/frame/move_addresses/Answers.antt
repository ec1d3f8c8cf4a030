use Rattle.std.proofs.Common.{◌∙◌, ap}
use Rattle.std.specs.Prelude.{drop}
use Rattle.packet_verdicts.proofs.Moved.{moved}
use Rattle.packet_verdicts.proofs.frame.move_addresses.Goals as goal

pub returns : goal.returns
returns c = ap (λ xs. drop c.args.start xs) c.copy_within.ensures.after ∙ moved c.args.octets.now c.args.start c.requires
