use Rattle.std.proofs.Common.{◌≡◌, ◌∙◌, Option, Some, ap, map, sym}
use Rattle.std.specs.Prelude.{string_bytes}
use Rattle.std.specs.Option.{ok_or}
use Rattle.rollover_program.specs.declared.words.Order.{Order}
use Rattle.rollover_program.specs.declared.words.Refusal.TheVariants.{Usage}
use Rattle.rollover_program.proofs.Ordered.{ordered, ordered_by}
use Rattle.rollover_program.proofs.words.read_order.Goals as goal

pub returns-clause-usage : goal.returns-clause-usage
returns-clause-usage c = λ refused none.
    let o = ordered (map string_bytes c.args.words.now) none in
    let found : c.order_of.result ≡ Some o.0 =
    c.order_of.ensures ∙ ap ordered_by c.in_ok-matches.ensures.rows ∙ o.1 in
    let bad = sym refused ∙ c.ok_or.ensures.value
    ∙ ap (λ (x : Option Order). ok_or x Usage) found in
    absurd cc
