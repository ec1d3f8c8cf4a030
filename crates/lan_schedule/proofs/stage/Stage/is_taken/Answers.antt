use Rattle.std.proofs.Common.{nat_eq, sym, ◌∙◌}
use Rattle.std.specs.Cmp.Lexicographic.{pointwise}
use Rattle.lan_core.specs.Standing.{scis_in}
use Rattle.trace_acts.proofs.Public.{any-map, taken-none, taken-sci}
use Rattle.lan_schedule.proofs.stage.Stage.is_taken.Goals as goal

pub returns-then-has_sci : goal.returns-then-has_sci
returns-then-has_sci c =
    let named = rw c.names.ensures.names at c.is_named.ensures in
    taken-sci _ _ (sym named ∙ c.if-is_named.false)
    (any-map (pointwise nat_eq c.args.sci.now.0) (scis_in c.args.self.now.lan) ∙ sym c.has_sci.ensures.places
    ∙ c.if-has_sci.true)

pub returns-else-has_sci : goal.returns-else-has_sci
returns-else-has_sci c =
    let named = rw c.names.ensures.names at c.is_named.ensures in
    taken-none _ _ (sym named ∙ c.if-is_named.false)
    (any-map (pointwise nat_eq c.args.sci.now.0) (scis_in c.args.self.now.lan) ∙ sym c.has_sci.ensures.places
    ∙ c.if-has_sci.false)
