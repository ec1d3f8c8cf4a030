use Rattle.std.proofs.Common.{ap, ◌∙◌}
use Rattle.std.specs.Prelude.{Option}
use Rattle.trace_acts.specs.declared.halt.Kind.{Kind}
use Rattle.trace_acts.specs.Kinds.{or_else}
use Rattle.lan_schedule.proofs.Refusing.{or-is}
use Rattle.lan_schedule.proofs.stage.Stage.wrong_word.Goals as goal

pub returns : goal.returns
returns c =
    c.or-2.ensures ∙ or-is c.wrong_frame.result c.or.result
    ∙ ap (λ (o : Option Kind). or_else c.wrong_frame.result o)
    (c.or.ensures ∙ or-is c.taken.result c.wrong_station.result)
    ∙ (λ i. or_else (c.wrong_frame.ensures i) (or_else (c.taken.ensures i) (c.wrong_station.ensures i)))
