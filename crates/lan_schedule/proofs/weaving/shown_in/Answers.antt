use Rattle.std.proofs.Common.{List, ◌++◌, sym, ap, ◌∙◌, arith}
use Rattle.lan_core.specs.declared.fact.Fact.{Fact}
use Rattle.fact_tally.specs.Summary.{counts}
use Rattle.lan_schedule.specs.inside.Weaves.{facts_in}
use Rattle.lan_schedule.proofs.ShownInOrder.{counted-more, shown-more, shown-whole}
use Rattle.lan_schedule.proofs.weaving.shown_in.Goals as goal

pub loop-event-preserved : goal.loop-event-preserved
loop-event-preserved c = (
  shown-more c.args.events.now c.loop-event.event-index c.event-item.result c.loop-event.shown _ _ _ _
      _ _ c.in_ok-facts.facts (omega arith) c.event-item.is c.loop-event.invariant.0
      c.in_ok-facts.ensures.shown c.in_ok-facts.ensures.kept c.frames_behind-left.ensures
      c.in_ok-keep.ensures,
  λ before start.
      c.count_all.ensures (facts_in before c.loop-event.shown) (c.loop-event.invariant.1 before start)
      ∙ ap (λ (facts : List Fact). counts (facts_in before c.loop-event.shown ++ facts))
      c.as_slice.ensures
      ∙ ap (λ (facts : List Fact). counts facts)
      (sym (counted-more before c.loop-event.shown _ c.in_ok-facts.facts c.in_ok-keep.ensures)),
)

pub returns-clause-shown : goal.returns-clause-shown
returns-clause-shown c = shown-whole c.args.events.now c.loop-event.event-index c.loop-event.shown _ _ _
    (omega arith) c.loop-event.invariant.0

pub returns-clause-counted : goal.returns-clause-counted
returns-clause-counted c = λ before start.
    c.loop-event.invariant.1 before start
    ∙ ap (λ (shown : List (List Fact)). counts (facts_in before shown))
    (shown-whole c.args.events.now c.loop-event.event-index c.loop-event.shown _ _ _
    (omega arith) c.loop-event.invariant.0)
