use Rattle.std.proofs.Common.{sym, ◌∙◌, refl}
use Rattle.lan_schedule.proofs.RaceEmits.{weaves-emitted}
use Rattle.lan_schedule.proofs.RaceEnds.{some-memory, weaves-nothing, weaves-stopped}
use Rattle.lan_schedule.proofs.stage.Stage.weave.Goals as goal

pub returns-then-is_memory-clause-weaves : goal.returns-then-is_memory-clause-weaves
returns-then-is_memory-clause-weaves g c = weaves-nothing c.args.ran _ _ _

pub returns-then-is_stop-clause-weaves : goal.returns-then-is_stop-clause-weaves
returns-then-is_stop-clause-weaves g c =
    weaves-stopped c.args.ran c.args.self.now _ c.in_ok-events.events.items c.in_ok-frames.frames.items
    c.in_ok-shown.shown
    (record {
      raced = c.law_a_race_of_workers_is_a_race.ensures.raced;
      steps = c.law_a_race_of_workers_is_a_race.ensures.steps;
      few = c.law_a_race_of_workers_is_a_race.ensures.few;
      control = c.law_a_race_of_workers_is_a_race.ensures.control;
      unused = c.law_few_numbers_of_a_race_are_unused.ensures;
    })
    (some-memory c.args.ran.came (sym c.is_memory.ensures ∙ c.if-is_memory.false))
    (sym c.is_stop.ensures ∙ c.if-is_stop.true)
    (record {
      merged = rw (c.deref.ensures.value, c.deref-2.ensures.value) at c.in_ok-events.ensures.legal;
      frames_are = rw c.deref-3.ensures.value at c.in_ok-frames.ensures;
      shown_is = rw (c.deref-4.ensures.value, c.deref-5.ensures.value) at c.in_ok-shown.ensures.shown;
      counted = rw (c.deref-4.ensures.value, c.deref-5.ensures.value)
          at c.in_ok-shown.ensures.counted;
      same = refl;
    })

pub returns-then-is_memory-2-clause-weaves : goal.returns-then-is_memory-2-clause-weaves
returns-then-is_memory-2-clause-weaves g c = weaves-nothing c.args.ran _ _ _

pub returns-clause-weaves : goal.returns-clause-weaves
returns-clause-weaves g c =
    rw c.and.ensures
    (weaves-emitted c.args.ran c.args.self.now (record c.args.self.now { tally = c.shown_in.new.tally })
    (record c.args.self.now { tally = c.shown_in.new.tally; lan = c.settle.new.self })
    c.emit_all-emitted.new.self c.in_ok-events.events.items c.in_ok-frames.frames.items
    c.len-count.result c.in_ok-shown.shown c.emit_all-emitted.new.outlet c.emit_all-emitted.result
    (record {
      raced = c.law_a_race_of_workers_is_a_race.ensures.raced;
      steps = c.law_a_race_of_workers_is_a_race.ensures.steps;
      few = c.law_a_race_of_workers_is_a_race.ensures.few;
      control = c.law_a_race_of_workers_is_a_race.ensures.control;
      unused = c.law_few_numbers_of_a_race_are_unused.ensures;
    })
    (record {
      caught = c.law_words_catch_up_with_a_race.ensures;
      cards = c.law_cards_of_a_race_are_right.ensures.behind;
      protected = λ race is carded part events same woven whole.
          c.law_frames_of_a_race_are_protected.ensures.protected race is
          (c.law_cards_of_a_race_are_right.ensures.known race is carded) part events same woven whole;
    })
    (some-memory c.emit_all-emitted.result (sym c.is_memory-2.ensures ∙ c.if-is_memory-2.false))
    (sym c.is_stop.ensures ∙ c.if-is_stop.false)
    (record {
      merged = rw (c.deref.ensures.value, c.deref-2.ensures.value) at c.in_ok-events.ensures.legal;
      frames_are = rw c.deref-3.ensures.value at c.in_ok-frames.ensures;
      shown_is = rw (c.deref-4.ensures.value, c.deref-5.ensures.value) at c.in_ok-shown.ensures.shown;
      counted = rw (c.deref-4.ensures.value, c.deref-5.ensures.value)
          at c.in_ok-shown.ensures.counted;
      same = refl;
    })
    (record {
      settled = c.in_ok-settle.ensures.stands;
      same = refl;
      many = c.len-count.ensures ∙ c.in_ok-frames.frames.ok.0;
      did = c.emit_all-emitted.ensures.did;
      words = c.emit_all-emitted.ensures.words;
    }))

pub returns-clause-seats : goal.returns-clause-seats
returns-clause-seats g c = c.emit_all-emitted.ensures.did.seats.out

pub returns-then-is_memory-2-clause-seats : goal.returns-then-is_memory-2-clause-seats
returns-then-is_memory-2-clause-seats g c = c.emit_all-emitted.ensures.did.seats.out
