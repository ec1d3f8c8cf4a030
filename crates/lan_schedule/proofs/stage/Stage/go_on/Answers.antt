use Rattle.std.proofs.Common.{Ok, ◌∷◌, ◌∙◌, refl, sym, ap}
use Rattle.std.specs.Prelude.{Err, is_some}
use Rattle.lan_core.specs.Run.{happened}
use Rattle.lan_schedule.specs.declared.stage.Stage.{Stage}
use Rattle.lan_schedule.specs.Ends.{moment}
use Rattle.lan_schedule.proofs.Happening.{before_step, from-earlier, event-went, went-wanting, went-err}
use Rattle.lan_schedule.proofs.Recorded.{kept-when, seats-kept}
use Rattle.lan_schedule.proofs.stage.Stage.go_on.Goals as goal

pub returns : goal.returns
returns g c = λ earlier step.
    from-earlier c.args.event.now c.args.facts c.args.self.now earlier c.args.outlet.now _ _ step.same
    (event-went c.args.event.now c.args.facts c.args.self.now
    (moment (before_step earlier c.args.self.now) c.args.outlet.now) _ (Ok tt) c.requires refl refl
    (record {
      line = refl;
      lag = refl;
      users = refl;
      cuts = refl;
      frames = rw c.as_slice.ensures at c.in_ok-put.ensures;
      raced = refl;
      words = λ raced racing settings users r before after stepped exact set.
          (rw c.as_slice-2.ensures at c.in_ok-follow.ensures.says) raced racing settings users
          earlier.lan r before after stepped exact set;
      cards = λ raced racing settings users r before after stepped set carded.
          (rw c.as_slice-2.ensures at c.in_ok-follow.ensures.cards) raced racing settings users
          earlier.lan r before after stepped set carded;
      tally = λ shown stood. (rw c.as_slice-3.ensures at c.count_all.ensures) shown stood;
      kept = λ settings users r before after.
          kept-when (λ steps. steps.items) c.args.event.now _ _ _ _ c.args.self.now.steps _
          (λ raced. step.epoch (sym (ap (λ (stage : Stage). is_some stage.steps) step.same) ∙ raced) settings users r before)
          (λ raced. c.epoch-after.ensures raced settings users (happened c.args.event.now c.args.facts ∷ r) after)
          c.in_ok-keep.ensures;
      followed = λ goes settings users r after stepped.
          (rw c.as_slice-2.ensures at c.in_ok-follow.ensures.followed) goes settings users r after
          stepped;
      seats = c.in_ok-follow.ensures.seats;
      still = c.in_ok-follow.ensures.still;
    })
    c.law_words_keep_a_run_thrifty.ensures (record {
      goes_on = record {
        run = c.law_control_goes_on.ensures.run;
        performed = c.law_control_goes_on.ensures.performed;
        gone = c.law_control_goes_on.ensures.gone;
      };
      tells = c.law_an_event_tells_the_words.ensures;
    })
    (rw c.names.ensures.names at c.in_ok-record.ensures))

pub returns-in_err-record : goal.returns-in_err-record
returns-in_err-record g c = λ earlier step.
    from-earlier c.args.event.now c.args.facts c.args.self.now earlier c.args.outlet.now _ _ step.same
    (went-err _ _ _ _ _ _ _
    (event-went c.args.event.now c.args.facts c.args.self.now
    (moment (before_step earlier c.args.self.now) c.args.outlet.now) _ (Err c.in_err-record.field-0.0) c.requires refl refl
    (record {
      line = refl;
      lag = refl;
      users = refl;
      cuts = refl;
      frames = rw c.as_slice.ensures at c.in_ok-put.ensures;
      raced = refl;
      words = λ raced racing settings users r before after stepped exact set.
          (rw c.as_slice-2.ensures at c.in_ok-follow.ensures.says) raced racing settings users
          earlier.lan r before after stepped exact set;
      cards = λ raced racing settings users r before after stepped set carded.
          (rw c.as_slice-2.ensures at c.in_ok-follow.ensures.cards) raced racing settings users
          earlier.lan r before after stepped set carded;
      tally = λ shown stood. (rw c.as_slice-3.ensures at c.count_all.ensures) shown stood;
      kept = λ settings users r before after.
          kept-when (λ steps. steps.items) c.args.event.now _ _ _ _ c.args.self.now.steps _
          (λ raced. step.epoch (sym (ap (λ (stage : Stage). is_some stage.steps) step.same) ∙ raced) settings users r before)
          (λ raced. c.epoch-after.ensures raced settings users (happened c.args.event.now c.args.facts ∷ r) after)
          c.in_ok-keep.ensures;
      followed = λ goes settings users r after stepped.
          (rw c.as_slice-2.ensures at c.in_ok-follow.ensures.followed) goes settings users r after
          stepped;
      seats = c.in_ok-follow.ensures.seats;
      still = c.in_ok-follow.ensures.still;
    })
    c.law_words_keep_a_run_thrifty.ensures (record {
      goes_on = record {
        run = c.law_control_goes_on.ensures.run;
        performed = c.law_control_goes_on.ensures.performed;
        gone = c.law_control_goes_on.ensures.gone;
      };
      tells = c.law_an_event_tells_the_words.ensures;
    })
    (rw c.names.ensures.names at c.in_err-record.ensures)) c.from_residual-in_err-record.ensures.1)

pub returns-in_err-put : goal.returns-in_err-put
returns-in_err-put g c = λ earlier step.
    from-earlier c.args.event.now c.args.facts c.args.self.now earlier c.args.outlet.now _ _ step.same
    (went-err _ _ _ _ _ _ _ (went-wanting _ _ _ _ _ refl refl (seats-kept _) (λ emits. refl)) c.from_residual.ensures.1)

pub returns-in_err-follow : goal.returns-in_err-follow
returns-in_err-follow g c = λ earlier step.
    from-earlier c.args.event.now c.args.facts c.args.self.now earlier c.args.outlet.now _ _ step.same
    (went-err _ _ _ _ _ _ _ (went-wanting _ _ _ _ _ refl refl c.in_err-follow.ensures.seats
    c.in_err-follow.ensures.still) c.from_residual-in_err-follow.ensures.1)

pub returns-in_err-keep : goal.returns-in_err-keep
returns-in_err-keep g c = λ earlier step.
    from-earlier c.args.event.now c.args.facts c.args.self.now earlier c.args.outlet.now _ _ step.same
    (went-err _ _ _ _ _ _ _ (went-wanting _ _ _ _ _ refl refl c.in_ok-follow.ensures.seats
    c.in_ok-follow.ensures.still) c.from_residual-in_err-keep.ensures.1)
