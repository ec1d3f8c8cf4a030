use Rattle.std.proofs.Common.{refl, ap}
use Rattle.std.specs.Prelude.{Ok, Err}
use Rattle.twin_schedule.specs.Ends.{moment}
use Rattle.twin_schedule.proofs.Happening.{event-did, event-failed, event-wanting, happened-err}
use Rattle.twin_schedule.proofs.Happening.{step-goes}
use Rattle.twin_schedule.proofs.stage.Stage.happen.Goals as goal

pub returns-in-Err : goal.returns-in-Err
returns-in-Err g c =
    rw c.halt_by.ensures (event-failed _ c.args.event.now c.in-Err.error c.args.self.now.line
    (moment c.args.self.now c.args.outlet.now) _ c.in-Err.ensures.refused
    (λ goes is. (c.in-Err.ensures.early goes).0 (ap (λ e. Err e) is)) refl refl)

pub returns-in_err-admit : goal.returns-in_err-admit
returns-in_err-admit g c =
    happened-err _ _ _ _ _ _ (event-wanting _ c.args.event.now _ _ refl) c.from_residual.ensures.1

pub returns-in_err-put_all_senders : goal.returns-in_err-put_all_senders
returns-in_err-put_all_senders g c =
    happened-err _ _ _ _ _ _ (event-wanting _ c.args.event.now _ _ refl)
    c.from_residual-in_err-put_all_senders.ensures.1

pub returns-in_err-tell : goal.returns-in_err-tell
returns-in_err-tell g c =
    happened-err _ _ _ _ _ _
    (event-did _ c.args.event.now c.in-Ok.told (moment c.args.self.now c.args.outlet.now) _
    (Err c.in_err-tell.field-0.0)
    (step-goes _ c.args.event.now c.args.self.now _ c.in-Ok.told c.in-Ok.ensures.facts
    c.in-Ok.ensures.stands c.in-Ok.ensures.drawn c.in-Ok.ensures.goes)
    (record {
      line = refl;
      chosen = refl;
      keyed = refl;
      there = c.in-Ok.ensures.there;
      users = refl;
      cuts = refl;
      scis = c.in_ok-admit.ensures.scis;
      first_names = c.in_ok-admit.ensures.first;
      second_names = c.in_ok-admit.ensures.second;
      first_senders = rw c.as_slice.ensures at c.in_ok-put_all_senders.ensures.first;
      second_senders = rw c.as_slice.ensures at c.in_ok-put_all_senders.ensures.second;
      first_spread = refl;
      second_spread = refl;
    })
    (rw (c.deref.ensures.value, c.deref-2.ensures.value, c.as_slice-2.ensures)
    at c.in_err-tell.ensures)) c.from_residual-in_err-tell.ensures.1

pub returns : goal.returns
returns g c =
    event-did _ c.args.event.now c.in-Ok.told (moment c.args.self.now c.args.outlet.now) _ (Ok tt)
    (step-goes _ c.args.event.now c.args.self.now _ c.in-Ok.told c.in-Ok.ensures.facts
    c.in-Ok.ensures.stands c.in-Ok.ensures.drawn c.in-Ok.ensures.goes)
    (record {
      line = refl;
      chosen = refl;
      keyed = refl;
      there = c.in-Ok.ensures.there;
      users = refl;
      cuts = refl;
      scis = c.in_ok-admit.ensures.scis;
      first_names = c.in_ok-admit.ensures.first;
      second_names = c.in_ok-admit.ensures.second;
      first_senders = rw c.as_slice.ensures at c.in_ok-put_all_senders.ensures.first;
      second_senders = rw c.as_slice.ensures at c.in_ok-put_all_senders.ensures.second;
      first_spread = refl;
      second_spread = refl;
    })
    (rw (c.deref.ensures.value, c.deref-2.ensures.value, c.as_slice-2.ensures)
    at c.in_ok-tell.ensures)
