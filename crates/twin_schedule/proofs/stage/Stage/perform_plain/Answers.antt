use Rattle.std.proofs.Common.{refl, arith}
use Rattle.cak_roll.specs.declared.event.TwinEvent.TheVariants.{Start}
use Rattle.twin_schedule.specs.Acts.{change, happen, seq, times}
use Rattle.twin_schedule.specs.Lines.{begin, cut_in, deed_plain, flow_round, mended_in, restart}
use Rattle.twin_schedule.specs.Lines.{round, send_new, tick_both}
use Rattle.twin_schedule.proofs.Doing.{change-does, handed-on, memory-does}
use Rattle.twin_schedule.proofs.Moving.{chosen-none, one-place, same-line, two-places}
use Rattle.twin_schedule.proofs.stage.Stage.perform_plain.Goals as goal

pub returns-in-Station : goal.returns-in-Station
returns-in-Station g c =
    let form = rw c.in-Station.is at c.requires.form in
    same-line c.args.line.now (seq begin (happen (Start c.in-Station.name c.in-Station.sci
    c.in-Station.priority))) _ _ _
    (λ w. rw c.in-Station.is refl) (c.start.ensures form.fits.1.1.0.1)

pub returns-in-Tick : goal.returns-in-Tick
returns-in-Tick g c =
    same-line c.args.line.now (times c.in-Tick.rounds round) _ _ _ (λ w. rw c.in-Tick.is refl)
    c.turns.ensures

pub returns-in-Flow : goal.returns-in-Flow
returns-in-Flow g c =
    same-line c.args.line.now (times c.in-Flow.rounds flow_round) _ _ _
    (λ w. rw c.in-Flow.is refl) c.turns-in-Flow.ensures

pub returns-in-TickOne : goal.returns-in-TickOne
returns-in-TickOne g c =
    one-place (λ w. deed_plain c.args.line.now w) c.in-TickOne.name
    (λ s. times c.in-TickOne.ticks (tick_both s)) c.place.result _ _ _
    (λ w. rw c.in-TickOne.is refl) c.place.ensures c.turns-in-TickOne.ensures

pub returns-in_ok-cut-in-Cut : goal.returns-in_ok-cut-in-Cut
returns-in_ok-cut-in-Cut g c =
    two-places (λ w. deed_plain c.args.line.now w) c.in-Cut.from c.in-Cut.to
    (λ s t. change (cut_in s t)) c.place-in-Cut.result c.place-in-Cut-2.result _ _ _
    (λ w. rw c.in-Cut.is refl) c.place-in-Cut.ensures c.place-in-Cut-2.ensures
    (change-does _ _ _ c.in_ok-cut-in-Cut.ensures refl)

pub returns-in_err-cut-in-Cut : goal.returns-in_err-cut-in-Cut
returns-in_err-cut-in-Cut g c =
    handed-on _ _ _ _ _ (memory-does _ _ _ refl) c.from_residual.ensures.1

pub returns-in-Mend : goal.returns-in-Mend
returns-in-Mend g c =
    two-places (λ w. deed_plain c.args.line.now w) c.in-Mend.from c.in-Mend.to
    (λ s t. change (mended_in s t)) c.place-in-Mend.result c.place-in-Mend-2.result _ _ _
    (λ w. rw c.in-Mend.is refl) c.place-in-Mend.ensures c.place-in-Mend-2.ensures
    (change-does _ _ _ c.mend.ensures refl)

pub returns-in-Restart : goal.returns-in-Restart
returns-in-Restart g c =
    one-place (λ w. deed_plain c.args.line.now w) c.in-Restart.name (λ s. restart s)
    c.place-in-Restart.result _ _ _
    (λ w. rw c.in-Restart.is refl) c.place-in-Restart.ensures c.restart.ensures

pub returns-in-Send : goal.returns-in-Send
returns-in-Send g c =
    one-place (λ w. deed_plain c.args.line.now w) c.in-Send.name
    (λ s. send_new s (record { destination = c.in-Send.destination; body = c.in-Send.body }))
    c.place-in-Send.result _ _ _
    (λ w. rw c.in-Send.is refl) c.place-in-Send.ensures c.send_body.ensures

pub returns-in_default : goal.returns-in_default
returns-in_default g c = chosen-none c.args.line.now _ c.requires.later (λ w. grind arith)
