use Rattle.std.proofs.Common.{refl}
use Rattle.trace_text.specs.declared.line.Line.TheVariants.{Station}
use Rattle.trace_acts.proofs.Public.{bytes-all}
use Rattle.lan_core.specs.declared.event.Event.TheVariants.{Start}
use Rattle.lan_schedule.specs.Acts.{happen, seq}
use Rattle.lan_schedule.specs.Lines.{begin}
use Rattle.lan_schedule.proofs.Performing.{same-line}
use Rattle.lan_schedule.proofs.Opening.{chosen-deed, chosen-does, opening-does, unopened-does}
use Rattle.lan_schedule.proofs.Replaying.{memory-does, handed-on, stands-counts}
use Rattle.lan_schedule.proofs.SeatsBack.{opened-out}
use Rattle.lan_schedule.proofs.commands.Replay.prepare.Goals as goal

pub returns-in_ok-choose-in_default-clause-does : goal.returns-in_ok-choose-in_default-clause-does
returns-in_ok-choose-in_default-clause-does g c =
    chosen-does c.args.line.now c.requires.form _ _ c.requires.unbegun c.requires.unbegun refl refl
    refl c.in_ok-choose-in_default.ensures refl refl
    (chosen-deed c.args.line.now c.args.self.now.chosen c.requires.allowed c.in_default.not-Station)

pub returns-in_err-choose-in_default-clause-does : goal.returns-in_err-choose-in_default-clause-does
returns-in_err-choose-in_default-clause-does g c =
    handed-on _ _ _ _ _ (memory-does _ _ _ (λ w stands. stands-counts w _ stands) refl)
    c.from_residual-in_err-choose-in_default.ensures.1

pub start-outcome-requires : goal.start-outcome-requires
start-outcome-requires g c =
    let form = rw c.in-Station.is at c.requires.form in record {
      count = form.fits.1.0.0;
      octets = bytes-all c.in-Station.sci.0 form.fits.1.0.1;
    }

pub returns-in_ok-stage-in-Station-clause-does : goal.returns-in_ok-stage-in-Station-clause-does
returns-in_ok-stage-in-Station-clause-does g c =
    let line = Station c.in-Station.name c.in-Station.sci c.in-Station.priority in
    let form = rw c.in-Station.is at c.requires.form in
    let keyed = rw c.in-Station.is at c.requires.allowed in
    rw c.in-Station.is (opening-does line form _ _ c.in_ok-stage-in-Station.stage
    c.start-outcome.new.self c.start-outcome.result tt c.requires.unbegun keyed
    (λ v tidy keyed opening. c.in_ok-stage-in-Station.ensures.stands v tidy keyed opening)
    (same-line line
    (seq begin (happen (Start c.in-Station.name c.in-Station.sci c.in-Station.priority))) _ _ _
    (λ w. refl) (c.start-outcome.ensures form.fits.1.1.0.1)) c.put.ensures refl refl)

pub returns-in_ok-stage-in-Station-clause-seats : goal.returns-in_ok-stage-in-Station-clause-seats
returns-in_ok-stage-in-Station-clause-seats g c =
    let form = rw c.in-Station.is at c.requires.form in
    opened-out _ _ c.in_ok-stage-in-Station.stage c.start-outcome.new.self c.requires.unbegun
    c.in_ok-stage-in-Station.ensures.words c.put.ensures
    (c.start-outcome.ensures form.fits.1.1.0.1).seats.out

pub returns-in_err-stage-in-Station-clause-does : goal.returns-in_err-stage-in-Station-clause-does
returns-in_err-stage-in-Station-clause-does g c =
    let keyed = rw c.in-Station.is at c.requires.allowed in
    unopened-does _ _ _ _ _ c.requires.unbegun keyed (λ w stands. stands-counts w _ stands) refl
    c.in_err-stage-in-Station.ensures.memory c.from_residual.ensures.1
