use Rattle.std.proofs.Common.{refl}
use Rattle.twin_schedule.proofs.Doing.{handed-on, memory-does}
use Rattle.twin_schedule.proofs.Opening.{chosen-deed, chosen-does, opening-does, unopened-does}
use Rattle.twin_schedule.proofs.commands.TwinReplay.prepare.Goals as goal

pub returns-in_ok-stage-in-Station : goal.returns-in_ok-stage-in-Station
returns-in_ok-stage-in-Station g c =
    opening-does c.args.line.now _ _ c.in_ok-stage-in-Station.stage
    c.perform_plain-outcome.new.self c.perform_plain-outcome.result (rw c.in-Station.is tt)
    c.requires.unbegun c.in_ok-stage-in-Station.ensures.stands c.perform_plain-outcome.ensures
    c.put.ensures c.in_ok-stage-in-Station.ensures.halted

pub returns-in_err-stage-in-Station : goal.returns-in_err-stage-in-Station
returns-in_err-stage-in-Station g c =
    unopened-does _ _ _ _ _ c.requires.unbegun refl c.in_err-stage-in-Station.ensures.memory
    c.from_residual.ensures.1

pub returns-in_ok-choose-in_default : goal.returns-in_ok-choose-in_default
returns-in_ok-choose-in_default g c =
    chosen-does c.args.line.now _ _ c.requires.form c.requires.allowed c.requires.unbegun c.requires.unbegun refl refl refl
    c.in_ok-choose-in_default.ensures refl
    (chosen-deed c.args.line.now c.args.self.now.chosen c.requires.allowed c.in_default.not-Station)

pub returns-in_err-choose-in_default : goal.returns-in_err-choose-in_default
returns-in_err-choose-in_default g c =
    handed-on _ _ _ _ _ (memory-does _ _ _ refl) c.from_residual-in_err-choose-in_default.ensures.1
