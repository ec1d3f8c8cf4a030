use Rattle.std.proofs.Common.{◌≡◌, refl, sym, ap, ◌∙◌, subst}
use Rattle.trace_acts.specs.Names.{names_of}
use Rattle.lan_schedule.specs.Races.{Controlling, Phase}
use Rattle.lan_schedule.specs.Ends.{moment}
use Rattle.lan_schedule.specs.Standing.{AreFit, phase_of}
use Rattle.lan_schedule.specs.declared.phase.Phase.{Phase as Stood}
use Rattle.lan_schedule.proofs.Replaying.{unbegun-never, none-stage}
use Rattle.lan_schedule.proofs.RunsRaces.{kept-runs, runs-never}
use Rattle.lan_schedule.proofs.RaceComes.{race-comes}
use Rattle.lan_schedule.proofs.SeatsBack.{gone-out, staged-out}
use Rattle.lan_schedule.proofs.commands.Replay.run_kept.Goals as goal

pub returns-in_default-clause-runs : goal.returns-in_default-clause-runs
returns-in_default-clause-runs g c =
    runs-never _ _ (moment c.args.self.now c.args.outlet.now) _ _ (λ w stands.
    unbegun-never w c.args.self.now stands
    (sym c.take.ensures.value ∙ none-stage _ c.in_default.not-Some) c.requires.controls)

pub returns-clause-runs : goal.returns-clause-runs
returns-clause-runs g c =
    let bursts = c.in-Controlling.bursts.items in
    let control = c.in-Controlling.control.items in
    let stood : phase_of c.args.self.now.phase ≡ Controlling bursts control =
    ap (λ (p : Stood). phase_of p) (sym c.replace.ensures.value ∙ c.in-Controlling.is) in
    kept-runs bursts control (moment c.args.self.now c.args.outlet.now) _ c.in-Some.stage
    c.run_race-stage.result.0 c.run_race-stage.result.1
    (sym c.take.ensures.value ∙ c.in-Some.is) stood c.put-2.ensures refl
    (ap (λ (p : Stood). phase_of p) c.replace.ensures.after)
    (λ w stands tidy.
    let fit = subst (λ (p : Phase). AreFit (names_of w.run) p) (stands.phase ∙ stood) stands.fit in
    (fit.0, race-comes bursts control w tidy fit.1))
    (rw c.deref.ensures.value at c.run_race-stage.ensures.did)

pub returns-in_default-clause-seats : goal.returns-in_default-clause-seats
returns-in_default-clause-seats g c = gone-out c.args.self.now.stage _ c.take.ensures.after

pub returns-clause-seats : goal.returns-clause-seats
returns-clause-seats g c =
    staged-out _ _ c.in-Some.stage c.run_race-stage.result.0 (sym c.take.ensures.value ∙ c.in-Some.is)
    c.put-2.ensures c.run_race-stage.ensures.seats
