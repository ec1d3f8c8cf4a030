use Rattle.std.proofs.Common.{refl}
use Rattle.twin_schedule.proofs.Moving.{stands-kept}
use Rattle.twin_schedule.proofs.Replaying.{line-staged, line-unbegun, none-stage}
use Rattle.twin_schedule.proofs.commands.TwinReplay.begin_line.Goals as goal

pub returns-in-Some : goal.returns-in-Some
returns-in-Some c = λ w stands.
    line-staged c.args.number w _ _ c.in-Some.stage _ c.in-Some.is refl refl
    (λ at. stands-kept w (record w.kept { line = c.args.number }) c.in-Some.stage _ at at.begun
    at.named at.chosen at.keyed refl at.twin at.there at.draws refl at.users at.cuts at.first_party
    at.second_party refl refl) stands

pub returns : goal.returns
returns c = λ w stands.
    line-unbegun c.args.number w _ _ (none-stage _ c.in_default.not-Some)
    (none-stage _ c.in_default.not-Some) refl refl refl refl stands
