use Rattle.std.proofs.Common.{ap, subst, sym}
use Rattle.lan_core.specs.Parts.{followed_by}
use Rattle.worker_races.specs.merge.Sealing.{AreCards}
use Rattle.worker_races.proofs.weaving.ProtectedPart.{woven-protected}
use Rattle.worker_races.specs.Beside.{cards_in, logs_in}
use Rattle.worker_races.specs.Performed.{happenings}
use Rattle.worker_races.proofs.Sealed.{are-sealed}
use Rattle.worker_races.proofs.laws.law_frames_of_a_race_are_protected.Goals as goal

pub returns-clause-sealed : goal.returns-clause-sealed
returns-clause-sealed c race is = are-sealed race is

pub returns-clause-protected : goal.returns-clause-protected
returns-clause-protected c race is cards part events same woven whole =
    woven-protected race.settings race.users race.base (cards_in race) race.run part (happenings race.performed) events (logs_in race)
    same woven whole (are-sealed race is)
    (subst (AreCards race.settings (cards_in race)) (ap (λ hs. followed_by hs race.run) (sym woven.control)) cards)
