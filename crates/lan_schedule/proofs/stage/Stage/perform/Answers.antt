use Rattle.std.proofs.Common.{refl}
use Rattle.lan_schedule.proofs.Doing.{change-does, handed-on, memory-does}
use Rattle.lan_schedule.proofs.Looking.{mark-does}
use Rattle.lan_schedule.proofs.stage.Stage.perform.Goals as goal

pub start-requires : goal.start-requires
start-requires g c = (rw c.in-Start.is at c.requires).1

pub returns-in-Start : goal.returns-in-Start
returns-in-Start g c = rw c.in-Start.is (c.start.ensures (rw c.in-Start.is at c.requires).2)

pub feed-requires-clause-order : goal.feed-requires-clause-order
feed-requires-clause-order g c = (rw c.in-Feed.is at c.requires).0

pub feed-requires-clause-few : goal.feed-requires-clause-few
feed-requires-clause-few g c = (rw c.in-Feed.is at c.requires).1

pub returns-in-Lose : goal.returns-in-Lose
returns-in-Lose g c = rw c.in-Lose.is (mark-does c.in-Lose.frame _ _ c.lose.ensures refl)

pub returns-in_ok-cut-in-Cut : goal.returns-in_ok-cut-in-Cut
returns-in_ok-cut-in-Cut g c =
    rw c.in-Cut.is (change-does _ _ _ (λ kept. (refl, refl)) c.in_ok-cut-in-Cut.ensures.ok refl)

pub returns-in_err-cut-in-Cut : goal.returns-in_err-cut-in-Cut
returns-in_err-cut-in-Cut g c =
    handed-on _ _ _ _ _ (memory-does _ _ _ c.cut.ensures.tally refl c.cut.ensures.seats) c.from_residual.ensures.1

pub returns-in-Mend : goal.returns-in-Mend
returns-in-Mend g c =
    rw c.in-Mend.is (change-does _ _ _ (λ kept. (refl, refl)) c.mend.ensures refl)
