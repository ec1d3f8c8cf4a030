use Rattle.std.proofs.Common.{ap}
use Rattle.lan_schedule.specs.Races.{Bursting}
use Rattle.lan_schedule.proofs.Phasing.{race-allowed}
use Rattle.lan_schedule.proofs.phase.Phase.behind.Goals as goal

pub returns-in-Apart : goal.returns-in-Apart
returns-in-Apart c = λ w reached goes taken. rw c.in-Apart.is (
  race-allowed c.args.line w c.args.stage.now reached.stands (rw c.in-Apart.is at taken),
  ap Bursting c.new.ensures.items,
)

pub returns-in-Bursting : goal.returns-in-Bursting
returns-in-Bursting c = λ w reached goes taken. rw c.in-Bursting.is (c.behind_race.ensures w reached)

pub returns-in-Controlling : goal.returns-in-Controlling
returns-in-Controlling c = λ w reached goes taken. rw c.in-Controlling.is
    (c.behind_while.ensures w reached (rw c.in-Controlling.is at goes))
