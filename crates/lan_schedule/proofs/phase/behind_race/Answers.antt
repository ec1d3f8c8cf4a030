use Rattle.std.proofs.Common.{◌≡◌, ◌<◌, length, ap, arith}
use Rattle.trace_text.specs.declared.line.Line.TheVariants.{While}
use Rattle.lan_schedule.specs.Races.{Bursting, Controlling}
use Rattle.lan_schedule.proofs.Phasing.{burst-enters, burst-order, refused-order}
use Rattle.lan_schedule.proofs.Phasing.{while-allowed, while-order}
use Rattle.lan_schedule.proofs.phase.behind_race.Goals as goal

pub returns-then-is_empty : goal.returns-then-is_empty
returns-then-is_empty c = λ w reached.
    let none : length c.args.bursts.items ≡ 0 = grind arith in
    rw (c.in-While.is, c.refused.ensures)
    (refused-order While w (Bursting c.args.bursts.items) c.args.stage.now reached.stands
    (while-order w c.args.bursts.items none))

pub returns-else-is_empty : goal.returns-else-is_empty
returns-else-is_empty c = λ w reached.
    let some : 0 < length c.args.bursts.items = grind arith in
    rw c.in-While.is (
      while-allowed w c.args.bursts.items some,
      ap (Controlling c.args.bursts.items) c.new.ensures.items,
    )

pub returns-in-Burst : goal.returns-in-Burst
returns-in-Burst c = λ w reached.
    let b = c.in-Burst in
    rw b.is (burst-enters b.name b.workers b.frames b.destination b.body w c.args.stage.now
    c.args.bursts.items c.place.result c.with_burst.result reached c.place.ensures
    c.with_burst.ensures.kept c.with_burst.ensures.refused)

pub returns-in_default : goal.returns-in_default
returns-in_default c = λ w reached. rw c.refused-in_default.ensures
    (refused-order c.args.line w (Bursting c.args.bursts.items) c.args.stage.now reached.stands
    (burst-order c.args.line w c.args.bursts.items c.in_default.not-While c.in_default.not-Burst))
