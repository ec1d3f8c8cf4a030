-- So many are left for the bursts that were not asked yet.
use Rattle.std.proofs.Common.{◌≡◌, ◌+◌, drop}
use Rattle.lan_schedule.specs.Races.{frames_asked}
use Rattle.lan_schedule.proofs.race.frames_fit.Given as goal

abbrev pub invariant-loop-burst : goal.invariant-loop-burst
invariant-loop-burst l = frames_asked l.bursts + l.left
    ≡ frames_asked (drop l.burst-index l.bursts) + l.initial.left
