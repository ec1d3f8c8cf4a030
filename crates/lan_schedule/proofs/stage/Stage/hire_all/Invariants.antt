-- The workers of the bursts that were asked so far were hired; of one burst, those of its first places
-- behind those before it. No seat but
-- theirs went out.
use Rattle.std.proofs.Common.{◌++◌, List, map, take}
use Rattle.std.specs.List.{range_with_len}
use Rattle.std.specs.Prelude.{All}
use Rattle.std.specs.Vec.{vec_capacity}
use Rattle.worker_races.specs.Senders.{IsNew}
use Rattle.lan_schedule.specs.Races.{Worker, worker_at, workers_of}
use Rattle.lan_schedule.specs.inside.Beside.{HasMoved, HaveRoom, HaveSeats, HiredAll, OutFor}
use Rattle.lan_schedule.proofs.stage.Stage.hire_all.Given as goal

abbrev pub invariant-loop-burst : goal.invariant-loop-burst
invariant-loop-burst l = (HaveSeats l.bursts l.fn.self
    → HiredAll (workers_of (take l.burst-index l.bursts)) l.fn.self l.self l.workers.items)
    × HasMoved l.fn.self l.self × HaveRoom l.self l.workers.items l.logs.items (vec_capacity l.logs)
    × All IsNew l.workers.items × OutFor l.workers.items l.fn.self.words l.self.words

abbrev pub invariant-loop-place : goal.invariant-loop-place
invariant-loop-place l = (HaveSeats l.bursts l.fn.self → (before : List Worker)
    → HiredAll before l.fn.self l.initial.self l.initial.workers.items
    → HiredAll (before ++ map (worker_at l.burst) (range_with_len 0 l.place)) l.fn.self l.self
    l.workers.items)
    × HasMoved l.fn.self l.self × HaveRoom l.self l.workers.items l.logs.items (vec_capacity l.logs)
    × All IsNew l.workers.items × OutFor l.workers.items l.fn.self.words l.self.words
