-- The seats of the first workers came back, and their logs are there.
use Rattle.std.proofs.Common.{◌≡◌, map}
use Rattle.std.specs.Vec.{vec_capacity}
use Rattle.lan_schedule.specs.inside.Beside.{WereJoined}
use Rattle.station_words.specs.Ties.{tables_of}
use Rattle.lan_schedule.proofs.stage.Stage.dismiss.Given as goal

abbrev pub invariant-loop-worker : goal.invariant-loop-worker
invariant-loop-worker l = (l.logs.items ≡ map (λ w. w.log) l.yielded)
    × WereJoined l.yielded l.fn.self.words l.self.words
    × (tables_of l.self.words ≡ tables_of l.fn.self.words)
    × (l.self ≡ record l.fn.self { words = l.self.words })
    × (vec_capacity l.logs ≡ vec_capacity l.initial.logs)
