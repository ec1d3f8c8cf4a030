use Rattle.std.proofs.Common.{◌≡◌, ◌+◌, ℕ, length}
use Rattle.key_spans.specs.Sends.{track_at}
use Rattle.key_spans.proofs.track.Track.reach.Given as goal

abbrev pub invariant-loop : goal.invariant-loop
invariant-loop l =
    (l.end ≡ l.station + 1) × (length l.self-inside.rows.items ≡ l.counter)
    × ((s : ℕ) → track_at l.self-inside.rows.items s ≡ track_at l.fn.self s)
