use Rattle.std.proofs.Common.{◌≡◌, ◌≤◌, map, take, length, vec_capacity}
use Rattle.std.specs.List.{filter}
use Rattle.mka_station.specs.inside.Rows.{candidate_in}
use Rattle.mka_station.proofs.rows.note_candidates.Given as goal

abbrev pub invariant-loop-row : goal.invariant-loop-row
invariant-loop-row l = (l.candidates.items ≡ map candidate_in (filter (λ r. r.live) (take l.row-index l.rows))) × (length l.candidates.items ≤ l.row-index) × (vec_capacity l.candidates ≡ vec_capacity l.initial.candidates)
