use Rattle.std.proofs.Common.{◌≡◌, ◌≤◌, map, take, length, vec_capacity}
use Rattle.std.specs.List.{filter}
use Rattle.mka_station.specs.inside.Rows.{report_of}
use Rattle.mka_station.proofs.rows.note_reports.Given as goal

abbrev pub invariant-loop-row : goal.invariant-loop-row
invariant-loop-row l = (l.reports.items ≡ map report_of (filter (λ r. r.live) (take l.row-index l.rows))) × (length l.reports.items ≤ l.row-index) × (vec_capacity l.reports ≡ vec_capacity l.initial.reports)
