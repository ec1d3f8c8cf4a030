-- The lines of members that were not ready for a key, and of what is told of all fresh frames.
use Rattle.std.specs.Prelude.{ℕ, List, [], ◌∷◌, flat_map, min, sum_by, codes, decimal}
use Rattle.hex.specs.Hex.{encode_lower}
use Rattle.rollover_notes.specs.declared.unready.Unready.{Unready}
use Rattle.audit_report.specs.declared.readiness.Sums.{Sums}
use Rattle.audit_report.specs.declared.uses.TimedUse.{TimedUse}
use Rattle.audit_report.specs.Lines.{counts_line, line_of}

-- a key, and a member that was not ready for it: how many frames came early and how many joining, with the
-- first packet of each, and the first packet in which it reported the key
abbrev pub unready_words : Unready → List (List ℕ)
unready_words u = decimal u.key ∷ decimal u.group ∷ encode_lower u.mi.0 ∷ codes "early" ∷ decimal u.early
    ∷ decimal u.first_early ∷ codes "joining" ∷ decimal u.joining ∷ decimal u.first_joining
    ∷ codes "reported" ∷ decimal u.reported ∷ []

abbrev pub unready_line : Unready → List ℕ
unready_line u = line_of (codes "unready") (unready_words u)

abbrev pub unready_lines : List Unready → List ℕ
unready_lines us = flat_map unready_line us

-- ---- all of them, as far as they can be counted

abbrev pub most_counted : ℕ
most_counted = 18446744073709551615

-- to how many pairs of a frame and a member a frame came early or joining, and how many frames came late
abbrev pub sums_of : List Unready → List TimedUse → Sums
sums_of unready uses = record {
  early = min (sum_by (λ u. u.early) unready) most_counted;
  joining = min (sum_by (λ u. u.joining) unready) most_counted;
  late = min (sum_by (λ u. u.late) uses) most_counted;
}

-- how many changes of a sender to another key there are, and the sums
abbrev pub rollover_line : ℕ → Sums → List ℕ
rollover_line changes sums = counts_line (codes "rollover") ((codes "changes", changes)
    ∷ (codes "early", sums.early) ∷ (codes "joining", sums.joining) ∷ (codes "late", sums.late) ∷ [])
