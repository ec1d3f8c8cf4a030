-- What is kept of keys and members that have counts, and of what members reported, listed.
use Rattle.std.specs.Prelude.{ℕ, ◌≡◌, List, map}
use Rattle.std.specs.List.Sorted.{IsStrictlySortedBy}
use Rattle.std.specs.Map.{lookup}
use Rattle.std.specs.BTreeMap.{is_at}
use Rattle.rollover_notes.specs.declared.counts.Counts.{Counts}
use Rattle.rollover_notes.specs.declared.report.Report.{Report}
use Rattle.rollover_notes.specs.declared.unready.Unready.{Unready}
use Rattle.rollover_notes.specs.Counted.{Pair, pair_cmp, unready_of}
use Rattle.rollover_notes.specs.Reported.{report_of}
use Rattle.rollover_notes.specs.Standing.{MemberKey, member_key_cmp}

abbrev pub unready_at : List (MemberKey × ℕ) → Pair × Counts → Unready
unready_at packets e = unready_of e.0 (lookup (is_at (member_key_cmp (e.0.1, e.0.0))) packets) e.1

pub record IsListing (packets : List (MemberKey × ℕ)) (entries : List (Pair × Counts)) (us : List Unready) :
    Type 0 where
  pub each : us ≡ map (unready_at packets) entries
  pub ordered : IsStrictlySortedBy pair_cmp (map (λ e. e.0) entries)

abbrev pub report_at : MemberKey × ℕ → Report
report_at e = report_of e.0 e.1

pub record IsReportListing (entries : List (MemberKey × ℕ)) (rs : List Report) : Type 0 where
  pub each : rs ≡ map report_at entries
  pub ordered : IsStrictlySortedBy member_key_cmp (map (λ e. e.0) entries)
