-- What is told of the keys that members reported.
use Rattle.std.specs.Prelude.{ℕ, ◌≡◌, Bool, List, map, find, option_map}
use Rattle.std.specs.List.Sorted.{IsStrictlySortedBy}
use Rattle.std.specs.Ordering.{is_eq}
use Rattle.rollover_notes.specs.declared.report.Report.{Report}
use Rattle.rollover_notes.specs.Events.{Event}
use Rattle.rollover_notes.specs.Reports.{reported}
use Rattle.rollover_notes.specs.Standing.{MemberKey, member_key_cmp}

abbrev pub member_key_of : Report → MemberKey
member_key_of r = ((r.group, r.mi), r.key)

abbrev pub is_report_of : MemberKey → Report → Bool
is_report_of at r = is_eq (member_key_cmp at (member_key_of r))

-- what is told of a member and a key that it reported first in this packet
abbrev pub report_of : MemberKey → ℕ → Report
report_of at packet = record { group = at.0.0; mi = at.0.1; key = at.1; packet = packet }

-- each member and key that it reported, ascending, with the first packet in which it did
pub record AreReportsOf (h : List Event) (rs : List Report) : Type 0 where
  pub ascending : IsStrictlySortedBy member_key_cmp (map member_key_of rs)
  pub each : (at : MemberKey) → find (is_report_of at) rs ≡ option_map (report_of at) (reported h at.0 at.1)
