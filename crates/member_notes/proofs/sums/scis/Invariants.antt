use Rattle.std.proofs.Common.{◌≡◌, ℕ, map}
use Rattle.std.specs.Prelude.{take}
use Rattle.std.specs.Ordering.{eq_by_cmp}
use Rattle.std.specs.Set.{is_member}
use Rattle.lan_base.specs.declared.address.Sci.{Sci}
use Rattle.member_notes.specs.Facts.{station_cmp, station_of}
use Rattle.member_notes.proofs.sums.scis.Given as goal

abbrev pub invariant-loop-member : goal.invariant-loop-member
invariant-loop-member l = (q : ℕ × Sci) → is_member (eq_by_cmp station_cmp) l.seen.keys q
    ≡ is_member (eq_by_cmp station_cmp) (map station_of (take l.member-index l.members)) q
