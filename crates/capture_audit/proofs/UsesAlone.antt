-- Of right frames, right MKPDUs and events one list alone is what is told of each key and sender, of each
-- member, and of each key and member that was not ready for it.
use Rattle.std.proofs.Common.{◌≡◌, ◌∙◌, ℕ, List, Some, sym}
use Rattle.std.specs.Prelude.{All}
use Rattle.std.specs.Cmp.{IsTotalOrder}
use Rattle.std.proofs.lemmas.Cmp.{nat_cmp_total, nat_list_cmp_total, on_total, then_total}
use Rattle.lan_base.specs.declared.address.Mi.{Mi}
use Rattle.lan_base.specs.declared.address.Sci.{Sci}
use Rattle.member_notes.specs.declared.facts.Member.{Member}
use Rattle.member_notes.specs.Facts.{AreMembersOf, member_told}
use Rattle.member_notes.specs.Spoken.{Spoken}
use Rattle.member_notes.specs.Standing.{member_cmp}
use Rattle.rollover_notes.specs.declared.unready.Unready.{Unready}
use Rattle.rollover_notes.specs.Counted.{AreUnreadyOf, Pair, pair_cmp, pair_of}
use Rattle.rollover_notes.specs.Events.{Event}
use Rattle.use_notes.specs.declared.frame.RightFrame.{RightFrame}
use Rattle.use_notes.specs.declared.notes.Use.{Use}
use Rattle.use_notes.specs.Uses.{AreUsesOf, use_cmp}
use Rattle.capture_audit.proofs.Ascending.{all-told, alone}

-- ---- uses

use-total : IsTotalOrder use_cmp
use-total =
    then_total (on_total (λ (p : ℕ × Sci). p.0) nat_cmp_total) (on_total (λ (p : ℕ × Sci). p.1.0) nat_list_cmp_total)

pub uses-alone : (h : List RightFrame) (us vs : List Use) → AreUsesOf h us → AreUsesOf h vs → us ≡ vs
uses-alone h us vs are also =
    alone (λ (u : Use). (u.key, u.sci)) use-total us vs are.ascending also.ascending
    (λ q. are.each q.0 q.1 ∙ sym (also.each q.0 q.1))

-- ---- members

member-total : IsTotalOrder member_cmp
member-total =
    then_total (on_total (λ (m : ℕ × Mi). m.0) nat_cmp_total) (on_total (λ (m : ℕ × Mi). m.1.0) nat_list_cmp_total)

pub members-alone : (h : List Spoken) (ms ns : List Member) → AreMembersOf h ms → AreMembersOf h ns → ms ≡ ns
members-alone h ms ns are also =
    alone (λ (m : Member). (m.group, m.mi)) member-total ms ns are.ascending also.ascending
    (λ q. are.each q.0 q.1 ∙ sym (also.each q.0 q.1))

-- what holds of each member that is told holds of all
pub each-member : (P : Member → Type 0) (h : List Spoken) (ms : List Member) → AreMembersOf h ms
    → ((group : ℕ) (mi : Mi) (m : Member) → member_told group mi h ≡ Some m → P m) → All P ms
each-member P h ms are told =
    all-told (λ (m : Member). (m.group, m.mi)) member-total P ms are.ascending
    (λ q m is. told q.0 q.1 m (sym (are.each q.0 q.1) ∙ is))

-- ---- members that were not ready

pair-total : IsTotalOrder pair_cmp
pair-total =
    then_total (on_total (λ (p : Pair). p.0) nat_cmp_total) (on_total (λ (p : Pair). p.1) member-total)

pub unready-alone : (h : List Event) (us vs : List Unready) → AreUnreadyOf h us → AreUnreadyOf h vs → us ≡ vs
unready-alone h us vs are also =
    alone pair_of pair-total us vs are.ascending also.ascending (λ p. are.each p ∙ sym (also.each p))
