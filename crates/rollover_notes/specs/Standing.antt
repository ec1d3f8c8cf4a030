-- What is kept of a rollover.
use Rattle.std.specs.Prelude.{ℕ, ◌≡◌, List, unwrap_or, Bool}
use Rattle.std.specs.List.{list_any}
use Rattle.std.specs.Map.{lookup}
use Rattle.std.specs.BTreeMap.{is_at}
use Rattle.std.specs.Ordering.{nat_cmp, ordering_then}
use Rattle.std.specs.Cmp.Lexicographic.{slice_cmp}
use Rattle.std.specs.declared.cmp.Ordering.{Ordering}
use Rattle.lan_base.specs.declared.address.Mi.{Mi}
use Rattle.lan_base.specs.declared.address.Sci.{Sci}
use Rattle.lan_base.specs.Identifiers.{order}
use Rattle.member_notes.specs.Standing.{member_cmp}
use Rattle.rollover_notes.specs.declared.counts.Counts.{Counts}
use Rattle.rollover_notes.specs.declared.late_frames.LateFrames.{LateFrames}
use Rattle.rollover_notes.specs.Events.{Event}
use Rattle.rollover_notes.specs.Givings.{GroupId, in_order, is_given, key_of}
use Rattle.rollover_notes.specs.Speaking.{Member, Said, said, speaker}
use Rattle.rollover_notes.specs.Reports.{began, reported}
use Rattle.rollover_notes.specs.Counted.{Pair, late, none_late, pair_cmp, unready_counts}

-- ---- how maps and sets are ordered

abbrev pub group_id_cmp : GroupId → GroupId → Ordering
group_id_cmp a b = ordering_then (nat_cmp a.0 b.0) (ordering_then (order a.1.0 b.1.0) (nat_cmp a.1.1 b.1.1))

abbrev pub group_key_cmp : ℕ × ℕ → ℕ × ℕ → Ordering
group_key_cmp a b = ordering_then (nat_cmp a.0 b.0) (nat_cmp a.1 b.1)

-- a member and a key
abbrev pub MemberKey : Type 0
MemberKey = Member × ℕ

abbrev pub member_key_cmp : MemberKey → MemberKey → Ordering
member_key_cmp a b = ordering_then (member_cmp a.0 b.0) (nat_cmp a.1 b.1)

-- a number, of a group or a key, and an SCI
abbrev pub number_sci_cmp : ℕ × Sci → ℕ × Sci → Ordering
number_sci_cmp a b = ordering_then (nat_cmp a.0 b.0) (slice_cmp nat_cmp a.1.0 b.1.0)

abbrev pub has : {K : Type 0} → (K → K → Ordering) → List K → K → Bool
has cmp keys k = list_any (is_at (cmp k)) keys

-- ---- what is kept

pub record KeptRollovers : Type 0 where
  pub ids : List (GroupId × ℕ)
  pub groups : List (ℕ × ℕ)
  pub order : List ℕ
  pub packets : List (MemberKey × ℕ)
  pub times : List (MemberKey × ℕ)
  pub said : List (Member × Said)
  pub speakers : List ((ℕ × Sci) × Mi)
  pub unready : List (Pair × Counts)
  pub late : List ((ℕ × Sci) × LateFrames)

-- by identifier in a group its key, the keys given in each group, and the keys in order; by member and
-- key the first report and the first time; what each member said last, and the speaker of each SCI; and
-- how many frames came early, joining and late
pub record StandsFor (h : List Event) (kept : KeptRollovers) : Type 0 where
  pub ids : (it : GroupId) → lookup (is_at (group_id_cmp it)) kept.ids ≡ key_of h it
  pub groups : (group key : ℕ) → has group_key_cmp kept.groups (group, key) ≡ is_given h group key
  pub order : kept.order ≡ in_order h
  pub packets : (m : Member) (key : ℕ) → lookup (is_at (member_key_cmp (m, key))) kept.packets ≡ reported h m key
  pub times : (m : Member) (key : ℕ) → lookup (is_at (member_key_cmp (m, key))) kept.times ≡ began h m key
  pub said : (m : Member) → lookup (is_at (member_cmp m)) kept.said ≡ said h m
  pub speakers : (at : ℕ × Sci) → lookup (is_at (number_sci_cmp at)) kept.speakers ≡ speaker h at
  pub unready : (p : Pair) → lookup (is_at (pair_cmp p)) kept.unready ≡ unready_counts h p
  pub late : (at : ℕ × Sci) → unwrap_or (lookup (is_at (number_sci_cmp at)) kept.late) none_late ≡ late h at
