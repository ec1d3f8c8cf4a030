-- How what is kept is put.
use Rattle.std.specs.Prelude.{ℕ, ◌≡◌, ◌&&◌, true, if◌then◌else◌, List, Bool, Some, None, unwrap_or}
use Rattle.std.specs.Map.{lookup}
use Rattle.std.specs.Option.{option_or}
use Rattle.std.specs.BTreeMap.{is_at}
use Rattle.std.specs.declared.cmp.Ordering.{Ordering}
use Rattle.lan_base.specs.declared.address.Sci.{Sci}
use Rattle.member_notes.specs.Standing.{member_cmp}
use Rattle.rollover_notes.specs.Speaking.{Member}
use Rattle.rollover_notes.specs.Standing.{MemberKey, has, member_key_cmp, number_sci_cmp}
use Rattle.rollover_notes.specs.declared.late_frames.LateFrames.{LateFrames}
use Rattle.rollover_notes.specs.Counted.{none_late, with_late}

-- a value is found under a key, and under others what was
abbrev pub Puts : {K X : Type 0} → (K → K → Ordering) → K → X → List (K × X) → List (K × X) → Type 0
Puts {K} cmp k x old new =
    (q : K) → lookup (is_at (cmp q)) new ≡ (if is_at (cmp k) q then Some x else lookup (is_at (cmp q)) old)

-- a value is found under a key where none was
abbrev pub PutsFirst : {K X : Type 0} → (K → K → Ordering) → K → X → List (K × X) → List (K × X) → Type 0
PutsFirst {K} cmp k x old new =
    (q : K) → lookup (is_at (cmp q)) new
    ≡ option_or (lookup (is_at (cmp q)) old) (if is_at (cmp k) q then Some x else None)

-- a key more is in a set
abbrev pub Adds : {K : Type 0} → (K → K → Ordering) → K → List K → List K → Type 0
Adds {K} cmp k old new = (q : K) → has cmp new q ≡ (if is_at (cmp k) q then true else has cmp old q)

-- a value is found under a member and each key that it shows, where none was
abbrev pub PutsShown : (ℕ → Bool) → Member → ℕ → List (MemberKey × ℕ) → List (MemberKey × ℕ) → Type 0
PutsShown shows m value old new =
    (q : MemberKey) → lookup (is_at (member_key_cmp q)) new
    ≡ option_or (lookup (is_at (member_key_cmp q)) old)
    (if is_at (member_cmp m) q.0 && shows q.1 then Some value else None)

-- late frames under a key, of a sender
abbrev pub Lates : Type 0
Lates = List ((ℕ × Sci) × LateFrames)

abbrev pub lates_at : Lates → ℕ × Sci → LateFrames
lates_at lates at = unwrap_or (lookup (is_at (number_sci_cmp at)) lates) none_late

-- one of a packet is counted, where it is to be
abbrev pub CountsMore : Bool → ℕ → ℕ × Sci → Lates → Lates → Type 0
CountsMore counted packet at old new =
    (q : ℕ × Sci) → lates_at new q
    ≡ (if is_at (number_sci_cmp at) q && counted then with_late packet (lates_at old q) else lates_at old q)
