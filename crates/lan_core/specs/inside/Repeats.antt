-- What foreign octets may repeat, as it is looked up.
use Rattle.std.specs.Prelude.{◌≡◌, ◌⊎◌, ℕ, nat_eq, Bool, false, List, map, sum, length, slice_get, Option, Some, None, option_and_then}
use Rattle.std.specs.List.{starts_with, Contains}
use Rattle.std.specs.Map.{lookup}
use Rattle.std.specs.BTreeMap.{is_at}
use Rattle.std.specs.Ordering.{nat_cmp}
use Rattle.std.specs.Cmp.Lexicographic.{slice_cmp}
use Rattle.mkpdu_codec.specs.Reading.{check_value, reading}
use Rattle.lan_core.specs.Fresh.{same_spelling}
use Rattle.lan_core.specs.inside.Limits.{IsLight}

-- whether octets repeat a frame, but for what stands after its body
abbrev pub repeats_octets : List ℕ → List ℕ → Bool
repeats_octets octets frame = same_spelling octets frame (reading octets) (reading frame)

-- whether something is there and passes a test
abbrev pub is_so : {A : Type 0} → (A → Bool) → Option A → Bool
is_so test None = false
is_so test (Some x) = test x

-- whether a frame begins with octets
abbrev pub begins : List ℕ → List ℕ → Bool
begins octets frame = starts_with nat_eq frame octets

-- whether there is a frame at a place, and begins with octets
abbrev pub begins_at : List (List ℕ) → List ℕ → Option ℕ → Bool
begins_at frames octets place = is_so (begins octets) (option_and_then (slice_get frames) place)

-- the places of frames: of the first with each check value, and of the others
pub record Checks : Type 0 where
  pub firsts : List (List ℕ × ℕ)
  pub others : List ℕ

-- the place of the first frame with a check value
abbrev pub first_with : Checks → List ℕ → Option ℕ
first_with checks check = lookup (is_at (slice_cmp nat_cmp check)) checks.firsts

-- a place is found by a check value
abbrev pub IsFound : Checks → List ℕ → ℕ → Type 0
IsFound checks check place =
    (first_with checks check ≡ Some place) ⊎ Contains checks.others place

-- the index of frames: how many octets they have, no more than there may be, and their places by
-- their check values
pub record IsIndex (frames : List (List ℕ)) (count : ℕ) (checks : Checks) : Type 0 where
  pub octets : count ≡ sum (map length frames)
  pub within : IsLight frames
  pub found : (place : ℕ) (frame check : List ℕ) → slice_get frames place ≡ Some frame
      → check_value frame ≡ Some check → IsFound checks check place
