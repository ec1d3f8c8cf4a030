-- How the parts of a value change.
use Rattle.std.specs.Prelude.{ℕ, ◌≡◌, ◌≢◌, ◌==◌, nat_lt, Bool, true, false, if◌then◌else◌, List, [], ◌∷◌, Some}
use Rattle.lan_base.specs.declared.association_number.AssociationNumber.{AssociationNumber}
use Rattle.aes_block.specs.declared.secret.Secret.{Secret}
use Rattle.known_keys.specs.declared.sender.Sender.{Sender}
use Rattle.known_keys.specs.declared.sender.Sender.TheVariants.{Any}
use Rattle.known_keys.specs.Numbered.{number_in, with_key}
use Rattle.known_keys.specs.Maps.{AreKept, Keyed, Place, Told, numbers_at, numbers_under}

-- ---- numbers in a list

-- a list of numbers, the greatest first, with this one at its place
abbrev pub with_place : ℕ → List ℕ → List ℕ
with_place n [] = n ∷ []
with_place n (m ∷ ms) =
    if nat_lt n m then m ∷ with_place n ms
    else if m == n then m ∷ ms
    else n ∷ m ∷ ms

-- ---- the keys

-- a SAK is one of the keys from now on, and has this number
pub record IsKeyed (saks : List Secret) (sak : Secret) (n : ℕ) (new : Keyed) : Type 0 where
  pub kept : AreKept (with_key saks (Some sak)) new
  pub number : number_in (with_key saks (Some sak)) sak ≡ Some n

-- ---- lists of numbers by association number and sender

-- a number more stands at one place
pub record IsPutAt (place : Place) (number : ℕ) (old new : Told) : Type 0 where
  pub here : numbers_at new place ≡ with_place number (numbers_at old place)
  pub others : (q : Place) → q ≢ place → numbers_at new q ≡ numbers_at old q

-- a number more stands under one sender and association number
pub record IsToldTo (sender : Sender) (an : AssociationNumber) (number : ℕ) (old new : Told) : Type 0
  where
    pub here : numbers_under new sender an ≡ with_place number (numbers_under old sender an)
    pub others : (s : Sender) (a : AssociationNumber) → ((s ≡ sender) × (a ≡ an) → ⊥)
        → numbers_under new s a ≡ numbers_under old s a

-- a key of this number is told for the frames of any sender, if frames are opened under it
abbrev pub Opens : Bool → AssociationNumber → ℕ → Told → Told → Type 0
Opens true an number old new = IsToldTo Any an number old new
Opens false an number old new = new ≡ old
