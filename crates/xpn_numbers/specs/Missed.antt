-- A true frame behind a right one: what is tried of it.
use Rattle.std.specs.Prelude.{ℕ, ◌≡◌, ◌+◌, ◌*◌, ◌/◌, ◌%◌, ◌<◌, ◌≤◌, ◌⊎◌, List, [], ◌∷◌, Some}
use Rattle.gcm_frames.specs.Protected.{xpn_iv}
use Rattle.xpn_numbers.specs.declared.candidate.Candidate.{Candidate}
use Rattle.xpn_numbers.specs.declared.candidate.Tried.{Tried}
use Rattle.xpn_numbers.specs.declared.form.Form.{Form}
use Rattle.xpn_numbers.specs.declared.form.Salted.{Salted}
use Rattle.xpn_numbers.specs.declared.place.Place.{Place}
use Rattle.xpn_numbers.specs.Candidates.{halves, sscis_of}

-- an element stands in a list
abbrev pub IsIn : {X : Type 0} → List X → X → Type 0
IsIn [] x = ⊥
IsIn (y ∷ ys) x = (x ≡ y) ⊎ IsIn ys x

-- a frame has this packet number of 64 bits, and the last right frame of its key and sender stood at
-- this place, with a number before it: fewer than 2 ^ 32 are between
pub record IsBehind (tried : Tried) (last : Place) (number : ℕ) : Type 0 where
  pub before : ℕ
  pub high : before / halves ≡ last.high
  pub after : before ≤ number
  pub few : number < before + halves
  pub fits : number < halves * halves
  pub low : number % halves ≡ tried.pn

-- a form has a salt and a short SCI
pub record HasSsci (form : Form) (salt : List ℕ) (ssci : ℕ) : Type 0 where
  pub salted : Salted
  pub is : form.salted ≡ Some salted
  pub with_salt : salted.salt ≡ salt
  pub has : IsIn (sscis_of salted.sscis) ssci

-- what is tried of a frame with a salt, a short SCI and a packet number
abbrev pub numbered : Tried → ℕ → List ℕ → ℕ → ℕ → Candidate
numbered tried clear salt ssci number = record {
  key = tried.key;
  clear = clear;
  iv = xpn_iv salt ssci number;
  xpn = Some (record { ssci = ssci; number = number });
}
