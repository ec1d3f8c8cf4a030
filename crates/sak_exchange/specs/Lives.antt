-- What the laws say of a life (this profile's own rules): which key is received, in one sentence;
-- what is quiet; and which numbers rise.
use Rattle.std.specs.Prelude.{◌≡◌, ◌⊎◌, ℕ, ◌+◌, ◌<◌, true, false, if◌then◌else◌, List, [], ◌∷◌, ◌++◌, map, Option, Some, None}
use Rattle.lan_base.specs.declared.address.Mi.{Mi}
use Rattle.lan_base.specs.declared.key_id.KeyId.{KeyId}
use Rattle.lan_base.specs.declared.association_number.AssociationNumber.{AssociationNumber}
use Rattle.lan_base.specs.AssociationNumbers.{same_an}
use Rattle.lan_base.specs.Timers.{retire_time}
use Rattle.lan_base.specs.Identifiers.{same_mi}
use Rattle.sak_exchange.specs.declared.held_key.Key.{Key}
use Rattle.sak_exchange.specs.Histories.{Keying, ticked, installed, began, installs, made_count}
use Rattle.sak_exchange.specs.Held.{ends}
use Rattle.sak_exchange.specs.Taking.{greatest_of}

-- the key is in the list
abbrev pub Has : Key → List Key → Type 0
Has k [] = ⊥
Has k (j ∷ js) = (j ≡ k) ⊎ Has k js

-- the entry installs the key
abbrev pub Installs : Keying → Key → Type 0
Installs (ticked s) k = ⊥
Installs (installed r j) k = j ≡ k
Installs (began e) k = ⊥

-- The key was installed, and no entry that came since ends it.
pub record IsReceived (h : List Keying) (k : Key) : Type 0 where
  pub since : List Keying
  pub install : Keying
  pub before : List Keying
  pub whole : h ≡ since ++ install ∷ before
  pub installs : Installs install k
  pub stays : (newer : List Keying) (x : Keying) (older : List Keying) → since ≡ newer ++ x ∷ older
      → ends x (older ++ install ∷ before) k ≡ false

-- the keys that are there, the first one first
abbrev pub both : Option Key → Option Key → List Key
both None None = []
both None (Some o) = o ∷ []
both (Some l) None = l ∷ []
both (Some l) (Some o) = l ∷ o ∷ []

-- the key, if its association number is another
abbrev pub apart : AssociationNumber → Option Key → Option Key
apart an None = None
apart an (Some k) = if same_an an k.an then None else Some k

-- Nothing was installed, and a key server was elected at each tick.
abbrev pub IsQuiet : List Keying → Type 0
IsQuiet [] = Unit {0}
IsQuiet (ticked s ∷ h) = (s ≡ true) × IsQuiet h
IsQuiet (installed r k ∷ h) = ⊥
IsQuiet (began e ∷ h) = IsQuiet h

-- what came at a tick count came less than the retire time before another, if it came
abbrev pub IsFresh : ℕ → Option ℕ → Type 0
IsFresh now None = Unit {0}
IsFresh now (Some at) = now < at + retire_time

-- a number is greater than another, if there is one
abbrev pub IsOver : Option ℕ → ℕ → Type 0
IsOver None n = Unit {0}
IsOver (Some m) n = m < n

-- Each key that the station made has its own identifier and the next key number; each that it took
-- has a greater number than all that it installed of that key server.
abbrev pub IsNumbered : Mi → List Keying → Type 0
IsNumbered own [] = Unit {0}
IsNumbered own (ticked s ∷ h) = IsNumbered own h
IsNumbered own (installed None k ∷ h) =
    IsOver (greatest_of k.id.server h) k.id.number × IsNumbered own h
IsNumbered own (installed (Some r) k ∷ h) =
    (k.id.server ≡ own) × (k.id.number ≡ made_count h + 1) × IsNumbered own h
IsNumbered own (began e ∷ h) = IsNumbered own h

-- no key with the station's own identifier was taken
abbrev pub TakesNoneOfOwn : Mi → List Keying → Type 0
TakesNoneOfOwn own [] = Unit {0}
TakesNoneOfOwn own (ticked s ∷ h) = TakesNoneOfOwn own h
TakesNoneOfOwn own (installed None k ∷ h) = (same_mi k.id.server own ≡ false) × TakesNoneOfOwn own h
TakesNoneOfOwn own (installed (Some r) k ∷ h) = TakesNoneOfOwn own h
TakesNoneOfOwn own (began e ∷ h) = TakesNoneOfOwn own h

-- the epochs of the keys that were installed
abbrev pub epochs : List Keying → List ℕ
epochs h = map (λ k. k.epoch) (installs h)

-- the key numbers that were installed of a key server
abbrev pub numbers_of : Mi → List Keying → List ℕ
numbers_of s [] = []
numbers_of s (ticked b ∷ h) = numbers_of s h
numbers_of s (installed r k ∷ h) =
    if same_mi k.id.server s then k.id.number ∷ numbers_of s h else numbers_of s h
numbers_of s (began e ∷ h) = numbers_of s h

-- the identifiers of the keys that were installed
abbrev pub identifiers : List Keying → List KeyId
identifiers [] = []
identifiers (ticked s ∷ h) = identifiers h
identifiers (installed r k ∷ h) = k.id ∷ identifiers h
identifiers (began e ∷ h) = identifiers h
