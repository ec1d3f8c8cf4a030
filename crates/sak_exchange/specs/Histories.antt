-- The history of one life of a station, as far as its keys go (IEEE Std 802.1X, clause 9). It
-- stands newest first.
use Rattle.std.specs.Prelude.{ℕ, ◌==◌, ◌+◌, Bool, if◌then◌else◌, List, [], ◌∷◌, Option, Some, None, is_some}
use Rattle.lan_base.specs.declared.address.Mi.{Mi}
use Rattle.sak_exchange.specs.declared.held_key.Key.{Key}

-- A tick, and whether a key server was elected then; a key that was installed, with its roster
-- where this life made it and none where it was taken; a key that began, by its epoch.
pub data Keying : Type 0 where
  ticked : Bool → Keying
  installed : Option (List Mi) → Key → Keying
  began : ℕ → Keying

-- the tick count
abbrev pub clock : List Keying → ℕ
clock [] = 0
clock (ticked s ∷ h) = clock h + 1
clock (installed r k ∷ h) = clock h
clock (began e ∷ h) = clock h

-- the keys that were installed
abbrev pub installs : List Keying → List Key
installs [] = []
installs (ticked s ∷ h) = installs h
installs (installed r k ∷ h) = k ∷ installs h
installs (began e ∷ h) = installs h

-- the key that was installed last
abbrev pub last_key : List Keying → Option Key
last_key [] = None
last_key (ticked s ∷ h) = last_key h
last_key (installed r k ∷ h) = Some k
last_key (began e ∷ h) = last_key h

-- its roster, where this life made it
abbrev pub last_roster : List Keying → Option (List Mi)
last_roster [] = None
last_roster (ticked s ∷ h) = last_roster h
last_roster (installed r k ∷ h) = r
last_roster (began e ∷ h) = last_roster h

-- the tick count at which this life last made a key
abbrev pub last_made_at : List Keying → Option ℕ
last_made_at [] = None
last_made_at (ticked s ∷ h) = last_made_at h
last_made_at (installed None k ∷ h) = last_made_at h
last_made_at (installed (Some r) k ∷ h) = Some (clock h)
last_made_at (began e ∷ h) = last_made_at h

-- how many keys were installed
abbrev pub install_count : List Keying → ℕ
install_count [] = 0
install_count (ticked s ∷ h) = install_count h
install_count (installed r k ∷ h) = install_count h + 1
install_count (began e ∷ h) = install_count h

-- how many keys this life made
abbrev pub made_count : List Keying → ℕ
made_count [] = 0
made_count (ticked s ∷ h) = made_count h
made_count (installed None k ∷ h) = made_count h
made_count (installed (Some r) k ∷ h) = made_count h + 1
made_count (began e ∷ h) = made_count h

-- the tick count at which the key of an epoch began
abbrev pub begun_at : List Keying → ℕ → Option ℕ
begun_at [] e = None
begun_at (ticked s ∷ h) e = begun_at h e
begun_at (installed r k ∷ h) e = begun_at h e
begun_at (began f ∷ h) e = if f == e then Some (clock h) else begun_at h e

-- whether the key of an epoch has begun
abbrev pub has_begun : List Keying → ℕ → Bool
has_begun h e = is_some (begun_at h e)

-- the epochs of the keys that began
abbrev pub beginnings : List Keying → List ℕ
beginnings [] = []
beginnings (ticked s ∷ h) = beginnings h
beginnings (installed r k ∷ h) = beginnings h
beginnings (began e ∷ h) = e ∷ beginnings h

-- the epoch of the key that began last
abbrev pub last_begun : List Keying → Option ℕ
last_begun [] = None
last_begun (ticked s ∷ h) = last_begun h
last_begun (installed r k ∷ h) = last_begun h
last_begun (began e ∷ h) = Some e
