-- What transmits at a station, and how the facts of its events move it.
use Rattle.std.specs.Prelude.{◌≡◌, ◌≤◌, ◌⊎◌, ℕ, ◌+◌, ◌==◌, ◌&&◌, Bool, true, false, not, if◌then◌else◌}
use Rattle.std.specs.Prelude.{nat_lt, nat_le, List, [], ◌∷◌, Option, Some, None}
use Rattle.std.specs.Prelude.{option_map, option_and_then}
use Rattle.lan_base.specs.declared.association_number.AssociationNumber.{AssociationNumber}
use Rattle.lan_base.specs.declared.association_number.AssociationNumber.TheVariants.{An0}
use Rattle.lan_base.specs.AssociationNumbers.{same_an}
use Rattle.sak_exchange.specs.Histories.{Keying, install_count, has_begun}
use Rattle.sak_exchange.specs.Held.{transmitting}
use Rattle.lan_core.specs.declared.fact.Fact.{Fact}
use Rattle.lan_core.specs.declared.fact.Fact.TheVariants as facts
use Rattle.lan_core.specs.declared.settings.Settings.{Settings}
use Rattle.lan_core.specs.Run.{Run}
use Rattle.lan_core.specs.Order.{most_installs}
use Rattle.lan_core.specs.Lives.{Life, life, keys_in}

-- ---- what transmits

-- the epoch that began last, 0 for none, and whether it transmits, and under which association
-- number
pub record Sending : Type 0 where
  pub epoch : ℕ
  pub present : Bool
  pub an : AssociationNumber

abbrev pub sends : AssociationNumber → ℕ → Sending
sends an epoch = record { epoch = epoch; present = true; an = an }

abbrev pub silent_after : ℕ → Sending
silent_after epoch = record { epoch = epoch; present = false; an = An0 }

-- what transmitted at a station, newest first, and how many keys it installed
pub record Carried : Type 0 where
  pub points : List Sending
  pub installs : ℕ

abbrev pub newest : List Sending → Sending
newest [] = silent_after 0
newest (p ∷ ps) = p

abbrev pub now : Carried → Sending
now k = newest k.points

-- nothing was installed
abbrev pub nothing : Carried
nothing = record { points = []; installs = 0 }

-- whether a key transmits under an association number
abbrev pub names : Sending → AssociationNumber → Bool
names p an = p.present && same_an p.an an

-- ---- what moves it

-- a key is installed, where the limit allows it
abbrev pub installed : Carried → Option Carried
installed k =
    if nat_lt k.installs most_installs then Some (record k { installs = k.installs + 1 }) else None

-- whether the key of an epoch may begin under an association number: it was installed, it is later
-- than all that began, and none transmits there
abbrev pub may_begin : AssociationNumber → ℕ → Sending → ℕ → Bool
may_begin an epoch p installs =
    nat_lt p.epoch epoch && (nat_le epoch installs && not (names p an))

-- it begins to transmit
abbrev pub begun : AssociationNumber → ℕ → Carried → Option Carried
begun an epoch k =
    if may_begin an epoch (now k) k.installs
    then Some (record k { points = sends an epoch ∷ k.points }) else None

-- the key under an association number is held no more
abbrev pub ended : AssociationNumber → Carried → Carried
ended an k =
    if names (now k) an then record k { points = silent_after (now k).epoch ∷ k.points } else k

-- what a fact moves at its station; none where it can't come
abbrev pub moved : Fact → Carried → Option Carried
moved (facts.Installed station id an epoch sak) k = installed k
moved (facts.Began station id an epoch cause) k = begun an epoch k
moved (facts.Dropped station id an) k = Some (ended an k)
moved _ k = Some k

-- what it moves at some station: nothing at another one
abbrev pub moves : ℕ → Fact → Carried → Option Carried
moves s (facts.Installed station id an epoch sak) k = if station == s then installed k else Some k
moves s (facts.Began station id an epoch cause) k =
    if station == s then begun an epoch k else Some k
moves s (facts.Dropped station id an) k = if station == s then Some (ended an k) else Some k
moves s _ k = Some k

-- what facts move, the first one first
abbrev pub follow : ℕ → List Fact → Carried → Option Carried
follow s [] k = Some k
follow s (fact ∷ later) k = option_and_then (follow s later) (moves s fact k)

-- ---- what it is after a run

-- the association number and the epoch of what transmits
abbrev pub transmits : Sending → Option (AssociationNumber × ℕ)
transmits p = if p.present then Some (p.an, p.epoch) else None

-- What is carried is that of the keys of a life, before which so many were installed: it shows the
-- key that transmits, and the last epoch that began.
pub record Carries (base : ℕ) (h : List Keying) (k : Carried) : Type 0 where
  pub installs : k.installs ≡ base + install_count h
  pub shows : transmits (now k) ≡ option_map (λ key. (key.an, key.epoch)) (transmitting h)
  pub last : ((now k).epoch ≤ base) ⊎ (has_begun h (now k).epoch ≡ true)

abbrev pub CarriesIn : Option Life → Carried → Type 0
CarriesIn None k = k ≡ nothing
CarriesIn (Some l) k = Carries l.member.base (keys_in l) k

-- what is carried at a station after a run
abbrev pub CarriesAt : Settings → ℕ → Run → Carried → Type 0
CarriesAt settings s r k = CarriesIn (life settings s r) k
