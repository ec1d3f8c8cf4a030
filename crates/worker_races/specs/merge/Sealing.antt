-- Frames of logs that were protected under the keys that stations installed.
use Rattle.std.specs.Prelude.{◌≡◌, ◌⊎◌, ℕ, suc, List, [], ◌∷◌, Option, Some, None, slice_get}
use Rattle.std.specs.List.{AllByRecursion}
use Rattle.lan_base.specs.declared.frame.Protected.{Protected}
use Rattle.lan_base.specs.declared.frame.UserFrame.{UserFrame}
use Rattle.aes_block.specs.Secrets.{secret_octets}
use Rattle.gcm_frames.specs.Protected.{protected}
use Rattle.sak_exchange.specs.declared.held_key.Key.{Key}
use Rattle.sak_exchange.specs.Histories.{installs}
use Rattle.sak_exchange.specs.Lives.{Has}
use Rattle.association_slots.specs.declared.card.Card.{Card}
use Rattle.data_workers.specs.declared.entry.Entry.{Entry}
use Rattle.data_workers.specs.declared.entry.Entry.TheVariants.{Taken, Refused}
use Rattle.lan_core.specs.declared.settings.Settings.{Settings}
use Rattle.lan_core.specs.Run.{Run, Profile, stations}
use Rattle.lan_core.specs.Lives.{Life, life, keys_in}
use Rattle.lan_core.specs.Claims.{user_at}

-- ---- keys

abbrev pub HasInLife : Key → Option Life → Type 0
HasInLife k None = ⊥
HasInLife k (Some l) = Has k (installs (keys_in l))

-- a station installed a key, in the life that it is in or in one before
abbrev pub HasInstalled : Settings → ℕ → Key → Run → Type 0
HasInstalled settings s k [] = ⊥
HasInstalled settings s k (x ∷ r) =
    HasInLife k (life settings s (x ∷ r)) ⊎ HasInstalled settings s k r

-- the cards of a station's epochs are those of the keys that it installed with them
abbrev pub AreCards : Settings → (ℕ → ℕ → Card) → Run → Type 0
AreCards settings cards r = (s : ℕ) (k : Key) → HasInstalled settings s k r
    → cards s k.epoch ≡ record { sak = k.sak; conf = k.conf }

-- ---- frames

-- a user frame of a log, from the SCI of its station, protected under the card of its epoch
pub record IsSealedUnder (users : List UserFrame) (cards : ℕ → ℕ → Card) (r : Run) (number : ℕ)
    (p : Protected) : Type 0 where
  pub user : UserFrame
  pub named : user_at users number ≡ Some user
  pub profile : Profile
  pub placed : slice_get (stations r) p.station ≡ Some profile
  pub octets : let card = cards p.station p.epoch in
      p.octets ≡ protected (secret_octets card.sak) profile.sci p.an p.pn card.conf user

abbrev pub IfFrame : (Protected → Type 0) → Entry → Type 0
IfFrame test (Taken p) = test p
IfFrame test (Refused s why) = Unit {0}

-- the frames of each log, of which the first has this user frame
abbrev pub AreSealed : List UserFrame → (ℕ → ℕ → Card) → Run → ℕ → List (List Entry) → Type 0
AreSealed users cards r number [] = Unit {0}
AreSealed users cards r number (log ∷ logs) =
    AllByRecursion (IfFrame (IsSealedUnder users cards r number)) log
    × AreSealed users cards r (suc number) logs
