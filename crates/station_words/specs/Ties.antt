-- How the words of all stations tell a run, before an event, on its way and after it.
use Rattle.std.specs.Prelude.{◌≡◌, ◌+◌, ◌≤◌, ◌<◌, ℕ, ◌++◌, true, List, map, length, slice_get, Contains, Some, is_some}
use Rattle.atomic_table.specs.Seated.{TableId}
use Rattle.lan_base.specs.declared.key_id.KeyId.{KeyId}
use Rattle.lan_base.specs.declared.association_number.AssociationNumber.{AssociationNumber}
use Rattle.aes_block.specs.declared.secret.Secret.{Secret}
use Rattle.association_slots.specs.Cards.{card_at}
use Rattle.association_slots.specs.Views.{ControlAt, count, claimed}
use Rattle.sak_exchange.specs.declared.held_key.HeldKey.{HeldKey}
use Rattle.lan_core.specs.declared.event.Event.{Event}
use Rattle.lan_core.specs.declared.event.Event.TheVariants as events
use Rattle.lan_core.specs.declared.fact.Fact.{Fact}
use Rattle.lan_core.specs.declared.fact.Fact.TheVariants as facts
use Rattle.lan_core.specs.declared.settings.Settings.{Settings}
use Rattle.lan_core.specs.Run.{Run, stations, started}
use Rattle.lan_core.specs.Ledgers.{claims}
use Rattle.lan_core.specs.Keys.{held_at}
use Rattle.group_safety.specs.Transmitting.{Carried, follow, CarriesAt}
use Rattle.group_safety.specs.Accounts.{Account, account_at, numbers_at, ahead, onward}
use Rattle.association_slots.specs.declared.view.ControlView.{ControlView}
use Rattle.station_words.specs.Counting.{times_in}
use Rattle.station_words.specs.Telling.{KeepUp, Tells, CatchUp, HasClaimsBeside, of_seats}

-- the tables that hands are of
abbrev pub tables_of : List ControlAt → List TableId
tables_of cs = map (λ c. c.table) cs

-- the words of a station say this of its account after a run
abbrev pub IsTiedBy : (Account → ControlView → Type 0) → Settings → ℕ → Run → ControlAt → Type 0
IsTiedBy Says settings s r c =
    (k : Carried) × CarriesAt settings s r k × Says (account_at settings s r k) c.view

-- as many words as stations, and those of each say it
pub record AreTiedBy (Says : Account → ControlView → Type 0) (settings : Settings) (r : Run)
    (cs : List ControlAt) : Type 0 where
  pub many : length cs ≡ length (stations r)
  pub each : (s : ℕ) (c : ControlAt) → slice_get cs s ≡ Some c → IsTiedBy Says settings s r c

-- The same, where the step of an event was taken: a number was shown or claimed, and the words of a
-- station that starts are there.
abbrev pub IsAheadBy : (Account → ControlView → Type 0) → (ℕ → Event → Account → Account) → Settings
    → ℕ → Run → Event → ControlAt → Type 0
IsAheadBy Says takes settings s r event c = (k : Carried) × CarriesAt settings s r k
    × Says (takes s event (account_at settings s r k)) c.view

pub record AreAheadBy (Says : Account → ControlView → Type 0)
    (takes : ℕ → Event → Account → Account) (settings : Settings) (r : Run) (event : Event)
    (cs : List ControlAt) : Type 0 where
  pub many : length cs ≡ length (stations r ++ started event)
  pub each : (s : ℕ) (c : ControlAt) → slice_get cs s ≡ Some c
      → IsAheadBy Says takes settings s r event c

-- the words tell what a run does
abbrev pub IsTied : Settings → ℕ → Run → ControlAt → Type 0
IsTied settings s r c = IsTiedBy Tells settings s r c

abbrev pub AreTied : Settings → Run → List ControlAt → Type 0
AreTied settings r cs = AreTiedBy Tells settings r cs

abbrev pub AreAhead : Settings → Run → Event → List ControlAt → Type 0
AreAhead settings r event cs = AreAheadBy Tells ahead settings r event cs

-- the words keep up with a run, also while seats are out
abbrev pub HaveKeptUp : Settings → Run → List ControlAt → Type 0
HaveKeptUp settings r cs = AreTiedBy KeepUp settings r cs

abbrev pub KeepAhead : Settings → Run → Event → List ControlAt → Type 0
KeepAhead settings r event cs = AreAheadBy KeepUp onward settings r event cs

-- the words have caught up with a run, after workers claimed beside
abbrev pub HaveCaughtUp : Settings → Run → List ControlAt → Type 0
HaveCaughtUp settings r cs = AreTiedBy CatchUp settings r cs

abbrev pub CaughtAhead : Settings → Run → Event → List ControlAt → Type 0
CaughtAhead settings r event cs = AreAheadBy CatchUp onward settings r event cs

-- At each station a run has claims that another run has not, and is past them; what transmits and
-- what was shown there is the same.
pub record HaveClaimsBeside (settings : Settings) (q r : Run) : Type 0 where
  pub many : length (stations r) ≡ length (stations q)
  pub each : (s : ℕ) (k : Carried) → CarriesAt settings s q k → CarriesAt settings s r k
      × HasClaimsBeside (account_at settings s q k) (account_at settings s r k)

-- the claims of a run are those that seats told, each as often
abbrev pub AreToldAll : Run → List ControlAt → Type 0
AreToldAll r cs = (s : ℕ) (c : ControlAt) → slice_get cs s ≡ Some c → (epoch pn : ℕ)
    → count (claimed epoch pn) c.view.told ≡ times_in epoch pn (numbers_at s (claims r))

-- each key that facts install is held after a run
abbrev pub AreHeld : Settings → Run → List Fact → Type 0
AreHeld settings r shown = (s : ℕ) (id : KeyId) (an : AssociationNumber) (epoch : ℕ) (sak : Secret)
    → Contains shown (facts.Installed s id an epoch sak) → is_some (held_at settings s r an) ≡ true

-- where the words of a station said this of an account, they say it of what facts make of that
abbrev pub FollowsBy : (Account → ControlView → Type 0) → ℕ → List Fact → ControlAt → ControlAt
    → Type 0
FollowsBy Says s shown c d = (a : Account) (k : Carried) → Says a c.view
    → follow s shown a.carried ≡ Some k → Says (record a { carried = k }) d.view

-- the words of a station followed facts; no seat came or went
pub record Follows (s : ℕ) (shown : List Fact) (c d : ControlAt) : Type 0 where
  pub tells : FollowsBy Tells s shown c d
  pub keeps_up : FollowsBy KeepUp s shown c d
  pub seats : of_seats d.view ≡ of_seats c.view

-- No word was told anything, no seat came or went, and the cards are the same. Where the words kept up
-- with a run, they do so where some tick showed a number.
pub record HaveLooked (old new : List ControlAt) : Type 0 where
  pub many : length new ≡ length old
  pub each : (s : ℕ) (d : ControlAt) → slice_get new s ≡ Some d → (c : ControlAt)
      × (slice_get old s ≡ Some c) × (d.view.points ≡ c.view.points)
      × (of_seats d.view ≡ of_seats c.view) × (d.view.card_words ≡ c.view.card_words)
  pub shown : (settings : Settings) (r : Run) → HaveKeptUp settings r old → (s : ℕ) × (n : ℕ)
      × KeepAhead settings r (events.Tick s n) new

-- each station has the cards that it had
abbrev pub KeepCards : List ControlAt → List ControlAt → Type 0
KeepCards old new = (s : ℕ) (d : ControlAt) → slice_get new s ≡ Some d → (c : ControlAt)
    × (slice_get old s ≡ Some c) × (d.view.card_words ≡ c.view.card_words)

-- What the words of a station did of cards, where so many keys were installed before and after: the
-- cards before stay, and where one more was installed, its card is that of the key which is held after
-- a run under the association number of the install that the facts show.
pub record HasCarded (settings : Settings) (r : Run) (s : ℕ) (shown : List Fact) (count many : ℕ)
    (old new : ControlView) : Type 0 where
  pub earlier : (epoch : ℕ) → 0 < epoch → epoch ≤ count → card_at new epoch ≡ card_at old epoch
  pub given : many ≡ count + 1 → (id : KeyId) (an : AssociationNumber) (epoch : ℕ) (sak : Secret)
      (held : HeldKey) → Contains shown (facts.Installed s id an epoch sak)
      → held_at settings s r an ≡ Some held
      → card_at new (count + 1) ≡ record { sak = held.key.sak; conf = held.key.conf }

-- where the words of a station kept up with an account, they did so of its cards
abbrev pub CardsFollow : Settings → Run → ℕ → List Fact → ControlAt → ControlAt → Type 0
CardsFollow settings r s shown c d = (a : Account) (k : Carried) → KeepUp a c.view
    → follow s shown a.carried ≡ Some k
    → HasCarded settings r s shown a.carried.installs k.installs c.view d.view

-- the words of each station followed facts
pub record HaveFollowed (settings : Settings) (r : Run) (shown : List Fact) (old new : List ControlAt)
    : Type 0 where
  pub many : length new ≡ length old
  pub each : (s : ℕ) (d : ControlAt) → slice_get new s ≡ Some d
      → (c : ControlAt) × (slice_get old s ≡ Some c) × Follows s shown c d
  pub cards : (s : ℕ) (c d : ControlAt) → slice_get old s ≡ Some c → slice_get new s ≡ Some d
      → CardsFollow settings r s shown c d

-- the words of each station followed facts, if each key that these install is held after a run
abbrev pub Followed : Settings → Run → List Fact → List ControlAt → List ControlAt → Type 0
Followed settings r shown old new =
    AreHeld settings r shown → HaveFollowed settings r shown old new
