-- What control gives of a race, step by step: the rest of what a race asks of control follows.
use Rattle.std.specs.Prelude.{◌≡◌, ◌≢◌, ◌⊎◌, ◌<◌, ◌≤◌, ℕ, true, List, [], ◌∷◌, Some}
use Rattle.lan_base.specs.declared.association_number.AssociationNumber.{AssociationNumber}
use Rattle.lan_base.specs.declared.frame.UserFrame.{UserFrame}
use Rattle.sak_exchange.specs.declared.held_key.Key.{Key}
use Rattle.sak_exchange.specs.Histories.{has_begun}
use Rattle.lan_core.specs.declared.settings.Settings.{Settings}
use Rattle.lan_core.specs.Run.{Run}
use Rattle.lan_core.specs.Lives.{Life, life, keys_in, transmitting_at}
use Rattle.lan_core.specs.Order.{is_event_of}
use Rattle.lan_core.specs.Legal.{IsStep, is_replaced}
use Rattle.worker_races.specs.merge.Places.{Move}
use Rattle.worker_races.specs.merge.Raced.{epoch_at, shown_of}
use Rattle.worker_races.specs.merge.Table.{Controls}

-- the AN of each key that transmits is the one under which its epoch was pointed at
abbrev pub AreUnder : Settings → (ℕ → ℕ → AssociationNumber) → Run → Type 0
AreUnder settings ans r =
    (s : ℕ) (k : Key) → transmitting_at settings s r ≡ Some k → k.an ≡ ans s k.epoch

-- the last epoch pointed at is of an earlier life, or began in this one
abbrev pub IsPast : Settings → ℕ → Run → ℕ → Type 0
IsPast settings s r p = (l : Life) → life settings s r ≡ Some l
    → (p ≤ l.member.base) ⊎ (has_begun (keys_in l) p ≡ true)

-- A step of control after a run, and what the places see of it. Where nothing was present for a
-- while, a key transmitted before and another does after it, and the facts drop the one and begin
-- the other.
pub record IsGiven (settings : Settings) (users : List UserFrame) (r : Run) (m : Move) :
    Type 0 where
  pub step : IsStep settings users m.x r
  pub own : is_event_of m.station m.x.event ≡ true
  pub shown : m.shown ≡ shown_of m.x.event
  pub before : m.before ≡ epoch_at settings m.station r
  pub after : m.after ≡ epoch_at settings m.station (m.x ∷ r)
  pub gap : m.gap ≡ true → (0 < m.before) × (0 < m.after) × (m.after ≢ m.before)
      × ((k : Key) → transmitting_at settings m.station r ≡ Some k
      → is_replaced m.station k m.x.facts ≡ true)

abbrev pub AreGiven : Settings → List UserFrame → (ℕ → ℕ → AssociationNumber) → Run → List Move
    → Type 0
AreGiven settings users ans r [] = Unit {0}
AreGiven settings users ans r (m ∷ ms) =
    IsGiven settings users r m × AreUnder settings ans (m.x ∷ r)
    × AreGiven settings users ans (m.x ∷ r) ms

-- what control gives of its events: steps of these stations, with the ANs after each
abbrev pub ArePerformed : Settings → List UserFrame → (ℕ → ℕ → AssociationNumber) → Run → Controls
    → Type 0
ArePerformed settings users ans r [] = Unit {0}
ArePerformed settings users ans r ((s, x) ∷ xs) =
    IsStep settings users x r × (is_event_of s x.event ≡ true) × AreUnder settings ans (x ∷ r)
    × ArePerformed settings users ans (x ∷ r) xs
