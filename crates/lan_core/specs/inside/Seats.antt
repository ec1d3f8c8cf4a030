-- What an event comes to at the seat of its station.
use Rattle.std.specs.Prelude.{◌≡◌, ◌≢◌, ◌≤◌, ◌<◌, ◌⊎◌, ℕ, ◌+◌, false, List, [], ◌∷◌, slice_get, Option, Some, None, option_map}
use Rattle.lan_base.specs.declared.frame.UserFrame.{UserFrame}
use Rattle.lan_base.specs.Ranges.{IsUserData, most_ticks}
use Rattle.aes_block.specs.Secrets.{secret_octets}
use Rattle.gcm_frames.specs.Protected.{protected}
use Rattle.sak_exchange.specs.Held.{held, transmitting}
use Rattle.rx_slots.specs.Histories.{Receiving}
use Rattle.mka_station.specs.Drawing.{sak_of, is_short, draws_at}
use Rattle.mka_station.specs.Standing.{drawn_mi, reborn}
use Rattle.lan_core.specs.declared.event_facts.EventFacts.{EventFacts}
use Rattle.lan_core.specs.declared.claimed.Claimed.{Claimed}
use Rattle.lan_core.specs.declared.fact.Fact.{Fact}
use Rattle.lan_core.specs.declared.fact.Fact.TheVariants as facts
use Rattle.lan_core.specs.declared.settings.Settings.{Settings}
use Rattle.lan_core.specs.Run.{Run}
use Rattle.lan_core.specs.Ledgers.{gather}
use Rattle.lan_core.specs.Lives.{Life, keys_in, receiving, seen_at, slot_change, heard_data, lived_ticking, lived_hearing}
use Rattle.lan_core.specs.Expected.{tick_facts, reached_facts, restart_facts}
use Rattle.lan_core.specs.Order.{most_installs}
use Rattle.lan_core.specs.Standing.{Seat, Sits}

-- how many keys facts install
abbrev pub installs_in : List Fact → ℕ
installs_in [] = 0
installs_in (facts.Installed station id an epoch sak ∷ later) = installs_in later + 1
installs_in (_ ∷ later) = installs_in later

-- a station has no more ticks in its life, and no more installs, than there may be
pub record IsFew (seat : Seat) : Type 0 where
  pub ticks : seat.ticks ≤ most_ticks
  pub installs : seat.installs ≤ most_installs

-- it has more
abbrev pub IsPast : Seat → Type 0
IsPast seat = (most_ticks < seat.ticks) ⊎ (most_installs < seat.installs)

-- Among seats, that of one place now stands for a life and what its slots received, and has so many
-- installs; the others are as before.
pub record IsMoved (window : ℕ) (l : Life) (h : List Receiving) (s : ℕ) (old new : List Seat)
    (count : ℕ) : Type 0 where
  pub seat : Seat
  pub there : slice_get new s ≡ Some seat
  pub others : (t : ℕ) → t ≢ s → slice_get new t ≡ slice_get old t
  pub sits : Sits window l h seat
  pub installs : seat.installs ≡ count

-- a tick at a station
pub record Ticks (settings : Settings) (r : Run) (s : ℕ) (seat : Seat) (l : Life) (next : ℕ)
    (before after : ℕ → Option (List ℕ))
    (old new : List Seat) (event_facts : EventFacts) : Type 0 where
  pub facts : event_facts.facts ≡ tick_facts settings s r next (sak_of l.member.setup.suite before) l
  pub counted : event_facts.installs ≡ seat.installs + installs_in event_facts.facts
  pub moved : IsMoved settings.window (lived_ticking settings s r next
      (sak_of l.member.setup.suite before) l)
      (gather (slot_change s) event_facts.facts (receiving s r)) s old new event_facts.installs
  pub enough : is_short l.member l.past (seen_at settings s r l next) before ≡ false
  pub drawn : (k : ℕ) → after k ≡ before (k
      + draws_at l.member l.past (seen_at settings s r l next))

-- octets reach a station
pub record Reaches (settings : Settings) (r : Run) (s : ℕ) (seat : Seat) (l : Life) (number : ℕ)
    (octets : List ℕ)
    (old new : List Seat) (event_facts : EventFacts) : Type 0 where
  pub facts : event_facts.facts ≡ reached_facts settings s r number octets l
  pub counted : event_facts.installs ≡ seat.installs + installs_in event_facts.facts
  pub moved : IsMoved settings.window (lived_hearing l octets)
      (gather (slot_change s) event_facts.facts (heard_data octets
      (receiving s r))) s old new event_facts.installs

-- a station starts again
pub record Restarts (settings : Settings) (r : Run) (s : ℕ) (seat : Seat) (l : Life) (draw : List ℕ)
    (old new : List Seat)
    (event_facts : EventFacts) : Type 0 where
  pub facts : event_facts.facts ≡ restart_facts s (drawn_mi draw) l
  pub counted : event_facts.installs ≡ seat.installs + installs_in event_facts.facts
  pub moved : IsMoved settings.window (record { member = reborn l.member l.past draw; past = [] })
      (gather (slot_change s) event_facts.facts (receiving s r)) s old new event_facts.installs

-- a claim of a packet number at a station, with this user frame: the key that transmits, and, where
-- there is a number, the frame that it protects
pub record Claims (l : Life) (pn : ℕ) (given : Option UserFrame) (claimed : Claimed) : Type 0 where
  pub key : claimed.key ≡ option_map (held (keys_in l)) (transmitting (keys_in l))
  pub none : pn ≡ 0 → claimed.octets ≡ None
  pub octets : (user : UserFrame) → 1 ≤ pn → given ≡ Some user → IsUserData user.body
      → claimed.octets ≡ option_map (λ k. protected (secret_octets k.sak)
      l.member.setup.sci k.an pn k.conf user) (transmitting (keys_in l))
