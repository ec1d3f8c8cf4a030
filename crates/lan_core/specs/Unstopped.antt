-- An unstopped event: it may come, nothing stops it, and it shows what it has to. Then packet
-- numbers that leave none out (this profile's own rules).
use Rattle.std.specs.Prelude.{◌≡◌, ◌⊎◌, ℕ, ◌+◌, List, Option, Some, None}
use Rattle.lan_base.specs.declared.frame.UserFrame.{UserFrame}
use Rattle.sak_exchange.specs.declared.held_key.Key.{Key}
use Rattle.lan_core.specs.declared.event.Event.{Event}
use Rattle.lan_core.specs.declared.event.Event.TheVariants as events
use Rattle.lan_core.specs.declared.fact.Fact.{Fact}
use Rattle.lan_core.specs.declared.settings.Settings.{Settings}
use Rattle.lan_core.specs.Run.{Run}
use Rattle.lan_core.specs.Lives.{transmitting_at}
use Rattle.lan_core.specs.Claims.{next}
use Rattle.lan_core.specs.Expected.{expected, drawn_from}
use Rattle.lan_core.specs.Types.{IsSetting, IsTyped, AreSome}
use Rattle.lan_core.specs.Stops.{MayCome, first_stop}

-- the draws of a supply, by their place from 0: each has 16 octets, and behind the last there are
-- none
pub record AreDraws (nth : ℕ → Option (List ℕ)) : Type 0 where
  pub shape : (place : ℕ) (draw : List ℕ) → nth place ≡ Some draw → AreSome 16 draw
  pub ends : (place : ℕ) → nth place ≡ None → nth (place + 1) ≡ None

-- An event is unstopped after a run, with the user frame that is given with it, the draws that a
-- supply gives next, and the facts that it shows.
pub record IsUnstopped (settings : Settings) (users : List UserFrame) (r : Run)
    (given : Option UserFrame) (event : Event) (nth : ℕ → Option (List ℕ)) (shown : List Fact) :
    Type 0 where
  pub setting : IsSetting settings
  pub typed : IsTyped event
  pub draws : AreDraws nth
  pub may_come : MayCome settings users r given event
  pub shows : expected settings users r event (drawn_from settings.suite nth) ≡ Some shown
  pub goes : first_stop settings users r event nth ≡ None

-- ---- packet numbers

-- the next packet number under a key, and 0 without one
abbrev pub next_under : Settings → ℕ → Run → Option Key → ℕ
next_under settings s r None = 0
next_under settings s r (Some k) = next settings s k.epoch r

-- a tick shows, and a claim takes, exactly the next number under the key that transmits; a claim
-- may take none
abbrev pub LeavesNoneOut : Settings → Run → Event → Type 0
LeavesNoneOut settings r (events.Tick s shown) =
    shown ≡ next_under settings s r (transmitting_at settings s r)
LeavesNoneOut settings r (events.Claim s user pn) =
    (pn ≡ 0) ⊎ (pn ≡ next_under settings s r (transmitting_at settings s r))
LeavesNoneOut settings r _ = Unit {0}
