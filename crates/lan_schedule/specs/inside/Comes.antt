-- Which acts can be performed in a world: each of their events may come where it is reached.
use Rattle.std.specs.Prelude.{◌≡◌, ◌≤◌, ℕ, List, false, length, Option, None}
use Rattle.lan_base.specs.declared.frame.UserFrame.{UserFrame}
use Rattle.lan_core.specs.declared.event.Event.{Event}
use Rattle.lan_core.specs.declared.event.Event.TheVariants as events
use Rattle.lan_core.specs.Claims.{user_at, next}
use Rattle.lan_core.specs.Run.{Run}
use Rattle.lan_core.specs.Stops.{MayCome}
use Rattle.trace_acts.specs.Acts as acts
pub use Rattle.trace_acts.specs.Acts.{IsGoing}
use Rattle.lan_schedule.specs.Sound.{IsTidy}
use Rattle.lan_schedule.specs.Races.{Excess, Worker}
use Rattle.lan_schedule.specs.World.{Kept, World, settings, is_racing}
use Rattle.lan_schedule.specs.Acts.{Act, rules}
use Rattle.lan_schedule.specs.Numbers.{number_shown, number_claimed}

-- the user frame that an event names
abbrev pub named : World → Event → Option UserFrame
named w (events.Claim s user pn) = user_at w.kept.users user
named w _ = None

-- where no race was begun, there are as many user frames as the number of this one, and no next
-- number is above it
abbrev pub HasRoom : World → ℕ → Type 0
HasRoom w user = w.kept.raced ≡ false
    → (user ≤ length w.kept.users) × ((s epoch : ℕ) → next (settings w) s epoch w.run ≤ user)

-- an event shows and claims the packet number that it has to, and no other; a claim finds one left;
-- and in the midst of a race no station starts, none but workers claim, and nothing is emitted
abbrev pub IsExact : World → Event → Type 0
IsExact w (events.Start name sci priority) = is_racing w.kept.phase ≡ false
IsExact w (events.Tick s shown) = shown ≡ number_shown w s
IsExact w (events.Claim s user pn) =
    (pn ≡ number_claimed w s) × HasRoom w user × (is_racing w.kept.phase ≡ false)
IsExact w events.Emit = is_racing w.kept.phase ≡ false
IsExact w _ = Unit {0}

-- lines of control change neither what was chosen nor the user frames
pub record IsSteady (w v : World) : Type 0 where
  pub chosen : v.kept.chosen ≡ w.kept.chosen
  pub begun : v.kept.begun ≡ w.kept.begun
  pub users : v.kept.users ≡ w.kept.users

-- what acts ask
abbrev pub asks : acts.Demands Run Kept Event Excess (List Worker)
asks = record {
  IsTidy = λ w. IsTidy w;
  MayCome = λ w event.
      MayCome (settings w) w.kept.users w.run (named w event) event × IsExact w event;
  MayEnd = λ workers w v. IsSteady w v;
}

-- an act can be performed in a world
abbrev pub Comes : Act → World → Type 0
Comes act w = acts.Comes rules asks act w
