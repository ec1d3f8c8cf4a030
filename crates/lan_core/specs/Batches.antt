-- Batches of protected frames that reach a station: each is answered as far as its tag before the
-- first of them is delivered.
use Rattle.std.specs.Prelude.{◌≡◌, ⊤, ℕ, true, List, [], ◌∷◌, ◌++◌, slice_get, Option, Some, None}
use Rattle.lan_base.specs.declared.address.Sci.{Sci}
use Rattle.lan_base.specs.declared.frame.UserFrame.{UserFrame}
use Rattle.gcm_frames.specs.Tags.{is_sec}
use Rattle.rx_slots.specs.declared.arrival.Checked.{Checked}
use Rattle.rx_slots.specs.Answers.{checked}
use Rattle.rx_slots.specs.Histories.{Receiving, standing_key}
use Rattle.rx_slots.specs.Slots.{Slots}
use Rattle.rx_slots.specs.Standing.{StandsFor as SlotsStandFor}
use Rattle.lan_core.specs.declared.event.Event.TheVariants.{Deliver}
use Rattle.lan_core.specs.declared.settings.Settings.{Settings}
use Rattle.lan_core.specs.Run.{Run, Happening, Profile, stations}
use Rattle.lan_core.specs.Ledgers.{Frame, frame_at}
use Rattle.lan_core.specs.Lives.{receiving}
use Rattle.lan_core.specs.Expected.{Drawn, expected}

-- what is answered at a station of this SCI to a protected frame, before its number is looked at,
-- under the keys that stand there after a run
abbrev pub checked_at : ℕ → Run → Sci → List ℕ → Checked
checked_at s r own octets = checked own (standing_key (receiving s r)) octets

-- a place has a station, and receive slots that stand for what it received; or none of both
abbrev pub HasSlots : Settings → List Receiving → Option Slots → Option Profile → Type 0
HasSlots settings h (Some slots) (Some p) = SlotsStandFor p.sci settings.window slots h
HasSlots settings h None None = ⊤
HasSlots settings h _ _ = ⊥

-- the frame of a number is on the air and is a protected one, and this is what a station answers to
-- it before its number is looked at
pub record IsChecked (r : Run) (number s : ℕ) (answer : Checked) : Type 0 where
  pub frame : Frame
  pub found : frame_at r number ≡ Some frame
  pub protected : is_sec frame.octets ≡ true
  pub profile : Profile
  pub station : slice_get (stations r) s ≡ Some profile
  pub is : answer ≡ checked_at s r profile.sci frame.octets

-- a protected frame reached a station after a run, and showed what it has to
pub record BringsData (settings : Settings) (users : List UserFrame) (r : Run)
    (x : Happening) : Type 0 where
  pub number : ℕ
  pub station : ℕ
  pub event : x.event ≡ Deliver number station
  pub frame : Frame
  pub found : frame_at r number ≡ Some frame
  pub protected : is_sec frame.octets ≡ true
  pub shows : (drawn : Drawn) → expected settings users r x.event drawn ≡ Some x.facts

-- after a run nothing happened but that protected frames reached stations
abbrev pub IsBatch : Settings → List UserFrame → Run → Run → Type 0
IsBatch settings users r [] = ⊤
IsBatch settings users r (x ∷ earlier) =
    BringsData settings users (earlier ++ r) x × IsBatch settings users r earlier
