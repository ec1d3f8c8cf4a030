-- What a log says once its seat was told, by what control then knows.
use Rattle.std.specs.Prelude.{◌≡◌, ℕ, ◌+◌, ◌^◌, ◌<◌, ◌≤◌, ◌&&◌, ◌==◌, List, [], ◌∷◌}
use Rattle.association_slots.specs.Cards.{card_at}
use Rattle.association_slots.specs.Views.{In, WasAbsent, present_at, one}
use Rattle.association_slots.specs.declared.view.ControlView.{ControlView}
use Rattle.association_slots.specs.declared.view.Mark.{Mark}
use Rattle.lan_base.specs.declared.frame.Protected.{Protected}
use Rattle.packet_claims.specs.declared.answers.NoClaim.{NoClaim}
use Rattle.packet_claims.specs.declared.answers.NoClaim.TheVariants.{NoKey, Exhausted}
use Rattle.data_workers.specs.declared.entry.Entry.{Entry}
use Rattle.data_workers.specs.declared.entry.Entry.TheVariants.{Taken, Refused}
use Rattle.data_workers.specs.declared.sender.Sender.{Sender}
use Rattle.data_workers.specs.Entries.{frame_under}

-- a frame whose epoch was pointed at under its association number, protected under the card that
-- control gave that epoch
pub record IsToldFrame (c : ControlView) (s : Sender) (p : Protected) : Type 0 where
  pub of_station : p.station ≡ s.station
  pub pointed : In (present_at p.an p.epoch) c.points
  pub range : (c.first ≤ p.pn) × (p.pn < 2 ^ 32)
  pub octets : p.octets ≡ frame_under s (card_at c p.epoch) p.an p.pn

-- nothing was present, and that epoch was the last one; or it was marked as over, and was pointed
-- at
abbrev pub IsToldCause : ControlView → NoClaim → Type 0
IsToldCause c (NoKey after) = WasAbsent c.points after
IsToldCause c (Exhausted epoch) =
    (m : Mark) × In m c.told_over × (m.epoch ≡ epoch) × In (present_at m.an epoch) c.points

abbrev pub IsToldEntry : ControlView → Sender → Entry → Type 0
IsToldEntry c s (Taken p) = IsToldFrame c s p
IsToldEntry c s (Refused station why) = (station ≡ s.station) × IsToldCause c why

-- how many frames of a log have this number of this epoch
abbrev pub times_taken : ℕ → ℕ → List Entry → ℕ
times_taken epoch pn [] = 0
times_taken epoch pn (Taken p ∷ log) =
    one ((p.epoch == epoch) && (p.pn == pn)) + times_taken epoch pn log
times_taken epoch pn (Refused station why ∷ log) = times_taken epoch pn log
