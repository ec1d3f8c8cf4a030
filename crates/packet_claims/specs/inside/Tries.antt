-- How far a claim has come that has lost numbers alone.
use Rattle.std.specs.Prelude.{◌≡◌, ℕ, ◌<◌, ◌≤◌, List, ◌++◌}
use Rattle.association_slots.specs.Views.{In}
use Rattle.association_slots.specs.declared.view.Addition.{Addition}
use Rattle.association_slots.specs.declared.view.Mark.{Mark}
use Rattle.association_slots.specs.declared.view.SeatView.{SeatView}
use Rattle.packet_claims.specs.Claims.{Stays}

-- the epoch that was tried last, 0 for none, was shown and found gone
pub record Tries (v w : SeatView) (tried : ℕ) : Type 0 where
  pub lost : List Addition
  pub stays : Stays v w lost
  pub loads : v.loads ≤ w.loads
  pub additions : w.additions ≡ lost ++ v.additions
  pub notes : w.notes ≡ v.notes
  pub over : w.over ≡ v.over
  pub last : 0 < tried → (w.shown.epoch ≡ tried) × (tried ≤ w.limit) × ((m : Mark) × In m w.gone
      × (m.epoch ≡ tried))
