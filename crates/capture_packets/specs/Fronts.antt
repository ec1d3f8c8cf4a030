-- What a front of a file tells, beside the whole of it.
use Rattle.std.specs.Prelude.{◌≡◌, ◌≢◌, ℕ, List, ◌++◌, Some}
use Rattle.capture_packets.specs.declared.fault.CaptureFault.{CaptureFault}
use Rattle.capture_packets.specs.declared.fault.CaptureFault.TheVariants.{Cut}
use Rattle.capture_packets.specs.Packets.{Seen}
use Rattle.capture_packets.specs.Captures.{Told}

-- the packets of a front are the first ones of the whole, and where more than its end is refused of the
-- front, the whole tells the same
pub record IsToldBefore (front whole : Told) : Type 0 where
  pub later : List Seen
  pub packets : whole.packets ≡ front.packets ++ later
  pub refused : (at : ℕ) (why : CaptureFault) → front.refused ≡ Some (record { at = at; why = why })
      → why ≢ Cut → whole ≡ front
