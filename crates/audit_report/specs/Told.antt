-- What is told of packets.
use Rattle.std.specs.Prelude.{ℕ, Bool, List}
use Rattle.audit_report.specs.declared.finding.Finding.{Finding}

-- of a packet: the words that its line begins with, what it is behind the ones before it, and whether
-- it has no time of its own
pub record Told : Type 0 where
  pub begun : List (List ℕ)
  pub finding : Finding
  pub is_untimed : Bool
