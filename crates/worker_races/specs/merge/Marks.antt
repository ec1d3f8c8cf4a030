-- What stands in the merged list: the steps of control by their places from 0, and the claims.
use Rattle.std.specs.Prelude.{ℕ}
use Rattle.worker_races.specs.merge.Places.{Move, Attempt}

pub data Mark : Type 0 where
  Control : ℕ → Move → Mark
  Claim : Attempt → Mark
