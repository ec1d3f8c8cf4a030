-- How many workers a station may still have.
use Rattle.std.proofs.Common.{◌≡◌, ◌+◌, ℕ, List, drop}
use Rattle.lan_schedule.specs.Races.{Burst}
use Rattle.lan_schedule.specs.Races.{workers_at}

-- so many, where the bursts before a place are counted
abbrev pub IsLeft : ℕ → List Burst → ℕ → ℕ → Type 0
IsLeft s bs i left = workers_at s bs + left ≡ workers_at s (drop i bs) + 8
