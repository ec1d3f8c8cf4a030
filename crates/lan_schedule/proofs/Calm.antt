-- Before the first race nothing is left to chance.
use Rattle.std.proofs.Common.{◌≡◌, ℕ, false, refl}
use Rattle.lan_schedule.specs.World.{World, settings}
use Rattle.lan_schedule.specs.Numbers.{shown_next, claimed_number, number_shown, number_claimed}

-- each number is the next one
pub calm-shown : (w : World) (s : ℕ) → w.kept.raced ≡ false
    → number_shown w s ≡ shown_next (settings w) s w.run
calm-shown w s calm = rw calm refl

pub calm-claimed : (w : World) (s : ℕ) → w.kept.raced ≡ false
    → number_claimed w s ≡ claimed_number (settings w) s w.run
calm-claimed w s calm = rw calm refl
