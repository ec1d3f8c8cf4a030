-- What control performed beside the workers, and how it was kept for the merged list.
use Rattle.std.specs.Prelude.{◌≡◌, ℕ, true, List, [], ◌∷◌, map, unwrap_or}
use Rattle.lan_base.specs.declared.frame.UserFrame.{UserFrame}
use Rattle.lan_core.specs.declared.settings.Settings.{Settings}
use Rattle.lan_core.specs.Run.{Run, Happening}
use Rattle.lan_core.specs.Legal.{IsStep}
use Rattle.lan_core.specs.Order.{is_event_of}
use Rattle.lan_core.specs.Parts.{followed_by}
use Rattle.worker_races.specs.declared.merge.step.Step.{Step}
use Rattle.worker_races.specs.merge.Raced.{epoch_at}
use Rattle.worker_races.specs.merge.Table.{Controls}

-- the events, with their facts
abbrev pub happenings : Controls → List Happening
happenings performed = map (λ p. p.1) performed

-- the run with them, and no claim
abbrev pub run_after : Controls → Run → Run
run_after performed r = followed_by (happenings performed) r

-- an event of a station after a run, and how it was kept: with the epochs that transmit there
-- before and after it
pub record IsPerformed (settings : Settings) (users : List UserFrame) (r : Run) (s : ℕ)
    (x : Happening) (kept : Step) : Type 0 where
  pub step : IsStep settings users x r
  pub own : is_event_of s x.event ≡ true
  pub event : kept.event ≡ x.event
  pub before : unwrap_or kept.before 0 ≡ epoch_at settings s r
  pub after : unwrap_or kept.after 0 ≡ epoch_at settings s (x ∷ r)

-- the first one first
abbrev pub ArePerformed : Settings → List UserFrame → Run → Controls → List Step → Type 0
ArePerformed settings users r [] [] = Unit {0}
ArePerformed settings users r ((s, x) ∷ xs) (kept ∷ steps) =
    IsPerformed settings users r s x kept × ArePerformed settings users (x ∷ r) xs steps
ArePerformed settings users r _ _ = ⊥
