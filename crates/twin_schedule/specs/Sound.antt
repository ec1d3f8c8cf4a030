-- What holds of each world that lines make.
use Rattle.std.specs.Prelude.{◌≡◌, false, [], None}
use Rattle.lan_core.specs.Fresh.{IsFresh}
use Rattle.lan_core.specs.Unstopped.{AreDraws}
use Rattle.cak_roll.specs.declared.event.GroupNumber.TheVariants.{Second}
use Rattle.cak_roll.specs.Twin.{merged, run_of, IsTwinRun}
use Rattle.trace_acts.specs.Settings.{rule_of}
use Rattle.trace_acts.specs.Supply.{draw_at}
use Rattle.twin_schedule.specs.World.{World, pair_of}

-- a world's run is a twin run, and what was drawn in it differs; nothing happened before the first
-- station, nor in a second group before that came; and the draws are such
pub record IsTidy (w : World) : Type 0 where
  pub legal : IsTwinRun (pair_of w) w.kept.users w.run
  pub fresh : IsFresh (merged w.run)
  pub waits : w.kept.begun ≡ false → w.run ≡ []
  pub lone : w.kept.second ≡ None → run_of Second w.run ≡ []
  pub draws : AreDraws (draw_at (rule_of w.kept.chosen))
