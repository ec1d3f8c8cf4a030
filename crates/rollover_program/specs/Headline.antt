-- What is promised of a run.
use Rattle.std.specs.Prelude.{◌≡◌, All}
use Rattle.lan_core.specs.Run.{facts_of}
use Rattle.group_safety.specs.Once.{Once, OneKey}
use Rattle.group_safety.specs.Hitless.{Hitless}
use Rattle.lan_schedule.specs.Races.{IsDealt}
use Rattle.lan_schedule.specs.World.{World, settings}
use Rattle.lan_schedule.specs.Sound.{IsSound}
use Rattle.transcript.specs.Cut.{cut}
use Rattle.transcript.specs.Events.{events_of}

-- The run of a world is legal, what was drawn in it differs, nothing in it was forged, and few
-- packet numbers are left out. No packet number is used twice under a key, and no key identifier
-- names two keys. In every steady rollover each frame that is delivered in time is found. In each
-- race each worker claimed as often as it was dealt frames. The facts of the run, one after the
-- other, are cut where its events end.
pub record IsPromised (w : World) : Type 0 where
  pub sound : IsSound (settings w) w.kept.users w.run
  pub once : Once w.run
  pub one_key : OneKey w.run
  pub hitless : Hitless (settings w) w.run
  pub dealt : All IsDealt w.kept.races
  pub cut : cut (facts_of w.run) ≡ events_of w.run
