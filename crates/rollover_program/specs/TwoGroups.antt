-- What is promised of two groups.
use Rattle.std.specs.Prelude.{◌≡◌, ◌∷◌, ◌++◌, ℕ, false, Contains}
use Rattle.lan_core.specs.declared.fact.Fact.TheVariants.{Unclaimed}
use Rattle.lan_core.specs.declared.fact.Lack.{Lack}
use Rattle.lan_core.specs.Run.{facts_of}
use Rattle.lan_core.specs.Legal.{IsLegal, IsThrifty}
use Rattle.lan_core.specs.Fresh.{IsFresh, IsUnforged}
use Rattle.group_safety.specs.Once.{OneKey}
use Rattle.group_safety.specs.Hitless.{Hitless}
use Rattle.transcript.specs.Cut.{cut}
use Rattle.transcript.specs.Events.{events_of}
use Rattle.cak_roll.specs.declared.event.GroupNumber.{GroupNumber}
use Rattle.cak_roll.specs.declared.event.GroupNumber.TheVariants.{First, Second}
use Rattle.cak_roll.specs.declared.event.TwinEvent.TheVariants.{Send}
use Rattle.cak_roll.specs.Twin.{Twin, TwinHappening, IsTwinRun, setting_of, run_of, part_of, merged}
use Rattle.cak_roll.specs.Twin.{transmits}
use Rattle.cak_roll.specs.Both.{OnceOver}
use Rattle.twin_schedule.specs.World.{World, pair_of}

-- The run of a group is legal and thrifty, and nothing in it was forged. No key identifier names two
-- keys there, and in every steady rollover each frame that is delivered in time is found. The facts of
-- the run, one after the other, are cut where its events end.
pub record IsPromisedIn (w : World) (g : GroupNumber) : Type 0 where
  pub legal : IsLegal (setting_of (pair_of w) g) w.kept.users (run_of g w.run)
  pub thrifty : IsThrifty (setting_of (pair_of w) g) (run_of g w.run)
  pub unforged : IsUnforged (setting_of (pair_of w) g) (run_of g w.run)
  pub one_key : OneKey (run_of g w.run)
  pub hitless : Hitless (setting_of (pair_of w) g) (run_of g w.run)
  pub cut : cut (facts_of (run_of g w.run)) ≡ events_of (run_of g w.run)

-- Each event of both groups was what it had to be in each of them, what was drawn in both differs,
-- and each group's run is as promised. In both together no packet number is used twice under a key.
-- A station got no number for what it sent only where no key transmitted at it, in either group.
pub record ArePromised (w : World) : Type 0 where
  pub stepped : IsTwinRun (pair_of w) w.kept.users w.run
  pub fresh : IsFresh (merged w.run)
  pub each : (g : GroupNumber) → IsPromisedIn w g
  pub once : OnceOver (run_of First w.run) (run_of Second w.run)
  pub refused : (later t : Twin) (x : TwinHappening) (g : GroupNumber) (s user place : ℕ) (why : Lack)
      → w.run ≡ later ++ x ∷ t → x.event ≡ Send s user
      → Contains (facts_of (part_of g x)) (Unclaimed place why)
      → (transmits (pair_of w) First s t ≡ false) × (transmits (pair_of w) Second s t ≡ false)
