-- For which world a group at work stands.
use Rattle.std.specs.Prelude.{◌≡◌, ℕ, Bool, true, false, List, length, is_some}
use Rattle.association_slots.specs.Views.{ControlAt}
use Rattle.lan_core.specs.declared.settings.Settings.{Settings}
use Rattle.lan_core.specs.Run.{Run, facts_of}
use Rattle.lan_core.specs.Standing.{StandsFor as GroupStandsFor}
use Rattle.fact_tally.specs.Summary.{counts}
use Rattle.station_words.specs.Ties.{AreTied, HaveCaughtUp, HaveKeptUp}
use Rattle.worker_races.specs.Carded.{AreCarded}
use Rattle.trace_acts.specs.Settings.{lag_of}
use Rattle.trace_acts.specs.Supply.{supply_nth}
use Rattle.lan_schedule.specs.declared.stage.Stage.{Stage}
use Rattle.lan_schedule.specs.World.{World, settings, flow_of, is_racing}
use Rattle.lan_schedule.specs.Answers.{supply}
use Rattle.lan_schedule.specs.Ends.{Standing}

-- What the words of all stations say of a run, where a race was begun or not, and where control's
-- lines are performed beside workers or not: before the first race they tell it, in the midst of one
-- they keep up with it, and afterwards they have caught up with it.
abbrev pub Says : Bool → Bool → Settings → Run → List ControlAt → Type 0
Says false racing settings r cs = AreTied settings r cs
Says true false settings r cs = HaveCaughtUp settings r cs
Says true true settings r cs = HaveKeptUp settings r cs

-- a group at work stands for a world, of whose run its words say this
pub record StandsWith (Tied : Bool → Bool → Settings → Run → List ControlAt → Type 0) (w : World)
    (stage : Stage) : Type 0 where
  pub begun : w.kept.begun ≡ true
  pub raced : stage.raced ≡ w.kept.raced
  pub keyed : is_some w.kept.chosen.group ≡ true
  pub line : stage.line ≡ w.kept.line
  pub lag : stage.lag ≡ lag_of w.kept.chosen
  pub lan : GroupStandsFor (settings w) w.kept.users stage.lan w.run
  pub draws : (k : ℕ) → supply_nth stage.draws k ≡ supply w k
  pub users : stage.users ≡ length w.kept.users
  pub flow : stage.frames ≡ flow_of w
  pub cuts : stage.cuts ≡ w.kept.cuts
  pub words : Tied w.kept.raced (is_racing w.kept.phase) (settings w) w.run stage.words
  -- the cards of the words are those of the keys that the stations installed, in whatever part of a
  -- trace
  pub cards : AreCarded (settings w) w.run stage.words
  pub tally : stage.tally ≡ counts (facts_of w.run)
  -- what control performs is kept in the midst of a race alone
  pub steps : is_some stage.steps ≡ is_racing w.kept.phase

-- a group at work stands for a world between two events
abbrev pub StandsFor : World → Stage → Type 0
StandsFor w stage = StandsWith Says w stage

-- its tally is that of the world's run, also where an event or a line of it ended early
abbrev pub Counts : World → Stage → Type 0
Counts w stage = stage.tally ≡ counts (facts_of w.run)

-- what is said of a group at work
abbrev pub stages : Standing Stage
stages = record { Stands = StandsFor; Leaves = λ halt. Counts; Counts = Counts }
