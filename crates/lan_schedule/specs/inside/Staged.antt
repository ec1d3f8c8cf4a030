-- What a call on a group at work did of an act.
use Rattle.std.specs.Prelude.{◌≡◌, ◌≤◌, ◌==◌, ℕ, true, List, [], ◌++◌, Option, Some, is_some, Result}
use Rattle.lan_base.specs.declared.frame.UserFrame.{UserFrame}
use Rattle.lan_core.specs.declared.event.Event.{Event}
use Rattle.lan_core.specs.declared.event.Event.TheVariants.{Emit}
use Rattle.lan_core.specs.declared.event.Event.TheVariants as events
use Rattle.lan_core.specs.declared.fact.Fact.{Fact}
use Rattle.lan_core.specs.declared.settings.Settings.{Settings}
use Rattle.lan_core.specs.Run.{Run}
use Rattle.lan_core.specs.Answers.{GoesOn}
use Rattle.lan_core.specs.Claims.{next}
use Rattle.lan_core.specs.Expected.{last_number}
use Rattle.lan_core.specs.Lives.{transmitting_at}
use Rattle.sak_exchange.specs.declared.held_key.Key.{Key}
use Rattle.lan_core.specs.Standing.{StandsFor as GroupStandsFor}
use Rattle.trace_acts.specs.declared.choices.Choices.{Choices}
use Rattle.trace_acts.specs.declared.halt.Halt.{Halt}
use Rattle.lan_base.specs.declared.sink.Unwritten.{Unwritten}
use Rattle.trace_acts.specs.Supply.{supply_nth}
use Rattle.lan_schedule.specs.declared.stage.Stage.{Stage}
use Rattle.lan_schedule.specs.Races.{Chance}
use Rattle.lan_schedule.specs.World.{World, Kept, nothing_kept, settings}
use Rattle.lan_schedule.specs.Numbers.{decided}
use Rattle.lan_schedule.specs.Acts.{Act, happen}
use Rattle.lan_schedule.specs.Reports.{Report}
use Rattle.lan_schedule.specs.Ends.{Moment, IsReached, Ends}
use Rattle.lan_schedule.specs.Stages.{StandsWith, StandsFor}
use Rattle.lan_schedule.specs.inside.Comes.{Comes, named}
use Rattle.lan_schedule.specs.inside.Recording.{Mark, StandsSince, HasLooked, KeepSeats, stages_since}
use Rattle.lan_schedule.specs.inside.Recording.{epoch_of, steps_of}
use Rattle.lan_schedule.specs.inside.Set.{AreSet}

-- A call did an act, in each world for which the group may stand, in which the act can be performed,
-- and whose chances begin with those that were decided in the call. In the midst of a race it keeps
-- what control performs, since whenever the race began. Each station keeps its
-- table, and no seat more is out.
pub record Did {K : Type 0} (Took : K → Report → K → Type 0)
    (Broke : K → Report → K → Unwritten → Type 0) (act : Act) (old new : Moment Stage K)
    (result : Result (Unit {0}) Halt) : Type 0 where
  pub chances : List Chance
  pub ends : (mark : Mark) (w : World) (later : List Chance) → w.kept.chances ≡ chances ++ later
      → IsReached (StandsSince mark) w old.value → Comes act w
      → Ends (stages_since mark) Took Broke w later act old.outlet
      new result
  pub seats : KeepSeats old.value.words new.value.words

-- A call did an act, as `Did` says, but in those of the worlds alone of which `Holds` is so.
pub record DidWhere {K : Type 0} (Holds : World → Type 0) (Took : K → Report → K → Type 0)
    (Broke : K → Report → K → Unwritten → Type 0) (act : Act) (old new : Moment Stage K)
    (result : Result (Unit {0}) Halt) : Type 0 where
  pub chances : List Chance
  pub ends : (mark : Mark) (w : World) (later : List Chance) → w.kept.chances ≡ chances ++ later
      → IsReached (StandsSince mark) w old.value → Holds w → Comes act w
      → Ends (stages_since mark) Took Broke w later act old.outlet
      new result
  pub seats : KeepSeats old.value.words new.value.words

-- a claim without a number finds no key that transmits, or one that has a number left
abbrev pub FindsLeft : Settings → Run → Event → Type 0
FindsLeft settings r (events.Claim s user pn) = (pn == 0) ≡ true → (k : Key)
    → transmitting_at settings s r ≡ Some k → next settings s k.epoch r ≤ last_number
FindsLeft settings r _ = Unit {0}

-- the words are set for an event, and looked at no more than it asks since what was kept
pub record IsSetSince (event : Event) (mark : Mark) (w : World) (stage : Stage) : Type 0 where
  pub stands : StandsWith (AreSet event) w stage
  pub looked : HasLooked mark w stage.words (steps_of stage)
  pub left : FindsLeft (settings w) w.run event

-- an event happened, where the words are set for it, this user frame is the one that it names, and
-- chance decides its number
pub record Happened {K : Type 0} (Took : K → Report → K → Type 0)
    (Broke : K → Report → K → Unwritten → Type 0) (given : Option UserFrame) (event : Event)
    (old new : Moment Stage K) (result : Result (Unit {0}) Halt) : Type 0 where
  pub ends : (mark : Mark) (w : World) (later : List Chance)
      → w.kept.chances ≡ decided old.value.raced event ++ later
      → IsReached (IsSetSince event mark) w old.value → given ≡ named w event
      → Comes (happen event) w
      → Ends (stages_since mark) Took Broke w later (happen event)
      old.outlet new result
  pub seats : KeepSeats old.value.words new.value.words
  -- an emission moves no word
  pub still : event ≡ Emit → new.value.words ≡ old.value.words

-- The group made a step, and nothing beside it changed yet. In the midst of a race the epoch is that
-- of the key that transmitted before at the station of the event.
pub record HasStepped (event : Event) (before : Option ℕ) (old mid : Stage) : Type 0 where
  pub same : mid ≡ record old { lan = mid.lan; draws = mid.draws }
  pub epoch : is_some old.steps ≡ true → (settings : Settings) (users : List UserFrame) (r : Run)
      → GroupStandsFor settings users old.lan r → before ≡ epoch_of settings r event

-- what follows such a step was done, in the worlds in which the group went on with these facts
pub record WentOn {K : Type 0} (Took : K → Report → K → Type 0)
    (Broke : K → Report → K → Unwritten → Type 0) (event : Event) (facts : List Fact) (mid : Stage)
    (old new : Moment Stage K) (result : Result (Unit {0}) Halt) : Type 0 where
  pub ends : (mark : Mark) (w : World) (later : List Chance)
      → w.kept.chances ≡ decided old.value.raced event ++ later
      → IsReached (IsSetSince event mark) w old.value → Comes (happen event) w
      → GoesOn (settings w) w.kept.users w.run event (supply_nth old.value.draws)
      (supply_nth mid.draws) mid.lan facts
      → Ends (stages_since mark) Took Broke w later (happen event)
      old.outlet new result
  pub seats : KeepSeats old.value.words new.value.words
  -- an emission moves no word
  pub still : event ≡ Emit → new.value.words ≡ old.value.words

-- what is kept beside the run changed so, and nothing else: neither what was chosen, nor user frames,
-- nor whether a race was begun, nor words
pub record Changed (f : Kept → Kept) (old new : Stage) : Type 0 where
  pub stands : (w : World) → StandsFor w old → StandsFor (record w { kept = f w.kept }) new
  pub same : (w : World) → (settings (record w { kept = f w.kept }) ≡ settings w)
      × ((f w.kept).users ≡ w.kept.users) × ((f w.kept).raced ≡ w.kept.raced)
  pub words : new.words ≡ old.words
  pub steps : steps_of new ≡ steps_of old

-- before the first station: a world that a group opens by these choices, with its first line
pub record IsOpening (w : World) (chosen : Choices) (line : ℕ) : Type 0 where
  pub empty : w.run ≡ []
  pub kept : w.kept
      ≡ record (nothing_kept w.kept.chances) { line = line; chosen = chosen; begun = true }
