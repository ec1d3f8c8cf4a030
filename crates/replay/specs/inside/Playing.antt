-- What it is to take lines.
use Rattle.std.specs.Prelude.{ℕ, List, Result}
use Rattle.text_lines.specs.Moments.{Moment as LinesMoment}
use Rattle.trace_acts.specs.declared.halt.Halt.{Halt}
use Rattle.lan_base.specs.declared.sink.Unwritten.{Unwritten}
use Rattle.lan_schedule.specs.declared.commands.Replay.{Replay}
use Rattle.lan_schedule.specs.Acts.{Act}
use Rattle.lan_schedule.specs.Lines.{performed_all}
use Rattle.lan_schedule.specs.Reports.{Report}
use Rattle.lan_schedule.specs.Ends.{moment}
use Rattle.lan_schedule.specs.Standing.{Does}

-- the replay of a player did an act, and told its recorder
abbrev pub DidAct : {P K : Type 0} → (K → Report → K → Type 0)
    → (K → Report → K → Unwritten → Type 0) → (LinesMoment P K → Replay) → Act → LinesMoment P K
    → LinesMoment P K → Result (Unit {0}) Halt → Type 0
DidAct Took Broke of act old new result =
    Does Took Broke act (moment (of old) old.outlet) (moment (of new) new.outlet) result

-- it performed lines
abbrev pub DidLines : {P K : Type 0} → (K → Report → K → Type 0)
    → (K → Report → K → Unwritten → Type 0) → (LinesMoment P K → Replay) → List (List ℕ)
    → LinesMoment P K → LinesMoment P K → Result (Unit {0}) Halt → Type 0
DidLines Took Broke of lines old new result =
    DidAct Took Broke of (performed_all lines) old new result
