-- What is written of two groups (this profile's own rule).
use Rattle.std.specs.Prelude.{ℕ, List, ◌∷◌, map}
use Rattle.std.specs.List.{flat_map}
use Rattle.lan_core.specs.declared.fact.Fact.{Fact}
use Rattle.transcript.specs.Rendering.{rendered}
use Rattle.cak_roll.specs.declared.event.GroupNumber.{GroupNumber}
use Rattle.cak_roll.specs.declared.event.GroupNumber.TheVariants.{First, Second}
use Rattle.cak_roll.specs.Twin.{Twin}
use Rattle.replay.specs.Sinks.{joined}
use Rattle.twin_schedule.specs.Reports.{Report, reports}

-- the number of a group as a digit: 1 or 2
abbrev pub digit : GroupNumber → ℕ
digit First = 49
digit Second = 50

-- the line of a fact, with its line feed, behind the number of its group and a space
abbrev pub marked : GroupNumber → List (List ℕ) → Fact → List ℕ
marked g names fact = digit g ∷ 32 ∷ rendered names fact

-- the lines of what an event showed in a group, under the names that its stations have by then
abbrev pub text_of : Report → List ℕ
text_of report = flat_map (marked report.group report.names) report.facts

-- those of all events, the oldest first
abbrev pub texts_of : Twin → List (List ℕ)
texts_of t = map text_of (reports t)

-- the transcript of two groups
abbrev pub written : Twin → List ℕ
written t = joined (texts_of t)
