-- The kinds of refusal, which line may stand where but in a race, and which reason comes first
-- (this profile's own rule).
use Rattle.std.specs.Prelude.{ℕ, Bool, true, false, not, ◌&&◌, if◌then◌else◌, List}
use Rattle.std.specs.Prelude.{Option, Some, None, is_some}
use Rattle.std.specs.Option.{is_none}
use Rattle.trace_text.specs.declared.fault.TextFault.{TextFault}
use Rattle.trace_text.specs.declared.fault.TextFault.TheVariants as faults
use Rattle.trace_text.specs.declared.line.Line.{Line}
use Rattle.trace_text.specs.declared.line.Line.TheVariants as lines
use Rattle.trace_acts.specs.declared.halt.Kind.{Kind}
use Rattle.trace_acts.specs.declared.halt.Kind.TheVariants as kinds
use Rattle.trace_acts.specs.declared.choices.Choices.{Choices}
use Rattle.trace_acts.specs.declared.choices.Rule.{Rule}
use Rattle.trace_acts.specs.declared.choices.Rule.TheVariants.{Listed}
use Rattle.trace_acts.specs.Names.{is_in}

-- a fault of the text as a kind
abbrev pub kind_of_fault : TextFault → Kind
kind_of_fault faults.TooLong = kinds.TooLong
kind_of_fault faults.Word = kinds.Word
kind_of_fault faults.Count = kinds.Count
kind_of_fault faults.Hex = kinds.Hex
kind_of_fault faults.Range = kinds.Range

-- whether more draws can be listed
abbrev pub may_list : Option Rule → Bool
may_list None = true
may_list (Some (Listed values)) = true
may_list (Some _) = false

-- whether a line may stand here outside a race, where a station came or not and the lines before it
-- chose so: the first lines before any station and at most once, but for lists of draws; a station
-- after the group; every other line after a station, but for those that stand in a race alone
abbrev pub is_allowed : Line → Bool → Choices → Bool
is_allowed lines.DrawsCount begun chosen = not begun && is_none chosen.draws
is_allowed (lines.DrawsChaCha key) begun chosen = not begun && is_none chosen.draws
is_allowed (lines.DrawsList values) begun chosen = not begun && may_list chosen.draws
is_allowed (lines.Conf conf) begun chosen = not begun && is_none chosen.conf
is_allowed (lines.Window window) begun chosen = not begun && is_none chosen.window
is_allowed (lines.Rekey rekey) begun chosen = not begun && is_none chosen.rekey
is_allowed (lines.Lag lag) begun chosen = not begun && is_none chosen.lag
is_allowed (lines.Suite suite) begun chosen = not begun && is_none chosen.suite
is_allowed (lines.Flag early) begun chosen = not begun && is_none chosen.early_flag
is_allowed (lines.Group cak ckn) begun chosen = not begun && is_none chosen.group
is_allowed (lines.Station name sci priority) begun chosen = is_some chosen.group
is_allowed (lines.Burst name workers frames destination body) begun chosen = false
is_allowed lines.While begun chosen = false
is_allowed lines.End begun chosen = false
is_allowed _ begun chosen = begun

-- the first of two reasons
abbrev pub or_else : Option Kind → Option Kind → Option Kind
or_else None later = later
or_else (Some kind) later = Some kind

-- a reason, where the test holds
abbrev pub where_ : Bool → Kind → Option Kind
where_ test kind = if test then Some kind else None

-- no station has this name
abbrev pub unknown : List ℕ → List (List ℕ) → Option Kind
unknown name names = where_ (not (is_in name names)) kinds.NameUnknown

-- the first of two reasons: no such line may stand here, or a word is wrong
abbrev pub first_of : Bool → Option Kind → Option Kind
first_of allowed wrong = or_else (where_ (not allowed) kinds.Order) wrong
