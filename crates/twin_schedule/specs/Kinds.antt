-- Which line is refused, and the first reason (this profile's own rule).
use Rattle.std.specs.Prelude.{ℕ, ◌==◌, ◌||◌, Bool, false, not, nat_eq, List}
use Rattle.std.specs.Prelude.{Option, Some, None, is_some, if◌then◌else◌, Result, Ok, Err}
use Rattle.std.specs.Cmp.Lexicographic.{pointwise}
use Rattle.cak_roll.specs.declared.event.GroupNumber.{GroupNumber}
use Rattle.cak_roll.specs.declared.event.GroupNumber.TheVariants.{First, Second}
use Rattle.cak_roll.specs.Twin.{takes_part}
use Rattle.trace_text.specs.declared.fault.TextFault.{TextFault}
use Rattle.trace_text.specs.declared.line.Line.{Line}
use Rattle.trace_text.specs.declared.line.Line.TheVariants.{Cut, Mend, Restart, Send, Station, TickOne}
use Rattle.trace_text.specs.declared.twin.line.RollLine.{RollLine}
use Rattle.trace_text.specs.declared.twin.line.RollLine.TheVariants.{Plain, Group2, Adopt, Leave}
use Rattle.trace_text.specs.twin.Reading.{roll_line_in}
use Rattle.trace_acts.specs.declared.halt.Kind.{Kind}
use Rattle.trace_acts.specs.declared.halt.Kind.TheVariants.{NameTaken, Order, SciTaken}
use Rattle.trace_acts.specs.declared.choices.Keyed.{Keyed}
use Rattle.trace_acts.specs.Kinds.{kind_of_fault, is_allowed, or_else, where_, unknown, first_of}
use Rattle.trace_acts.specs.Names.{is_in}
use Rattle.twin_schedule.specs.World.{World, names, scis, place, has_adopted, is_out}

-- the group of a number, 1 or 2
abbrev pub group_of : ℕ → GroupNumber
group_of number = if number == 1 then First else Second

-- whether a second group of this name may come: behind the first one, once, and not of its name
abbrev pub may_be_second : List ℕ → Option Keyed → Option Keyed → Bool
may_be_second ckn (Some first) None = not (pointwise nat_eq ckn first.ckn)
may_be_second ckn _ _ = false

-- whether a line may stand here: a line of one group as in its trace; an adoption behind the second
-- group; and a station leaves the first group or the second
abbrev pub may_stand : RollLine → World → Bool
may_stand (Plain line) w = is_allowed line w.kept.begun w.kept.chosen
may_stand (Group2 cak ckn) w = may_be_second ckn w.kept.chosen.group w.kept.second
may_stand (Adopt name) w = is_some w.kept.second
may_stand (Leave group name) w = (group == 1) || (group == 2)

-- what is wrong with the words of a line of one group: who sends takes part in a group
abbrev pub wrong_plain : Line → World → Option Kind
wrong_plain (Station name sci priority) w =
    or_else (where_ (is_in name (names w)) NameTaken) (where_ (is_in sci.0 (scis w)) SciTaken)
wrong_plain (TickOne name ticks) w = unknown name (names w)
wrong_plain (Cut from to) w = or_else (unknown from (names w)) (unknown to (names w))
wrong_plain (Mend from to) w = or_else (unknown from (names w)) (unknown to (names w))
wrong_plain (Restart name) w = unknown name (names w)
wrong_plain (Send name destination body) w =
    or_else (unknown name (names w)) (where_ (is_out (place w name) w.run) Order)
wrong_plain _ w = None

-- what is wrong with the words of a line: who adopts the second group has not done so before, and who
-- leaves a group takes part in it
abbrev pub wrong : RollLine → World → Option Kind
wrong (Plain line) w = wrong_plain line w
wrong (Group2 cak ckn) w = None
wrong (Adopt name) w =
    or_else (unknown name (names w)) (where_ (has_adopted (place w name) w.run) Order)
wrong (Leave group name) w =
    or_else (unknown name (names w))
    (where_ (not (takes_part (group_of group) (place w name) w.run)) Order)

-- why a line is refused: no such line may stand here, or a word is wrong
abbrev pub refusal : RollLine → World → Option Kind
refusal line w = first_of (may_stand line w) (wrong line w)

-- why what a text says is refused
abbrev pub refusal_read : Result (Option RollLine) TextFault → World → Option Kind
refusal_read (Err fault) w = Some (kind_of_fault fault)
refusal_read (Ok None) w = None
refusal_read (Ok (Some line)) w = refusal line w

-- why a text without its line ending is refused, before it is performed
abbrev pub first_refusal : List ℕ → World → Option Kind
first_refusal text w = refusal_read (roll_line_in text) w
