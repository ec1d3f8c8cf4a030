-- Which line is refused, and the first reason (this profile's own rule).
use Rattle.std.specs.Prelude.{ℕ, ◌+◌, nat_le, nat_lt, Bool, true, false, not, ◌&&◌}
use Rattle.std.specs.Prelude.{List, [], ◌∷◌, length}
use Rattle.std.specs.Prelude.{Option, Some, None, option_and_then, Result, Ok, Err}
use Rattle.trace_text.specs.declared.fault.TextFault.{TextFault}
use Rattle.trace_text.specs.declared.line.Line.{Line}
use Rattle.trace_text.specs.declared.line.Line.TheVariants as lines
use Rattle.trace_text.specs.Limits.{most_bursts, most_control, most_workers}
use Rattle.trace_text.specs.Reading.{line_in}
use Rattle.trace_acts.specs.declared.halt.Kind.{Kind}
use Rattle.trace_acts.specs.declared.halt.Kind.TheVariants as kinds
use Rattle.trace_acts.specs.Names.{names_of, scis_of, is_in}
use Rattle.trace_acts.specs.Kinds.{kind_of_fault, is_allowed, or_else, where_, first_of}
use Rattle.lan_schedule.specs.declared.deed.Deed.{Deed}
use Rattle.lan_schedule.specs.declared.deed.Named.{Named}
use Rattle.lan_schedule.specs.declared.deed.Named.TheVariants as named
use Rattle.lan_schedule.specs.Races.{Phase, Apart, Bursting, Controlling, Racing, Burst, Numbered}
use Rattle.lan_schedule.specs.Races.{workers_at}
use Rattle.lan_schedule.specs.World.{World}
use Rattle.lan_schedule.specs.Deeds.{burst_of, deed_of, frames_named, may_control, started}
use Rattle.lan_schedule.specs.Deeds.{stations_named}

-- ---- order

-- whether a line may stand behind `race`: a burst, where more may come, and `while` after a burst
abbrev pub is_burst_allowed : Line → List Burst → Bool
is_burst_allowed (lines.Burst name workers frames destination body) bursts =
    nat_lt (length bursts) most_bursts
is_burst_allowed lines.While bursts = nat_lt 0 (length bursts)
is_burst_allowed _ bursts = false

-- whether a line may stand behind `while`: one of control's, where more may come, and `end`
abbrev pub is_control_allowed : Line → World → List Numbered → Bool
is_control_allowed lines.End w control = true
is_control_allowed line w control =
    may_control (deed_of line w) && nat_lt (length control) most_control

-- whether a line may stand where it does
abbrev pub may_stand : Line → World → Phase → Bool
may_stand line w Apart = is_allowed line w.kept.begun w.kept.chosen
may_stand line w (Bursting bursts) = is_burst_allowed line bursts
may_stand line w (Controlling bursts control) = is_control_allowed line w control
may_stand line w Racing = false

-- ---- names, SCIs and frames

-- whether the air, which has so many frames, has one of this number
abbrev pub is_number : ℕ → ℕ → Bool
is_number number frames = nat_le 1 number && nat_le number frames

abbrev pub no_frame : ℕ → ℕ → Option Kind
no_frame number frames = where_ (not (is_number number frames)) kinds.FrameUnknown

-- no station stands at a place, where the stations have these names
abbrev pub no_station : ℕ → List (List ℕ) → Option Kind
no_station s names = where_ (not (nat_lt s (length names))) kinds.NameUnknown

-- what is wrong with the first that is wrong of those that a line names
abbrev pub first_wrong : (ℕ → Option Kind) → Named ℕ → Option Kind
first_wrong why named.Nothing = None
first_wrong why (named.One x) = why x
first_wrong why (named.Two x y) = or_else (why x) (why y)

-- what is wrong with the frames of a deed, where the air has so many
abbrev pub wrong_frame : Deed → ℕ → Option Kind
wrong_frame deed frames = first_wrong (λ number. no_frame number frames) (frames_named deed)

-- a station that is to start has a name or an SCI that another has
abbrev pub taken : Deed → List (List ℕ) → List (List ℕ) → Option Kind
taken deed names scis = option_and_then (λ new.
    or_else (where_ (is_in new.0 names) kinds.NameTaken)
    (where_ (is_in new.1.0 scis) kinds.SciTaken)) (started deed)

-- what is wrong with the stations of a deed
abbrev pub wrong_station : Deed → List (List ℕ) → Option Kind
wrong_station deed names = first_wrong (λ s. no_station s names) (stations_named deed)

-- what is wrong with a deed outside a race, by the words of its line from the left, where these are
-- the names and the SCIs of the stations, and how many frames the air has
abbrev pub wrong_word : Option Deed → List (List ℕ) → List (List ℕ) → ℕ → Option Kind
wrong_word None names scis frames = None
wrong_word (Some deed) names scis frames =
    or_else (wrong_frame deed frames) (or_else (taken deed names scis) (wrong_station deed names))

-- what is wrong with one of control's; its frame is looked for when it is performed
abbrev pub wrong_control : Option Deed → List (List ℕ) → Option Kind
wrong_control None names = None
wrong_control (Some deed) names = wrong_station deed names

-- a burst has more workers than its station may still have
abbrev pub too_many : Burst → List Burst → Option Kind
too_many burst bursts =
    where_ (nat_lt most_workers (workers_at burst.station bursts + burst.workers)) kinds.Range

-- what is wrong with a burst behind these
abbrev pub wrong_burst : List Burst → List Burst → List (List ℕ) → Option Kind
wrong_burst [] bursts names = None
wrong_burst (burst ∷ none) bursts names =
    or_else (too_many burst bursts) (no_station burst.station names)

-- what is wrong with the words of a line where it stands
abbrev pub wrong_at : Line → World → Phase → Option Kind
wrong_at line w Apart =
    wrong_word (deed_of line w) (names_of w.run) (scis_of w.run) (length w.kept.frames)
wrong_at line w (Bursting bursts) = wrong_burst (burst_of w line) bursts (names_of w.run)
wrong_at line w (Controlling bursts control) = wrong_control (deed_of line w) (names_of w.run)
wrong_at line w Racing = None

-- ---- the first reason

-- why a line is refused
abbrev pub refusal : Line → World → Option Kind
refusal line w = first_of (may_stand line w w.kept.phase) (wrong_at line w w.kept.phase)

-- why what a text says is refused
abbrev pub refusal_read : Result (Option Line) TextFault → World → Option Kind
refusal_read (Err fault) w = Some (kind_of_fault fault)
refusal_read (Ok None) w = None
refusal_read (Ok (Some line)) w = refusal line w

-- Why a text without its line ending is refused, before it is performed. The first of these that
-- holds is the reason: too long; a word, a count of words, a word's octets or number that isn't
-- right; not allowed here; too many workers; a name, an SCI or a frame that isn't right.
abbrev pub first_refusal : List ℕ → World → Option Kind
first_refusal text w = refusal_read (line_in text) w
