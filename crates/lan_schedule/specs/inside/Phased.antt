-- What a line performs outside a race, and what one does that belongs to a race.
use Rattle.std.specs.Prelude.{◌≡◌, ◌⊎◌, ◌||◌, ◌&&◌, ℕ, nat_lt, Bool, true, false, List, [], length}
use Rattle.std.specs.Prelude.{Option, Some, None, Result, Ok, Err}
use Rattle.trace_text.specs.declared.line.Line.{Line}
use Rattle.trace_text.specs.declared.line.Line.TheVariants as lines
use Rattle.trace_text.specs.Limits.{most_bursts, most_control}
use Rattle.trace_acts.specs.declared.halt.Halt.{Halt}
use Rattle.trace_acts.specs.declared.halt.Halt.TheVariants.{Memory, Trace}
use Rattle.trace_acts.specs.declared.halt.Kind.{Kind}
use Rattle.trace_acts.specs.Names.{names_of, scis_of}
use Rattle.trace_acts.specs.Kinds.{first_of, is_allowed, or_else}
use Rattle.trace_acts.specs.Places.{is_race}
use Rattle.lan_schedule.specs.declared.phase.Phase.{Phase as Stood}
use Rattle.lan_schedule.specs.Races.{Phase, Apart, Bursting, Controlling, Racing, Burst, Numbered}
use Rattle.lan_schedule.specs.World.{World}
use Rattle.lan_schedule.specs.Acts.{Act, Goes, Stops, look, perform}
use Rattle.lan_schedule.specs.declared.deed.Deed.{Deed}
use Rattle.lan_schedule.specs.Deeds.{deed_of, is_control}
use Rattle.lan_schedule.specs.Kinds.{may_stand, no_station, too_many}
use Rattle.lan_schedule.specs.Kinds.{wrong_at, wrong_station, wrong_word}
use Rattle.lan_schedule.specs.Lines.{deed, act_of, behind_race, behind_while, unless_refused}
use Rattle.lan_schedule.specs.Standing.{phase_of, AreFit}

-- why a line is refused outside a race
abbrev pub refusal_apart : Line → World → Option Kind
refusal_apart line w =
    first_of (is_allowed line w.kept.begun w.kept.chosen)
    (wrong_word (deed_of line w) (names_of w.run) (scis_of w.run) (length w.kept.frames))

-- what it performs there
abbrev pub act_apart : Line → Act
act_apart line = look (λ w. unless_refused (refusal_apart line w) (deed line w))

-- there a line is refused, or it is this deed
abbrev pub Resolves : Line → World → Result Deed Kind → Type 0
Resolves line w (Err kind) = refusal_apart line w ≡ Some kind
Resolves line w (Ok d) = (refusal_apart line w ≡ None) × (deed_of line w ≡ Some d)

-- ---- lines of a race

-- a line of this number is refused for this reason
pub record Refused (reason : Option Kind) (number : ℕ) (halt : Halt) : Type 0 where
  pub kind : Kind
  pub is : reason ≡ Some kind
  pub halts : halt ≡ Trace number kind

-- whether lines stand inside a race
abbrev pub is_inside : Phase → Bool
is_inside Apart = false
is_inside _ = true

-- whether a line belongs to a race: it stands inside one, or begins one
abbrev pub is_taken : Phase → Line → Bool
is_taken phase line = is_inside phase || is_race line

-- whether a line is the end of a race, which is run then
abbrev pub is_end : Phase → Line → Bool
is_end (Controlling bursts control) lines.End = true
is_end _ line = false

-- where the lines stand behind a line that belongs to a race and doesn't end it
abbrev pub behind : Line → World → Phase → Phase
behind line w Apart = Bursting []
behind line w (Bursting bursts) = behind_race line w bursts
behind line w (Controlling bursts control) = behind_while line w bursts control
behind line w Racing = Racing

-- why a burst is refused behind these, where the stations have these names
abbrev pub refused_burst : Burst → List Burst → List (List ℕ) → Option Kind
refused_burst burst bursts names =
    first_of (nat_lt (length bursts) most_bursts)
    (or_else (too_many burst bursts) (no_station burst.station names))

-- and why a deed is behind `while`
abbrev pub refused_control : Deed → List Numbered → List (List ℕ) → Option Kind
refused_control deed control names =
    first_of (is_control deed && nat_lt (length control) most_control) (wrong_station deed names)

-- the first reason where the lines stand so
abbrev pub refusal_at : Line → World → Phase → Option Kind
refusal_at line w phase = first_of (may_stand line w phase) (wrong_at line w phase)

-- such a line enters where the lines stand behind it, or is refused; or there is no memory
abbrev pub Enters : Line → World → Phase → Result Stood Halt → Type 0
Enters line w phase (Ok now) =
    (refusal_at line w phase ≡ None) × (phase_of now ≡ behind line w phase)
Enters line w phase (Err halt) =
    (Refused (refusal_at line w phase) w.kept.line halt) ⊎ (halt ≡ Memory)

-- such a line is kept, or refused; or there is no memory
abbrev pub Takes : Line → World → Stood → Result (Unit {0}) Halt → Type 0
Takes line w now (Ok done) = (perform (act_of line) w
    ≡ Goes (record w { kept = record w.kept { phase = phase_of now } }))
    × (AreFit (names_of w.run) w.kept.phase → AreFit (names_of w.run) (phase_of now))
Takes line w now (Err halt) = (perform (act_of line) w ≡ Stops w halt) ⊎ (halt ≡ Memory)
