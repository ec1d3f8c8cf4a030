-- Races that were run stay, so what ends without one has run none; and lines stand in none that is
-- performed.
use Rattle.std.proofs.Common.{◌≡◌, ℕ, zero, suc, Bool, true, false, List, [], ◌∷◌, ◌++◌, Option}
use Rattle.std.proofs.Common.{Some, None, refl, sym, ap, ◌∙◌}
use Rattle.std.specs.Prelude.{cond, Result, Ok, Err}
use Rattle.lan_core.specs.declared.event.Event.{Event}
use Rattle.lan_core.specs.declared.event.Event.TheVariants.{Emit}
use Rattle.lan_core.specs.declared.fact.Fact.{Fact}
use Rattle.trace_text.specs.declared.fault.TextFault.{TextFault}
use Rattle.trace_text.specs.declared.line.Line.{Line}
use Rattle.trace_text.specs.declared.line.Line.TheVariants as lines
use Rattle.trace_text.specs.Reading.{line_in}
use Rattle.trace_acts.specs.declared.halt.Halt.{Halt}
use Rattle.trace_acts.specs.declared.halt.Kind.{Kind}
use Rattle.lan_schedule.specs.Races.{Phase, Apart, Bursting, Controlling, Racing, Burst, Numbered}
use Rattle.lan_schedule.specs.Races.{Excess, Raced, Worker, workers_of}
use Rattle.lan_schedule.specs.World.{World, is_racing}
use Rattle.lan_schedule.specs.Answers.{answer}
use Rattle.lan_schedule.specs.Acts.{Act, nothing, refuse, exceed, happen, change, seq, look, race}
use Rattle.lan_schedule.specs.Acts.{Course, Goes, Stops, perform, shown, and_then, world_of, is_stop}
use Rattle.lan_schedule.specs.Acts.{after_race, begun_race, beside, emitting, emitting_all}
use Rattle.lan_schedule.specs.Kinds.{refusal, refusal_read}
use Rattle.lan_schedule.specs.Lines.{control_act, deed, deed_at, deed_controlling, deed_read}
use Rattle.lan_schedule.specs.Lines.{behind_race, close_at, excess_of, performed, performed_all}
use Rattle.lan_schedule.specs.Lines.{line_after, unless_exceeded, unless_refused}
use Rattle.lan_schedule.proofs.Still.{IsStill}
use Rattle.lan_schedule.proofs.EachDeed.{still-deed}

-- no race was run
abbrev pub HasNone : World → Type 0
HasNone w = w.kept.races ≡ []

-- ---- an act that is no race

-- the lines stand where they did, and no race was run
pub record IsAsBefore (w v : World) : Type 0 where
  pub phase : v.kept.phase ≡ w.kept.phase
  pub races : v.kept.races ≡ w.kept.races

same-before : (w : World) → IsAsBefore w w
same-before w = record { phase = refl; races = refl }

then-before : (w v u : World) → IsAsBefore w v → IsAsBefore v u → IsAsBefore w u
then-before w v u f g = record { phase = g.phase ∙ f.phase; races = g.races ∙ f.races }

shown-before : (w : World) (event : Event) (r : Result (List Fact) Halt)
    → IsAsBefore w (world_of (shown w event r))
shown-before w event (Ok facts) = record { phase = refl; races = refl }
shown-before w event (Err halt) = same-before w

both-before : (w : World) (out : Course) (g : World → Course) → IsAsBefore w (world_of out)
    → ((v : World) → IsAsBefore v (world_of (g v))) → IsAsBefore w (world_of (and_then out g))
both-before w (Goes v) g first later = then-before w v _ first (later v)
both-before w (Stops v halt) g first later = first

leaves-before : (act : Act) (w : World) → IsStill act → IsAsBefore w (world_of (perform act w))
leaves-before nothing w still = same-before w
leaves-before (refuse kind) w still = same-before w
leaves-before (exceed excess) w still = same-before w
leaves-before (happen event) w still = shown-before w event (answer w event)
leaves-before (change f) w still =
    record { phase = (still w.kept).0; races = (still w.kept).1 }
leaves-before (seq f g) w still = both-before w (perform f w) (λ v. perform g v)
    (leaves-before f w still.0) (λ v. leaves-before g v still.1)
leaves-before (look f) w still = leaves-before (f w) w (still w)
leaves-before (race workers control) w still = absurd still

-- ---- a race

pub emitting-before : (count : ℕ) (w : World) → IsAsBefore w (world_of (emitting count w))
emitting-before zero w = same-before w
emitting-before (suc count) w = both-before w (shown w Emit (answer w Emit)) (λ v. emitting count v)
    (shown-before w Emit (answer w Emit)) (λ v. emitting-before count v)

unless-before : (b : Bool) (w : World) (out : Course) → IsAsBefore w (world_of out)
    → IsAsBefore w (world_of (cond b (Goes w) out))
unless-before true w out h = same-before w
unless-before false w out h = h

one-more : (races : List Raced) (more : Raced) → races ++ more ∷ [] ≡ [] → ⊥
one-more [] more e = cc e
one-more (x ∷ races) more e = cc e

-- behind a race the lines stand in none, and it was run
pub record HasRaced (v : World) : Type 0 where
  pub apart : v.kept.phase ≡ Apart
  pub one : v.kept.races ≡ [] → ⊥

raced-then : (workers : List Worker) (w v u : World) → IsAsBefore (after_race workers w v) u
    → HasRaced u
raced-then workers w v u same = record {
  apart = same.phase;
  one = λ none. one-more v.kept.races _ (sym same.races ∙ none);
}

pub race-raced : (workers : List Worker) (w : World) (out : Course)
    → HasRaced (world_of (beside workers w out))
race-raced workers w (Goes v) =
    raced-then workers w v _ (emitting-before _ (after_race workers w v))
race-raced workers w (Stops v halt) =
    let u = after_race workers w v in
    raced-then workers w v _
    (unless-before (is_stop halt) u (emitting_all v u) (emitting-before _ u))

-- what the end of a race performs: it asks for too much, or is run
pub run-none : (bursts : List Burst) (control : List Numbered) (w : World) (o : Option Excess)
    → HasNone (world_of (perform (unless_exceeded o (race (workers_of bursts) (control_act control)))
    w))
    → world_of (perform (unless_exceeded o (race (workers_of bursts) (control_act control))) w) ≡ w
run-none bursts control w None none =
    let workers = workers_of bursts in
    absurd ((race-raced workers w (perform (control_act control) (begun_race workers w))).one none)
run-none bursts control w (Some excess) none = refl

-- ---- lines

-- lines come from where no race is performed to where none is, and none that was run is lost
pub record IsBehind (w v : World) : Type 0 where
  pub apart : is_racing w.kept.phase ≡ false → is_racing v.kept.phase ≡ false
  pub none : v.kept.races ≡ [] → w.kept.races ≡ []

behind-self : (w : World) → IsBehind w w
behind-self w = record { apart = λ e. e; none = λ e. e }

behind-then : (w v u : World) → IsBehind w v → IsBehind v u → IsBehind w u
behind-then w v u f g =
    record { apart = λ e. g.apart (f.apart e); none = λ e. f.none (g.none e) }

behind-same : (w v : World) → IsAsBefore w v → IsBehind w v
behind-same w v same = record {
  apart = λ e. ap is_racing same.phase ∙ e;
  none = λ e. sym same.races ∙ e;
}

behind-raced : (w v : World) → HasRaced v → IsBehind w v
behind-raced w v raced =
    record { apart = λ e. ap is_racing raced.apart; none = λ e. absurd (raced.one e) }

behind-unless : (o : Option Kind) (act : Act) (w : World) → IsBehind w (world_of (perform act w))
    → IsBehind w (world_of (perform (unless_refused o act) w))
behind-unless None act w behind = behind
behind-unless (Some kind) act w behind = behind-self w

behind-run : (bursts : List Burst) (control : List Numbered) (w : World) (o : Option Excess)
    → IsBehind w (world_of (perform
    (unless_exceeded o (race (workers_of bursts) (control_act control))) w))
behind-run bursts control w None =
    let workers = workers_of bursts in
    behind-raced w _
    (race-raced workers w (perform (control_act control) (begun_race workers w)))
behind-run bursts control w (Some excess) = behind-self w

behind-deed : (line : Line) (w : World) → IsBehind w (world_of (perform (deed line w) w))
behind-deed lines.Race w = record { apart = λ e. refl; none = λ e. e }
behind-deed line w = behind-same w _ (leaves-before (deed line w) w (still-deed line w refl))

-- the lines of a race stand in none that is performed
pub behind-bursting : (line : Line) (w : World) (bursts : List Burst)
    → is_racing (behind_race line w bursts) ≡ false
behind-bursting lines.While w bursts = refl
behind-bursting _ w bursts = refl

behind-controlling : (line : Line) (w : World) (bursts : List Burst) (control : List Numbered)
    → IsBehind w (world_of (perform (deed_controlling line w bursts control) w))
behind-controlling lines.End w bursts control =
    behind-run bursts control w (excess_of bursts w)
behind-controlling line w bursts control = record { apart = λ e. refl; none = λ e. e }

behind-at : (line : Line) (w : World) (phase : Phase)
    → IsBehind w (world_of (perform (deed_at line w phase) w))
behind-at line w Apart = behind-deed line w
behind-at line w (Bursting bursts) =
    record { apart = λ e. behind-bursting line w bursts; none = λ e. e }
behind-at line w (Controlling bursts control) = behind-controlling line w bursts control
behind-at line w Racing = behind-self w

behind-said : (said : Result (Option Line) TextFault) (w : World)
    → IsBehind w (world_of (perform (unless_refused (refusal_read said w) (deed_read said w)) w))
behind-said (Ok (Some line)) w =
    behind-unless (refusal line w) (deed_at line w w.kept.phase) w (behind-at line w w.kept.phase)
behind-said (Ok None) w = behind-self w
behind-said (Err fault) w = behind-self w

behind-text : (text : List ℕ) (w : World) → IsBehind w (world_of (perform (performed text) w))
behind-text text w =
    let v : World = record w { kept = record w.kept { line = line_after w.kept.line } } in
    behind-then w v _ (record { apart = λ e. e; none = λ e. e }) (behind-said (line_in text) v)

behind-both : (w : World) (out : Course) (g : World → Course) → IsBehind w (world_of out)
    → ((v : World) → IsBehind v (world_of (g v))) → IsBehind w (world_of (and_then out g))
behind-both w (Goes v) g first later = behind-then w v _ first (later v)
behind-both w (Stops v halt) g first later = first

-- lines leave a world behind that in which they began
pub behind-lines : (texts : List (List ℕ)) (w : World)
    → IsBehind w (world_of (perform (performed_all texts) w))
behind-lines [] w = behind-self w
behind-lines (text ∷ texts) w = behind-both w (perform (performed text) w)
    (λ v. perform (performed_all texts) v) (behind-text text w) (λ v. behind-lines texts v)

-- the end of a trace runs no race
pub behind-close : (phase : Phase) (w : World) → IsBehind w (world_of (perform (close_at phase) w))
behind-close Apart w = behind-self w
behind-close (Bursting bursts) w = record { apart = λ e. e; none = λ e. e }
behind-close (Controlling bursts control) w = record { apart = λ e. e; none = λ e. e }
behind-close Racing w = record { apart = λ e. e; none = λ e. e }
