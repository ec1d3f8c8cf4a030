-- A trace ends, unless it is inside a race.
use Rattle.std.proofs.Common.{◌≡◌, ℕ, true, List, [], inl, refl, sym, ap, ◌∙◌}
use Rattle.std.specs.Prelude.{Result, Ok, Err}
use Rattle.trace_acts.specs.declared.halt.Halt.{Halt}
use Rattle.trace_acts.specs.declared.halt.Halt.TheVariants as halts
use Rattle.trace_acts.specs.declared.halt.Kind.TheVariants as kinds
use Rattle.lan_base.specs.declared.sink.Unwritten.{Unwritten}
use Rattle.lan_schedule.specs.declared.commands.Replay.{Replay}
use Rattle.lan_schedule.specs.Races.{Phase, Apart, Bursting, Controlling, Racing, Chance}
use Rattle.lan_schedule.specs.Races.{behind_numbers}
use Rattle.lan_schedule.specs.World.{World}
use Rattle.lan_schedule.specs.Acts.{Stops, perform}
use Rattle.lan_schedule.specs.Lines.{at_line, close, close_at, line_after, performed_all, performed_whole}
use Rattle.lan_schedule.specs.Reports.{Report}
use Rattle.lan_schedule.specs.Ends.{Moment, IsReached, Ends}
use Rattle.lan_schedule.specs.Standing.{StandsFor, Does, Closes, replays}
use Rattle.lan_schedule.specs.inside.Phased.{is_inside}
use Rattle.lan_schedule.proofs.Doing.{told-none}
use Rattle.lan_schedule.proofs.LinesCome.{tidy-same}
use Rattle.lan_schedule.proofs.Replaying.{stands-counts, then-ok, then-err}

stops-at : (w : World) (phase : Phase) → is_inside phase ≡ true → perform (close_at phase) w
    ≡ Stops (at_line (line_after w.kept.line) w) (halts.Trace (line_after w.kept.line) kinds.NoEnd)
stops-at w Apart inside = absurd (cc inside)
stops-at w (Bursting bursts) inside = refl
stops-at w (Controlling bursts control) inside = refl
stops-at w Racing inside = refl

-- inside one the line behind the last is refused
pub closes-inside : (w : World) (phase : Phase) (number : ℕ) → w.kept.phase ≡ phase
    → is_inside phase ≡ true → number ≡ line_after w.kept.line
    → Closes w (Err (halts.Trace number kinds.NoEnd))
closes-inside w phase number is inside next =
    ap (λ (p : Phase). perform (close_at p) w) is ∙ stops-at w phase inside
    ∙ ap (λ (n : ℕ). Stops (at_line (line_after w.kept.line) w) (halts.Trace n kinds.NoEnd)) (sym next)

module _ {K : Type 0} {Took : K → Report → K → Type 0} {Broke : K → Report → K → Unwritten → Type 0}
  where
    closed-early : (w : World) (later : List Chance) (now : Moment Replay K) (halt : Halt)
        → w.kept.chances ≡ later → IsReached StandsFor w now.value → Closes w (Err halt)
        → Ends replays Took Broke w later close now.outlet now (Err halt)
    closed-early w later now halt left reached stops = inl (record {
      world = at_line (line_after w.kept.line) w;
      stops = stops;
      tidy = tidy-same w _ reached.tidy refl refl refl refl refl (λ e. e) (λ e. e);
      leaves = stands-counts w now.value reached.stands;
      told = told-none w (at_line (line_after w.kept.line) w) now.outlet now.outlet refl refl;
      left = ap (λ (c : List Chance). behind_numbers c) left;
      same = refl;
    })

    -- the end of a trace is performed
    closed-does : (now : Moment Replay K) (r : Result (Unit {0}) Halt)
        → ((w : World) → StandsFor w now.value → Closes w r) → Does Took Broke close now now r
    closed-does now (Ok done) closes = record {
      chances = [];
      ends = λ w later left reached. (
        w,
        closes w reached.stands,
        reached,
        told-none w w now.outlet now.outlet refl refl,
        left,
        refl,
      );
    }
    closed-does now (Err halt) closes = record {
      chances = [];
      ends = λ w later left reached.
          closed-early w later now halt left reached (closes w reached.stands);
    }

    -- lines that are all of a trace were performed, and then its end came
    pub does-whole : (lines : List (List ℕ)) (old new : Moment Replay K)
        (r : Result (Unit {0}) Halt) → Does Took Broke (performed_all lines) old new (Ok tt)
        → ((w : World) → StandsFor w new.value → Closes w r)
        → Does Took Broke (performed_whole lines) old new r
    does-whole lines old new r d closes =
        then-ok (performed_all lines) close old new new r d (closed-does new r closes)

    -- or they ended early
    pub does-whole-early : (lines : List (List ℕ)) (old new : Moment Replay K) (e : Halt)
        → Does Took Broke (performed_all lines) old new (Err e)
        → Does Took Broke (performed_whole lines) old new (Err e)
    does-whole-early lines old new e d = then-err (performed_all lines) close old new e d
