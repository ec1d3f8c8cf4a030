-- How a call of a replay ends that is halted, or that halts it by an error.
use Rattle.std.proofs.Common.{◌≡◌, false, Some, None, refl, sym, ◌∙◌}
use Rattle.std.specs.Prelude.{Result, Ok, Err}
use Rattle.std.specs.Result.{IsErrAnd}
use Rattle.lan_base.specs.declared.sink.Unwritten.{Unwritten}
use Rattle.station_words.specs.Seats.{NoMoreOut}
use Rattle.trace_text.specs.declared.line.Line.{Line}
use Rattle.trace_text.specs.declared.line.Line.TheVariants as lines
use Rattle.trace_acts.specs.declared.halt.Halt.{Halt}
use Rattle.lan_schedule.specs.declared.commands.Replay.{Replay}
use Rattle.lan_schedule.specs.World.{World}
use Rattle.lan_schedule.specs.Acts.{Act}
use Rattle.lan_schedule.specs.Reports.{Report}
use Rattle.lan_schedule.specs.Ends.{Moment, moment}
use Rattle.lan_schedule.specs.Standing.{Does, StandsFor, phase_of}
use Rattle.lan_schedule.specs.Shown.{words_of}
use Rattle.lan_schedule.specs.Woven.{RunsRace}
use Rattle.lan_schedule.specs.Calls.{KeepsHalt, Performs}
use Rattle.lan_schedule.specs.inside.Halted.{halted_by}
use Rattle.lan_schedule.specs.inside.Phased.{is_end}
use Rattle.lan_schedule.proofs.Replaying.{halted-does, never-does}
use Rattle.lan_schedule.proofs.RunsRaces.{runs-halted, runs-never, runs-none}
use Rattle.lan_schedule.proofs.SeatsBack.{still-out}

-- a halted replay stands for no world
halted-never : (w : World) (replay : Replay) (halt : Halt) → replay.halted ≡ Some halt
    → StandsFor w replay → ⊥
halted-never w replay halt is stands = let bad = sym stands.goes ∙ is in cc bad

module _ {K : Type 0} {Took : K → Report → K → Type 0} {Broke : K → Report → K → Unwritten → Type 0}
    (made : World → World) (act : Act) where
  -- a halted one performs nothing
  pub halted-runs : (now : Moment Replay K) (r : Result (Unit {0}) Halt) (halt : Halt)
      → now.value.halted ≡ Some halt → RunsRace Took Broke made act now now r
  halted-runs now r halt is = runs-never made act now now r
      (λ w stands. halted-never w now.value halt is stands)

  pub halted-performs : (IsEnd : Type 0) (now : Moment Replay K) (r : Result (Unit {0}) Halt)
      (halt : Halt) → now.value.halted ≡ Some halt → Performs Took Broke IsEnd made act now now r
  halted-performs IsEnd now r halt is = record {
    does = never-does act now now r (λ w stands. halted-never w now.value halt is stands);
    race = λ end. halted-runs now r halt is;
    seats = still-out (words_of now.value) (words_of now.value) refl;
  }

  -- an error halts it
  pub ended-runs : (old mid : Moment Replay K) (r : Result (Unit {0}) Halt)
      → RunsRace Took Broke made act old mid r
      → RunsRace Took Broke made act old (moment (halted_by r mid.value) mid.outlet) r
  ended-runs old mid (Ok done) runs = runs
  ended-runs old mid (Err halt) runs = runs-halted made act old mid.outlet mid.value
      (halted_by (Err halt) mid.value) halt (λ v tally. tally) refl runs

  pub ended-performs : (IsEnd : Type 0) (old mid : Moment Replay K) (r : Result (Unit {0}) Halt)
      → Performs Took Broke IsEnd made act old mid r
      → Performs Took Broke IsEnd made act old (moment (halted_by r mid.value) mid.outlet) r
  ended-performs IsEnd old mid (Ok done) performs = performs
  ended-performs IsEnd old mid (Err halt) performs = record {
    does = halted-does act old mid.outlet mid.value (halted_by (Err halt) mid.value) halt
        (λ v tally. tally) performs.does;
    race = λ end. ended-runs old mid (Err halt) (performs.race end);
    seats = performs.seats;
  }

  -- a line that ends no race
  pub calm-performs : (line : Line) (old new : Moment Replay K) (r : Result (Unit {0}) Halt)
      → is_end (phase_of old.value.phase) line ≡ false → Does Took Broke act old new r
      → NoMoreOut (words_of old.value) (words_of new.value)
      → Performs Took Broke (line ≡ lines.End) made act old new r
  calm-performs line old new r other does seats = record {
    does = does;
    race = λ end. runs-none made act old new r line other end does;
    seats = seats;
  }

pub ended-out : (old mid : Replay) (r : Result (Unit {0}) Halt)
    → NoMoreOut (words_of old) (words_of mid) → NoMoreOut (words_of old) (words_of (halted_by r mid))
ended-out old mid (Ok done) out = out
ended-out old mid (Err e) out = out

module _ {K : Type 0} where
  pub halted-keeps : (now : Moment Replay K) (r : Result (Unit {0}) Halt) (halt : Halt)
      → now.value.halted ≡ Some halt → IsErrAnd r (λ e. e ≡ halt) → KeepsHalt now now r
  halted-keeps now (Ok done) halt is same = absurd same
  halted-keeps now (Err e) halt is same =
      record { halts = cc (is, same); again = λ other at. (cc (is, same, at), refl, refl) }

  pub ended-keeps : (old mid : Moment Replay K) (r : Result (Unit {0}) Halt)
      → old.value.halted ≡ None
      → KeepsHalt old (moment (halted_by r mid.value) mid.outlet) r
  ended-keeps old mid (Ok done) goes = record {
    halts = tt;
    again = λ halt is. absurd (let bad = sym goes ∙ is in cc bad);
  }
  ended-keeps old mid (Err e) goes = record {
    halts = refl;
    again = λ halt is. absurd (let bad = sym goes ∙ is in cc bad);
  }
