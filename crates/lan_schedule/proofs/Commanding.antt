-- A line is refused, or its deed is performed.
use Rattle.std.proofs.Common.{◌≡◌, ℕ, List, [], Option, Some, None, inl, refl, sym, ap, ◌∙◌, subst}
use Rattle.std.specs.Prelude.{Result, Ok, Err}
use Rattle.trace_text.specs.declared.line.Line.{Line}
use Rattle.trace_text.specs.declared.line.Line.TheVariants as lines
use Rattle.trace_acts.specs.declared.halt.Halt.{Halt}
use Rattle.trace_acts.specs.declared.halt.Halt.TheVariants as halts
use Rattle.trace_acts.specs.declared.halt.Kind.{Kind}
use Rattle.lan_base.specs.declared.sink.Unwritten.{Unwritten}
use Rattle.trace_acts.specs.Choosing.{chosen_by}
use Rattle.lan_schedule.specs.declared.stage.Stage.{Stage}
use Rattle.lan_schedule.specs.World.{World}
use Rattle.lan_schedule.specs.Acts.{Act, perform, Stops}
use Rattle.lan_schedule.specs.declared.deed.Deed.{Deed}
use Rattle.lan_schedule.specs.Deeds.{deed_of}
use Rattle.lan_schedule.specs.Lines.{act, act_or, choose, deed, unless_refused}
use Rattle.lan_schedule.specs.Races.{Chance, behind_numbers}
use Rattle.lan_schedule.specs.Reports.{Report}
use Rattle.lan_schedule.specs.Ends.{Moment, Ends, IsReached}
use Rattle.lan_schedule.specs.inside.Phased.{Resolves, act_apart, refusal_apart}
use Rattle.lan_schedule.specs.inside.Comes.{Comes}
use Rattle.lan_schedule.specs.inside.Staged.{Did}
use Rattle.lan_schedule.specs.Stages.{StandsFor}
use Rattle.lan_schedule.specs.inside.Recording.{stages_since}
use Rattle.lan_schedule.proofs.Doing.{told-none}
use Rattle.lan_schedule.proofs.Happening.{looked-none}
use Rattle.lan_schedule.proofs.Recorded.{leaves-so, seats-kept}

-- a line that has a deed performs it
deed-is : (line : Line) (w : World) (d : Deed) → deed_of line w ≡ Some d → deed line w ≡ act d
deed-is lines.Race w d is = absurd (cc is)
deed-is line w d is = ap (λ (o : Option Deed). act_or o (choose (chosen_by line))) is

module _ {K : Type 0} {Took : K → Report → K → Type 0} {Broke : K → Report → K → Unwritten → Type 0}
  where
    pub refused-does : (line : Line) (kind : Kind) (now : Moment Stage K)
        → ((w : World) → IsReached StandsFor w now.value → Resolves line w (Err kind))
        → Did Took Broke (act_apart line) now now (Err (halts.Trace now.value.line kind))
    refused-does line kind now is = record {
      chances = [];
      ends = λ mark w later left reached comes.
          let out : perform (act_apart line) w ≡ Stops w (halts.Trace now.value.line kind) =
          ap (λ (o : Option Kind). perform (unless_refused o (deed line w)) w)
          (is w (record { stands = reached.stands.stands; tidy = reached.tidy }))
          ∙ ap (λ (n : ℕ). Stops w (halts.Trace n kind)) (sym reached.stands.stands.line) in
          inl (record {
            world = w;
            stops = out;
            tidy = reached.tidy;
            leaves = leaves-so mark (halts.Trace now.value.line kind) w now.value reached.stands
                (λ stop. looked-none mark w now.value reached.stands);
            told = told-none w w now.outlet now.outlet refl refl;
            left = ap (λ (c : List Chance). behind_numbers c) left;
            same = refl;
          });
      seats = seats-kept now.value.words;
    }

    pub resolved-does : (line : Line) (d : Deed) (old new : Moment Stage K)
        (r : Result (Unit {0}) Halt)
        → ((w : World) → IsReached StandsFor w old.value → Resolves line w (Ok d))
        → Did Took Broke (act d) old new r → Did Took Broke (act_apart line) old new r
    resolved-does line d old new r is done = record {
      chances = done.chances;
      ends = λ mark w later left reached comes.
          let both = is w (record { stands = reached.stands.stands; tidy = reached.tidy }) in
          let same : unless_refused (refusal_apart line w) (deed line w) ≡ act d =
          ap (λ (o : Option Kind). unless_refused o (deed line w)) both.0
          ∙ deed-is line w d both.1 in
          subst (λ (a : Act). Comes a w
          → Ends (stages_since mark) Took Broke w later a old.outlet new r)
          (sym same) (λ may. done.ends mark w later left reached may) comes;
      seats = done.seats;
    }

pub none-of : {A : Type 0} (o : Option A) → ((x : A) → o ≡ Some x → ⊥) → o ≡ None
none-of None other = refl
none-of (Some a) other = absurd (other a refl)
