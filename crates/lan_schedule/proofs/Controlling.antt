-- Deeds of control are performed, one after the other.
use Rattle.std.proofs.Common.{◌≡◌, ℕ, List, [], ◌∷◌, length, None, Some, refl, sym, ap, ◌∙◌, subst}
use Rattle.std.proofs.Common.{inl, arith}
use Rattle.std.specs.Prelude.{Option, option_map, Result, Ok, Err}
use Rattle.std.specs.Result.{IsErrAnd}
use Rattle.trace_acts.specs.declared.halt.Halt.{Halt}
use Rattle.trace_acts.specs.declared.halt.Halt.TheVariants as halts
use Rattle.trace_acts.specs.declared.halt.Kind.{Kind}
use Rattle.lan_base.specs.declared.sink.Unwritten.{Unwritten}
use Rattle.lan_schedule.specs.declared.stage.Stage.{Stage}
use Rattle.lan_schedule.specs.declared.deed.Deed.{Deed}
use Rattle.lan_schedule.specs.Races.{Numbered, Chance, behind_numbers}
use Rattle.lan_schedule.specs.World.{World, Flow}
use Rattle.lan_schedule.specs.Acts.{Act, Stops, each, look, perform}
use Rattle.lan_schedule.specs.Kinds.{wrong_frame}
use Rattle.lan_schedule.specs.Lines.{act, controlled, unless_refused}
use Rattle.lan_schedule.specs.Reports.{Report}
use Rattle.lan_schedule.specs.Ends.{Moment, Ends}
use Rattle.lan_schedule.specs.Stages.{StandsFor}
use Rattle.lan_schedule.specs.inside.Comes.{Comes}
use Rattle.lan_schedule.specs.inside.Recording.{stages_since}
use Rattle.lan_schedule.specs.inside.Staged.{Did, Changed}
use Rattle.lan_schedule.proofs.Doing.{in-turn, Leads, leads-start, leads-step, leads-err, leads-end, handed-on}
use Rattle.lan_schedule.proofs.Doing.{change-does, told-none}
use Rattle.lan_schedule.proofs.Happening.{looked-none}
use Rattle.lan_schedule.proofs.Recorded.{leaves-so, seats-kept}
use Rattle.lan_schedule.proofs.Same.{IsSame}
use Rattle.lan_schedule.proofs.Sending.{line-stands}

nothing-left : {X : Type 0} (xs : List X) → 0 ≡ length xs → xs ≡ []
nothing-left [] none = refl
nothing-left (x ∷ xs) none = absurd (omega arith)

module _ {K : Type 0} {Took : K → Report → K → Type 0} {Broke : K → Report → K → Unwritten → Type 0}
  where
    -- the first that is left is performed first
    pub control-step : (left later : List Numbered) (x : Numbered) (whole : Act)
        (old now next : Moment Stage K) → left ≡ x ∷ later
        → Leads Took Broke whole old (each controlled left) now
        → Did Took Broke (controlled x) now next (Ok tt)
        → Leads Took Broke whole old (each controlled later) next
    control-step left later x whole old now next is l done =
        leads-step whole (each controlled later) (controlled x) old now next
        (subst (λ (ys : List Numbered). Leads Took Broke whole old (each controlled ys) now) is l)
        done

    pub control-err : (left later : List Numbered) (x : Numbered) (whole : Act)
        (old now next : Moment Stage K) (e : Halt) (r : Result (Unit {0}) Halt) → left ≡ x ∷ later
        → Leads Took Broke whole old (each controlled left) now
        → Did Took Broke (controlled x) now next (Err e) → IsErrAnd r (λ y. y ≡ e)
        → Did Took Broke whole old next r
    control-err left later x whole old now next e r at l done is =
        handed-on whole old next e r
        (leads-err whole (each controlled later) (controlled x) old now next e
        (subst (λ (ys : List Numbered). Leads Took Broke whole old (each controlled ys) now) at l)
        done) is

    pub control-end : (left : List Numbered) (whole : Act) (old now : Moment Stage K)
        → 0 ≡ length left → Leads Took Broke whole old (each controlled left) now
        → Did Took Broke whole old now (Ok tt)
    control-end left whole old now none l =
        leads-end whole old now
        (subst (λ (ys : List Numbered). Leads Took Broke whole old (each controlled ys) now)
        (nothing-left left none) l)

-- ---- one line

-- its number is that of the line that is performed
line-changed : (number : ℕ) (old new : Stage) → IsSame old new → new.line ≡ number
    → new.users ≡ old.users → new.words ≡ old.words → new.cuts ≡ old.cuts
    → Changed (λ kept. record kept { line = number }) old new
line-changed number old new same line users words cuts = record {
  stands = λ w stands. line-stands number w old new same line users words cuts stands;
  same = λ w. (refl, refl, refl);
  words = words;
  steps = ap (λ o. option_map (λ steps. steps.items) o) same.steps;
}

-- what is wrong with its frame shows in the group at work
frame-of : (d : Deed) (w : World) (stage : Stage) → StandsFor w stage
    → wrong_frame d (length stage.frames.frames) ≡ wrong_frame d (length w.kept.frames)
frame-of d w stage stands =
    ap (λ (f : Flow). wrong_frame d (length f.frames)) stands.flow

abbrev act_unless : Deed → World → Act
act_unless d w = unless_refused (wrong_frame d (length w.kept.frames)) (act d)

module _ {K : Type 0} {Took : K → Report → K → Type 0} {Broke : K → Report → K → Unwritten → Type 0}
  where
    -- the air has no such frame
    refused-frame : (d : Deed) (kind : Kind) (now : Moment Stage K)
        → wrong_frame d (length now.value.frames.frames) ≡ Some kind
        → Did Took Broke (look (act_unless d)) now now (Err (halts.Trace now.value.line kind))
    refused-frame d kind now is = record {
      chances = [];
      ends = λ mark w later left reached comes.
          let stands = reached.stands.stands in
          let wrong = sym (frame-of d w now.value stands) ∙ is in
          let out : perform (look (act_unless d)) w ≡ Stops w (halts.Trace now.value.line kind) =
          ap (λ (o : Option Kind). perform (unless_refused o (act d)) w) wrong
          ∙ ap (λ (n : ℕ). Stops w (halts.Trace n kind)) (sym stands.line) in
          inl (record {
            world = w;
            stops = out;
            tidy = reached.tidy;
            leaves = leaves-so mark (halts.Trace now.value.line kind) w now.value reached.stands
                (λ stop. looked-none mark w now.value reached.stands);
            told = told-none w w now.outlet now.outlet refl refl;
            left = ap (λ (c : List Chance). behind_numbers c) left;
            same = refl;
          });
      seats = seats-kept now.value.words;
    }

    -- it has one
    performed-frame : (d : Deed) (old new : Moment Stage K) (r : Result (Unit {0}) Halt)
        → wrong_frame d (length old.value.frames.frames) ≡ None
        → Did Took Broke (act d) old new r
        → Did Took Broke (look (act_unless d)) old new r
    performed-frame d old new r is done = record {
      chances = done.chances;
      ends = λ mark w later left reached comes.
          let none = sym (frame-of d w old.value reached.stands.stands) ∙ is in
          subst (λ (o : Option Kind). Comes (unless_refused o (act d)) w
          → Ends (stages_since mark) Took Broke w later
          (unless_refused o (act d)) old.outlet new r) (sym none)
          (λ may. done.ends mark w later left reached may) comes;
      seats = done.seats;
    }

    line-leads : (kept : Numbered) (old mid : Moment Stage K) → IsSame old.value mid.value
        → mid.value.line ≡ kept.number → mid.value.users ≡ old.value.users
        → mid.value.words ≡ old.value.words → mid.value.cuts ≡ old.value.cuts
        → mid.outlet ≡ old.outlet
        → Leads Took Broke (controlled kept) old (look (act_unless kept.deed)) mid
    line-leads kept old mid same line users words cuts outlet =
        leads-step _ _ _ _ _ _ (leads-start in-turn (controlled kept) old)
        (change-does _ old mid (λ k. (refl, refl))
        (line-changed kept.number old.value mid.value same line users words cuts) outlet)

    pub frame-wrong : (kept : Numbered) (kind : Kind) (old mid : Moment Stage K)
        → IsSame old.value mid.value → mid.value.line ≡ kept.number
        → mid.value.users ≡ old.value.users → mid.value.words ≡ old.value.words
        → mid.value.cuts ≡ old.value.cuts → mid.outlet ≡ old.outlet
        → wrong_frame kept.deed (length mid.value.frames.frames) ≡ Some kind
        → Did Took Broke (controlled kept) old mid (Err (halts.Trace mid.value.line kind))
    frame-wrong kept kind old mid same line users words cuts outlet is =
        (line-leads kept old mid same line users words cuts outlet).leads mid _
        (refused-frame kept.deed kind mid is)

    pub frame-right : (kept : Numbered) (old mid new : Moment Stage K) (r : Result (Unit {0}) Halt)
        → IsSame old.value mid.value → mid.value.line ≡ kept.number
        → mid.value.users ≡ old.value.users → mid.value.words ≡ old.value.words
        → mid.value.cuts ≡ old.value.cuts → mid.outlet ≡ old.outlet
        → wrong_frame kept.deed (length mid.value.frames.frames) ≡ None
        → Did Took Broke (act kept.deed) mid new r
        → Did Took Broke (controlled kept) old new r
    frame-right kept old mid new r same line users words cuts outlet is d =
        (line-leads kept old mid same line users words cuts outlet).leads new r
        (performed-frame kept.deed mid new r is d)
