-- The text of a line is performed.
use Rattle.std.proofs.Common.{◌≡◌, ℕ, List, [], Option, Some, None, inl, refl, sym, subst, ap, ◌∙◌}
use Rattle.std.specs.Prelude.{Result, Ok, Err}
use Rattle.trace_text.specs.declared.fault.TextFault.{TextFault}
use Rattle.trace_text.specs.declared.line.Line.{Line}
use Rattle.trace_text.specs.Reading.{line_in, fault_in, first_fault}
use Rattle.trace_acts.specs.declared.halt.Halt.{Halt}
use Rattle.trace_acts.specs.declared.halt.Halt.TheVariants as halts
use Rattle.lan_base.specs.declared.sink.Unwritten.{Unwritten}
use Rattle.trace_acts.specs.Kinds.{kind_of_fault}
use Rattle.lan_schedule.specs.declared.commands.Replay.{Replay}
use Rattle.lan_schedule.specs.Races.{Chance, behind_numbers}
use Rattle.lan_schedule.specs.World.{World}
use Rattle.lan_schedule.specs.Kinds.{refusal_read}
use Rattle.lan_schedule.specs.Acts.{Act, look, perform, seq, Stops}
use Rattle.lan_schedule.specs.Lines.{begin_line, at_line, numbered, deed_read}
use Rattle.lan_schedule.specs.Lines.{line_after, unless_refused, performed}
use Rattle.lan_schedule.specs.Reports.{Report}
use Rattle.lan_schedule.specs.Ends.{Moment}
use Rattle.lan_schedule.specs.Standing.{StandsFor, Does}
use Rattle.lan_schedule.proofs.Doing.{told-none}
use Rattle.lan_schedule.proofs.OnWay.{IsAs, as-self}
use Rattle.lan_schedule.proofs.Replaying.{same-act, stands-counts}
use Rattle.lan_schedule.proofs.LinesCome.{tidy-same}

-- what a text says is performed, unless it is refused
abbrev pub act_read : Result (Option Line) TextFault → Act
act_read said = look (λ w. unless_refused (refusal_read said w) (deed_read said w))

pub fault-is : (said : Result (Option Line) TextFault) (fault : TextFault) → fault_in said ≡ Some fault
    → said ≡ Err fault
fault-is (Ok line) fault e = absurd (cc e)
fault-is (Err other) fault e = let same : other ≡ fault = cc in ap (λ (f : TextFault). Err f) same

module _ {K : Type 0} {Took : K → Report → K → Type 0} {Broke : K → Report → K → Unwritten → Type 0}
  where
    pub skipped-does : (text : List ℕ) (number : ℕ) (old new : Moment Replay K)
        → ((w : World) → StandsFor w old.value → number ≡ line_after w.kept.line)
        → line_in text ≡ Ok None → Does Took Broke (begin_line number) old new (Ok tt)
        → Does Took Broke (performed text) old new (Ok tt)
    skipped-does text number old new next nothing_said d =
        same-act (performed text) (begin_line number) old new (Ok tt) (λ w stands.
        subst (λ r. IsAs (seq (begin_line (line_after w.kept.line)) (act_read r)) w (begin_line number) w)
        (sym nothing_said)
        (subst (λ (n : ℕ). IsAs (seq (begin_line (line_after w.kept.line)) (act_read (Ok None))) w (begin_line n) w)
        (sym (next w stands)) (refl, λ u on. inl on, λ u begins. inl begins))) d

    unfoldable pub line-does : (text : List ℕ) (number : ℕ) (line : Line) (old new : Moment Replay K)
        (r : Result (Unit {0}) Halt)
        → ((w : World) → StandsFor w old.value → number ≡ line_after w.kept.line)
        → line_in text ≡ Ok (Some line) → Does Took Broke (numbered number line) old new r
        → Does Took Broke (performed text) old new r
    line-does text number line old new r next said d =
        same-act (performed text) (numbered number line) old new r (λ w stands.
        subst (λ s. IsAs (seq (begin_line (line_after w.kept.line)) (act_read s)) w (numbered number line) w)
        (sym said)
        (subst (λ (n : ℕ).
        IsAs (seq (begin_line (line_after w.kept.line)) (act_read (Ok (Some line)))) w (numbered n line) w)
        (sym (next w stands)) (as-self (numbered (line_after w.kept.line) line) w))) d

    pub fault-does : (text : List ℕ) (number : ℕ) (fault : TextFault) (now : Moment Replay K)
        → ((w : World) → StandsFor w now.value → number ≡ line_after w.kept.line)
        → first_fault text ≡ Some fault
        → Does Took Broke (performed text) now now (Err (halts.Trace number (kind_of_fault fault)))
    fault-does text number fault now next first = record {
      chances = [];
      ends = λ w later left reached.
          let v = at_line (line_after w.kept.line) w in
          let out : perform (performed text) w ≡ Stops v (halts.Trace number (kind_of_fault fault)) =
          ap (λ s. perform (act_read s) v) (fault-is (line_in text) fault first)
          ∙ ap (λ (n : ℕ). Stops v (halts.Trace n (kind_of_fault fault)))
          (sym (next w reached.stands)) in
          inl (record {
            world = v;
            stops = out;
            tidy = tidy-same w (record w.kept { line = line_after w.kept.line }) reached.tidy refl refl refl
                refl refl (λ e. e) (λ e. e);
            leaves = stands-counts w now.value reached.stands;
            told = told-none w v now.outlet now.outlet refl refl;
            left = ap (λ (c : List Chance). behind_numbers c) left;
            same = refl;
          });
    }
