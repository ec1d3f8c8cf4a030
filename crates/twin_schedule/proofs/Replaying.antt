-- A replay does acts, before its first station and with groups at work.
use Rattle.std.proofs.Common.{◌≡◌, ℕ, List, Option, Some, None}
use Rattle.std.proofs.Common.{inl, refl, sym, ap, ◌∙◌, subst}
use Rattle.std.specs.Prelude.{Result, Ok, Err}
use Rattle.trace_text.specs.declared.fault.TextFault.{TextFault}
use Rattle.trace_text.specs.Reading.{fault_in}
use Rattle.trace_text.specs.declared.twin.line.RollLine.{RollLine}
use Rattle.trace_text.specs.twin.Reading.{roll_line_in, first_roll_fault}
use Rattle.trace_acts.specs.declared.choices.Choices.{Choices}
use Rattle.trace_acts.specs.declared.choices.Keyed.{Keyed}
use Rattle.trace_acts.specs.declared.halt.Halt.{Halt}
use Rattle.trace_acts.specs.declared.halt.Halt.TheVariants as halts
use Rattle.trace_acts.specs.declared.halt.Kind.{Kind}
use Rattle.lan_base.specs.declared.sink.Unwritten.{Unwritten}
use Rattle.trace_acts.specs.Kinds.{kind_of_fault}
use Rattle.twin_schedule.specs.declared.stage.Stage.{Stage}
use Rattle.twin_schedule.specs.declared.commands.TwinReplay.{TwinReplay}
use Rattle.twin_schedule.specs.World.{World, Kept, waiting}
use Rattle.twin_schedule.specs.Acts.{Act, change, look, nothing, perform, seq, Stops}
use Rattle.twin_schedule.specs.Kinds.{refusal, refusal_read}
use Rattle.twin_schedule.specs.Lines.{act_of, at_line, begin_line, deed, deed_read, numbered}
use Rattle.twin_schedule.specs.Lines.{line_after, performed, unless_refused}
use Rattle.twin_schedule.specs.Reports.{Report}
use Rattle.twin_schedule.specs.Sound.{IsTidy}
use Rattle.twin_schedule.specs.Ends.{Moment, moment, IsReached}
use Rattle.twin_schedule.specs.Stages.{StandsFor as StageStandsFor}
use Rattle.twin_schedule.specs.Standing.{IsStaged, MayOpen, StandsFor, Does}
use Rattle.twin_schedule.specs.inside.Comes.{Comes}
use Rattle.twin_schedule.specs.inside.Doing.{Did, DidSo}
use Rattle.twin_schedule.proofs.Coming.{tidy-same}
use Rattle.twin_schedule.proofs.Doing.{change-does, ends-seen, look-does}
use Rattle.twin_schedule.proofs.Doing.{nothing-does, same-act, then-ok, told-none}

pub none-stage : (o : Option Stage) → ((x : Stage) → o ≡ Some x → ⊥) → o ≡ None
none-stage None other = refl
none-stage (Some stage) other = absurd (other stage refl)

pub none-of : (o : Option Kind) → ((x : Kind) → o ≡ Some x → ⊥) → o ≡ None
none-of None other = refl
none-of (Some kind) other = absurd (other kind refl)

-- the groups at work of a replay stand where it does
pub staged-at : (w : World) (replay : TwinReplay) (stage : Stage) → replay.stage ≡ Some stage
    → StandsFor w replay → StageStandsFor w stage
staged-at w replay stage is stands =
    subst (λ (o : Option Stage). IsStaged w replay o) is stands.stage

pub stands-at : (w : World) (replay : TwinReplay) (stage : Stage) → replay.stage ≡ Some stage
    → replay.halted ≡ None → StageStandsFor w stage → StandsFor w replay
stands-at w replay stage is goes stands = record {
  goes = goes;
  stage = subst (λ (o : Option Stage). IsStaged w replay o) (sym is) stands;
}

-- before the first station there is one world
pub is-waiting : (w : World) (replay : TwinReplay) → replay.stage ≡ None → StandsFor w replay
    → w ≡ waiting replay.line replay.chosen replay.second
is-waiting w replay is stands =
    (subst (λ (o : Option Stage). IsStaged w replay o) is stands.stage).0

-- what was chosen by then can be opened
pub opens-at : (w : World) (replay : TwinReplay) → replay.stage ≡ None → StandsFor w replay
    → MayOpen replay.chosen.group replay.second
opens-at w replay is stands =
    (subst (λ (o : Option Stage). IsStaged w replay o) is stands.stage).1

pub waits-at : (w : World) (replay : TwinReplay) → replay.stage ≡ None → replay.halted ≡ None
    → w ≡ waiting replay.line replay.chosen replay.second
    → MayOpen replay.chosen.group replay.second → StandsFor w replay
waits-at w replay is goes at opens = record {
  goes = goes;
  stage = subst (λ (o : Option Stage). IsStaged w replay o) (sym is) (at, opens);
}

-- ---- a line begins

pub line-staged : (number : ℕ) (w : World) (old new : TwinReplay) (stage later : Stage)
    → old.stage ≡ Some stage → new.stage ≡ Some later → new.halted ≡ old.halted
    → (StageStandsFor w stage → StageStandsFor (at_line number w) later)
    → StandsFor w old → StandsFor (at_line number w) new
line-staged number w old new stage later is_old is_new halted begins stands =
    stands-at (at_line number w) new later is_new (halted ∙ stands.goes)
    (begins (staged-at w old stage is_old stands))

pub line-unbegun : (number : ℕ) (w : World) (old new : TwinReplay) → old.stage ≡ None
    → new.stage ≡ None → new.halted ≡ old.halted → new.line ≡ number → new.chosen ≡ old.chosen
    → new.second ≡ old.second → StandsFor w old → StandsFor (at_line number w) new
line-unbegun number w old new is_old is_new halted line chosen second stands =
    waits-at (at_line number w) new is_new (halted ∙ stands.goes)
    (ap (λ (v : World). at_line number v) (is-waiting w old is_old stands)
    ∙ (λ i. waiting (sym line i) (sym chosen i) (sym second i)))
    (subst (λ (c : Choices). MayOpen c.group new.second) (sym chosen)
    (subst (λ (o : Option Keyed). MayOpen old.chosen.group o) (sym second)
    (opens-at w old is_old stands)))

module _ {K : Type 0} {Took : K → Report → K → Type 0} {Broke : K → Report → K → Unwritten → Type 0}
  where
    pub begun-does : (number : ℕ) (old new : Moment TwinReplay K)
        → ((w : World) → StandsFor w old.value → StandsFor (at_line number w) new.value)
        → new.outlet ≡ old.outlet → DidSo Took Broke (begin_line number) old new (Ok tt)
    begun-does number old new begins same =
        change-does (λ kept. record kept { line = number }) old new begins same

    -- ---- with groups at work

    -- what the groups at work did, the replay did
    pub staged-does : (act : Act) (old new : Moment TwinReplay K) (stage later : Stage)
        (r : Result (Unit {0}) Halt) → old.value.stage ≡ Some stage → new.value.stage ≡ Some later
        → new.value.halted ≡ old.value.halted
        → Did Took Broke act (moment stage old.outlet) (moment later new.outlet) r
        → DidSo Took Broke act old new r
    staged-does act old new stage later r is_old is_new halted d = record {
      ends = λ w reached comes.
          ends-seen StageStandsFor StandsFor Took Broke w (perform act w) old.outlet new.outlet later
          new.value r
          (λ v there e stands.
          stands-at v new.value later is_new (halted ∙ reached.stands.goes) stands)
          (d.ends w (record {
            stands = staged-at w old.value stage is_old reached.stands;
            tidy = reached.tidy;
          }) comes);
    }

    -- ---- before the first station

    -- something is chosen
    pub waiting-does : (f : Kept → Kept) (old new : Moment TwinReplay K) → old.value.stage ≡ None
        → new.value.stage ≡ None → new.value.halted ≡ old.value.halted
        → (let w = waiting old.value.line old.value.chosen old.value.second in
        record w { kept = f w.kept }
        ≡ waiting new.value.line new.value.chosen new.value.second)
        → (MayOpen old.value.chosen.group old.value.second
        → MayOpen new.value.chosen.group new.value.second)
        → new.outlet ≡ old.outlet → DidSo Took Broke (change f) old new (Ok tt)
    waiting-does f old new is_old is_new halted same opens outlet =
        change-does f old new (λ w stands.
        waits-at (record w { kept = f w.kept }) new.value is_new (halted ∙ stands.goes)
        (ap (λ (v : World). record v { kept = f v.kept }) (is-waiting w old.value is_old stands)
        ∙ same) (opens (opens-at w old.value is_old stands))) outlet

    -- what cannot be performed where the replay stands is done by nothing
    pub never-does : (act : Act) (old new : Moment TwinReplay K) (r : Result (Unit {0}) Halt)
        → ((w : World) → StandsFor w old.value → Comes act w → ⊥) → DidSo Took Broke act old new r
    never-does act old new r never = record {
      ends = λ w reached comes. absurd (never w reached.stands comes);
    }

    -- ---- lines

    -- a line is refused
    pub refused-does : (line : RollLine) (number : ℕ) (kind : Kind) (now : Moment TwinReplay K)
        → ((w : World) → IsReached StandsFor w now.value → Some kind ≡ refusal line w)
        → ((w : World) → StandsFor w now.value → number ≡ w.kept.line)
        → DidSo Took Broke (act_of line) now now (Err (halts.Trace number kind))
    refused-does line number kind now first at = record {
      ends = λ w reached comes.
          inl (record {
            world = w;
            stops = ap (λ (o : Option Kind). perform (unless_refused o (deed line w)) w)
                (sym (first w reached))
                ∙ ap (λ (n : ℕ). Stops w (halts.Trace n kind)) (sym (at w reached.stands));
            tidy = reached.tidy;
            told = told-none w w now.outlet now.outlet refl refl;
          });
    }

    -- a line that isn't refused does what it performs
    pub allowed-does : (line : RollLine) (old new : Moment TwinReplay K)
        (r : Result (Unit {0}) Halt)
        → ((w : World) → IsReached StandsFor w old.value → None ≡ refusal line w)
        → DidSo Took Broke (look (λ w. deed line w)) old new r
        → DidSo Took Broke (act_of line) old new r
    allowed-does line old new r none d =
        same-act (act_of line) (look (λ w. deed line w)) old new r
        (λ w reached. ap (λ (o : Option Kind). perform (unless_refused o (deed line w)) w)
        (sym (none w reached)))
        (λ w reached comes. subst (λ (o : Option Kind). Comes (unless_refused o (deed line w)) w)
        (sym (none w reached)) comes) d

    -- the line of a number
    pub numbered-does : (number : ℕ) (act : Act) (old mid new : Moment TwinReplay K)
        (r : Result (Unit {0}) Halt)
        → ((w : World) → StandsFor w old.value → StandsFor (at_line number w) mid.value)
        → mid.outlet ≡ old.outlet → DidSo Took Broke act mid new r
        → DidSo Took Broke (seq (begin_line number) act) old new r
    numbered-does number act old mid new r begins same d =
        then-ok (begin_line number) act old mid new r (begun-does number old mid begins same) d

-- ---- texts

-- what a text says is performed, unless it is refused
abbrev pub act_read : Result (Option RollLine) TextFault → Act
act_read said = look (λ w. unless_refused (refusal_read said w) (deed_read said w))

fault-is : (said : Result (Option RollLine) TextFault) (fault : TextFault)
    → fault_in said ≡ Some fault → said ≡ Err fault
fault-is (Ok line) fault e = absurd (cc e)
fault-is (Err other) fault e =
    let same : other ≡ fault = cc in ap (λ (f : TextFault). Err f) same

module _ {K : Type 0} {Took : K → Report → K → Type 0} {Broke : K → Report → K → Unwritten → Type 0}
  where
    -- a text is performed as what it says, as the line of the next number
    read-does : (text : List ℕ) (number : ℕ) (said : Result (Option RollLine) TextFault)
        (old new : Moment TwinReplay K) (r : Result (Unit {0}) Halt)
        → ((w : World) → StandsFor w old.value → number ≡ line_after w.kept.line)
        → roll_line_in text ≡ said
        → DidSo Took Broke (seq (begin_line number) (act_read said)) old new r
        → DidSo Took Broke (performed text) old new r
    read-does text number said old new r next is d =
        same-act (performed text) (seq (begin_line number) (act_read said)) old new r
        (λ w reached. ap (λ s. perform (act_read s) (at_line (line_after w.kept.line) w)) is
        ∙ ap (λ (n : ℕ). perform (act_read said) (at_line n w)) (sym (next w reached.stands)))
        (λ w reached comes.
        subst (λ (n : ℕ). IsTidy (at_line n w)
        × (IsTidy (at_line n w) → Comes (act_read said) (at_line n w)))
        (sym (next w reached.stands)) (
          comes.0,
          λ tidy.
              subst (λ s. Comes (act_read s) (at_line (line_after w.kept.line) w)) is (comes.1 tidy),
        )) d

    pub skipped-does : (text : List ℕ) (number : ℕ) (old new : Moment TwinReplay K)
        → ((w : World) → StandsFor w old.value → number ≡ line_after w.kept.line)
        → roll_line_in text ≡ Ok None → DidSo Took Broke (begin_line number) old new (Ok tt)
        → DidSo Took Broke (performed text) old new (Ok tt)
    skipped-does text number old new next said d =
        read-does text number (Ok None) old new (Ok tt) next said
        (then-ok (begin_line number) (act_read (Ok None)) old new new (Ok tt) d
        (look-does (λ w. nothing) nothing new new (Ok tt) (λ w reached. refl) (nothing-does new)))

    pub line-does : (text : List ℕ) (number : ℕ) (line : RollLine) (old new : Moment TwinReplay K)
        (r : Result (Unit {0}) Halt)
        → ((w : World) → StandsFor w old.value → number ≡ line_after w.kept.line)
        → roll_line_in text ≡ Ok (Some line) → DidSo Took Broke (numbered number line) old new r
        → DidSo Took Broke (performed text) old new r
    line-does text number line old new r next said d =
        read-does text number (Ok (Some line)) old new r next said d

    pub fault-does : (text : List ℕ) (number : ℕ) (fault : TextFault) (now : Moment TwinReplay K)
        → ((w : World) → StandsFor w now.value → number ≡ line_after w.kept.line)
        → first_roll_fault text ≡ Some fault
        → DidSo Took Broke (performed text) now now (Err (halts.Trace number (kind_of_fault fault)))
    fault-does text number fault now next first = record {
      ends = λ w reached comes.
          let v = at_line (line_after w.kept.line) w in
          inl (record {
            world = v;
            stops = ap (λ s. perform (act_read s) v) (fault-is (roll_line_in text) fault first)
                ∙ ap (λ (n : ℕ). Stops v (halts.Trace n (kind_of_fault fault)))
                (sym (next w reached.stands));
            tidy = tidy-same w (record w.kept { line = line_after w.kept.line }) reached.tidy refl refl refl
                (λ e. e);
            told = told-none w v now.outlet now.outlet refl refl;
          });
    }

    -- ---- at the top

    -- where an act can be performed in each tidy world, a call did it
    pub does-by : (act : Act) (old new : Moment TwinReplay K) (r : Result (Unit {0}) Halt)
        → ((w : World) → IsTidy w → Comes act w) → DidSo Took Broke act old new r
        → Does Took Broke act old new r
    does-by act old new r comes d =
        record { ends = λ w reached. d.ends w reached (comes w reached.tidy) }

    -- where a call ended early, the replay is halted
    pub halted-does : (act : Act) (old : Moment TwinReplay K) (k : K) (x y : TwinReplay) (e : Halt)
        → DidSo Took Broke act old (moment x k) (Err e)
        → DidSo Took Broke act old (moment y k) (Err e)
    halted-does act old k x y e d = record {
      ends = λ w reached comes.
          ends-seen StandsFor StandsFor Took Broke w (perform act w) old.outlet k x y (Err e)
          (λ v goes bad. absurd (cc bad)) (d.ends w reached comes);
    }

    -- a replay that is halted stands for no world
    pub halted-stays : (act : Act) (old new : Moment TwinReplay K) (r : Result (Unit {0}) Halt)
        (halt : Halt) → old.value.halted ≡ Some halt → Does Took Broke act old new r
    halted-stays act old new r halt is = record {
      ends = λ w reached. absurd (let bad : Some halt ≡ None = sym is ∙ reached.stands.goes in cc bad);
    }
