-- A call that ends a race runs it, whatever stands around the act that does.
use Rattle.std.proofs.Common.{◌≡◌, ℕ, true, false, List, [], Some, refl, sym, ap, ◌∙◌}
use Rattle.std.proofs.Common.{subst}
use Rattle.std.specs.Prelude.{Option, Result, Ok, Err}
use Rattle.association_slots.specs.Views.{ControlAt}
use Rattle.trace_text.specs.declared.line.Line.{Line}
use Rattle.trace_text.specs.declared.line.Line.TheVariants as lines
use Rattle.trace_text.specs.Reading.{line_in}
use Rattle.trace_acts.specs.Names.{names_of}
use Rattle.lan_base.specs.declared.sink.Unwritten.{Unwritten}
use Rattle.trace_acts.specs.declared.halt.Halt.{Halt}
use Rattle.trace_acts.specs.declared.halt.Halt.TheVariants as halts
use Rattle.lan_schedule.specs.declared.commands.Replay.{Replay}
use Rattle.lan_schedule.specs.declared.stage.Stage.{Stage}
use Rattle.lan_schedule.specs.Races.{Apart, Burst, Bursting, Controlling, Numbered, Phase, Racing, workers_of}
use Rattle.lan_schedule.specs.World.{World, is_racing}
use Rattle.lan_schedule.specs.Acts.{Act, look, nothing, perform, seq}
use Rattle.lan_schedule.specs.Lines.{at_line, begin_line, line_after, numbered, performed, run_race}
use Rattle.lan_schedule.specs.Reports.{Report}
use Rattle.lan_schedule.specs.Ends.{Moment, moment}
use Rattle.lan_schedule.specs.Shown.{words_in, words_of}
use Rattle.lan_schedule.specs.Sound.{IsTidy}
use Rattle.lan_schedule.specs.Standing.{AreBursts, Counts, Does, IsStaged, StandsFor, phase_of}
use Rattle.lan_schedule.specs.Woven.{RunsRace, WasBegun, WasWoven, is_controlling, race_in}
use Rattle.lan_schedule.specs.inside.Beside.{DidRace}
use Rattle.lan_schedule.specs.inside.Comes.{Comes}
use Rattle.lan_schedule.specs.inside.Phased.{is_end}
use Rattle.lan_schedule.proofs.Replaying.{begun-does, halted-does, never-does, numbered-does, raced-does, same-act, then-ok}
use Rattle.lan_schedule.proofs.Texting.{line-does}
use Rattle.lan_schedule.proofs.Doing.{told-none}
use Rattle.lan_schedule.proofs.LinesCome.{tidy-same}
use Rattle.lan_schedule.proofs.OnWay.{IsAs}

-- the same lines and bursts stand behind `while`
same-kept : (a b : List Burst) (c d : List Numbered) → Controlling a c ≡ Controlling b d
    → (a ≡ b) × (c ≡ d)
same-kept a b c d is = (cc is, cc is)

no-race : (phase : Phase) (w : World) → is_controlling phase ≡ false → race_in phase w ≡ nothing
no-race Apart w calm = refl
no-race (Bursting bursts) w calm = refl
no-race (Controlling bursts control) w calm = absurd (let bad : true ≡ false = calm in cc bad)
no-race Racing w calm = refl

module _ {K : Type 0} {Took : K → Report → K → Type 0} {Broke : K → Report → K → Unwritten → Type 0}
  where
    -- an act that comes to the same
    pub runs-act : (made : World → World) (f g : Act) (old new : Moment Replay K)
        (r : Result (Unit {0}) Halt)
        → ((w : World) → StandsFor w old.value → IsAs f w g w)
        → RunsRace Took Broke made g old new r → RunsRace Took Broke made f old new r
    unfolding same-act
    runs-act made f g old new r alike d = record {
      does = same-act f g old new r alike d.does;
      woven = λ w later left reached bursts control stood was.
          d.woven w later left reached bursts control stood was;
    }

    -- where none is kept
    pub runs-none : (made : World → World) (act : Act) (old new : Moment Replay K)
        (r : Result (Unit {0}) Halt) (line : Line) → is_end (phase_of old.value.phase) line ≡ false
        → line ≡ lines.End → Does Took Broke act old new r → RunsRace Took Broke made act old new r
    runs-none made act old new r line other is d = record {
      does = d;
      woven = λ w later left reached bursts control stood was.
          let at : is_end (Controlling bursts control) lines.End ≡ false =
          ap (λ (p : Phase). is_end p lines.End) (sym stood ∙ reached.stands.phase)
          ∙ ap (λ (l : Line). is_end (phase_of old.value.phase) l) (sym is) ∙ other in
          absurd (let bad : true ≡ false = at in cc bad);
    }

    -- for want of memory nothing is known of it
    pub runs-wanting : (made : World → World) (act : Act) (old new : Moment Replay K)
        → Does Took Broke act old new (Err halts.Memory)
        → RunsRace Took Broke made act old new (Err halts.Memory)
    runs-wanting made act old new d = record {
      does = d;
      woven = λ w later left reached bursts control stood was. absurd (was.memory refl);
    }

    -- what stands for no world
    pub runs-never : (made : World → World) (act : Act) (old new : Moment Replay K)
        (r : Result (Unit {0}) Halt) → ((w : World) → StandsFor w old.value → ⊥)
        → RunsRace Took Broke made act old new r
    runs-never made act old new r never = record {
      does = never-does act old new r never;
      woven = λ w later left reached bursts control stood was. absurd (never w reached.stands);
    }

    -- where none is kept whose lines of control come, nothing is done
    pub runs-idle : (old : Moment Replay K) → is_controlling (phase_of old.value.phase) ≡ false
        → RunsRace Took Broke (λ w. w) (look (λ w. race_in w.kept.phase w)) old old (Ok tt)
    runs-idle old idle = record {
      does = record {
        chances = [];
        ends = λ w later left reached.
            let calm : is_controlling w.kept.phase ≡ false =
            ap (λ (p : Phase). is_controlling p) reached.stands.phase ∙ idle in (
              w,
              ap (λ (act : Act). perform act w) (no-race w.kept.phase w calm),
              reached,
              told-none w w old.outlet old.outlet refl refl,
              left,
              refl,
            );
      };
      woven = λ w later left reached bursts control stood was.
          absurd (let bad : true ≡ false = sym (ap (λ (p : Phase). is_controlling p) stood)
          ∙ ap (λ (p : Phase). is_controlling p) reached.stands.phase ∙ idle in cc bad);
    }

    -- a call that ended early is halted, and keeps its words
    pub runs-halted : (made : World → World) (act : Act) (old : Moment Replay K) (k : K)
        (x y : Replay) (e : Halt) → ((v : World) → Counts v x → Counts v y)
        → words_of x ≡ words_of y → RunsRace Took Broke made act old (moment x k) (Err e)
        → RunsRace Took Broke made act old (moment y k) (Err e)
    unfolding halted-does
    runs-halted made act old k x y e tells words d = record {
      does = halted-does act old k x y e tells d.does;
      woven = λ w later left reached bursts control stood was.
          subst (λ (cs : List ControlAt).
          WasWoven (made w) (workers_of bursts) control (words_of old.value) cs) words
          (d.woven w later left reached bursts control stood was);
    }

    -- its line begins
    pub runs-numbered : (number : ℕ) (act : Act) (old mid new : Moment Replay K)
        (r : Result (Unit {0}) Halt)
        → ((w : World) → StandsFor w old.value → StandsFor (at_line number w) mid.value)
        → mid.outlet ≡ old.outlet → words_of mid.value ≡ words_of old.value
        → RunsRace Took Broke (λ w. w) act mid new r
        → RunsRace Took Broke (at_line number) (seq (begin_line number) act) old new r
    unfolding numbered-does then-ok begun-does
    runs-numbered number act old mid new r begins same words d = record {
      does = numbered-does number act old mid new r begins same d.does;
      woven = λ w later left reached bursts control stood was.
          subst (λ (cs : List ControlAt).
          WasWoven (at_line number w) (workers_of bursts) control cs (words_of new.value)) words
          (d.woven (at_line number w) later left (record {
            stands = begins w reached.stands;
            tidy = tidy-same w (record w.kept { line = number }) reached.tidy refl refl refl refl refl
                (λ e. e) (λ e. e);
          }) bursts control stood was);
    }

    -- it is that of a text
    pub runs-text : (text : List ℕ) (number : ℕ) (line : Line) (old new : Moment Replay K)
        (r : Result (Unit {0}) Halt)
        → ((w : World) → StandsFor w old.value → number ≡ line_after w.kept.line)
        → line_in text ≡ Ok (Some line)
        → RunsRace Took Broke (at_line number) (numbered number line) old new r
        → RunsRace Took Broke (λ w. at_line (line_after w.kept.line) w) (performed text) old new r
    unfolding line-does same-act
    runs-text text number line old new r next said d = record {
      does = line-does text number line old new r next said d.does;
      woven = λ w later left reached bursts control stood was.
          let is = next w reached.stands in
          subst (λ (n : ℕ).
          WasWoven (at_line n w) (workers_of bursts) control (words_of old.value) (words_of new.value))
          is (d.woven w later left reached bursts control stood
          (subst (λ (n : ℕ). WasBegun bursts (at_line n w) r) (sym is) was));
    }

    -- the race of a group at work is that of the replay
    pub kept-runs : (bursts : List Burst) (control : List Numbered) (old new : Moment Replay K)
        (stage later : Stage) (r : Result (Unit {0}) Halt) → old.value.stage ≡ Some stage
        → phase_of old.value.phase ≡ Controlling bursts control → new.value.stage ≡ Some later
        → new.value.halted ≡ old.value.halted → phase_of new.value.phase ≡ Apart
        → ((w : World) → StandsFor w old.value → IsTidy w
        → AreBursts (names_of w.run) bursts × Comes (run_race bursts control w) w)
        → DidRace Took Broke bursts control (moment stage old.outlet) (moment later new.outlet) r
        → RunsRace Took Broke (λ w. w) (look (λ w. race_in w.kept.phase w)) old new r
    unfolding raced-does
    kept-runs bursts control old new stage later r is_old stood is_new halted apart comes d = record {
      does = raced-does bursts control old new stage later r is_old stood is_new halted apart comes d;
      woven = λ w rest left reached bs cs kept was.
          let at : w.kept.phase ≡ Controlling bursts control = reached.stands.phase ∙ stood in
          let same = same-kept bursts bs control cs (sym at ∙ kept) in
          let was_here : WasBegun bursts w r =
          subst (λ (b : List Burst). WasBegun b w r) (sym same.0) was in
          let words = d.woven w rest left
          (record {
            stands = subst (λ (o : Option Stage). IsStaged w old.value o) is_old reached.stands.stage;
            tidy = reached.tidy;
          }) (ap is_racing at) (comes w reached.stands reached.tidy).0
          (comes w reached.stands reached.tidy).1 was_here in
          subst (λ (b : List Burst).
          WasWoven w (workers_of b) cs (words_of old.value) (words_of new.value)) same.0
          (subst (λ (c : List Numbered).
          WasWoven w (workers_of bursts) c (words_of old.value) (words_of new.value)) same.1
          (subst (λ (o : Option Stage).
          WasWoven w (workers_of bursts) control (words_in o) (words_of new.value)) (sym is_old)
          (subst (λ (o : Option Stage).
          WasWoven w (workers_of bursts) control stage.words (words_in o)) (sym is_new) words)));
    }
