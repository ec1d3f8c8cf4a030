-- A replay does acts, one after the other, before its first station and with a group at work.
use Rattle.std.proofs.Common.{◌≡◌, ℕ, true, false, List, [], ◌∷◌, ◌++◌, Option, Some, None, refl, sym, ap}
use Rattle.std.proofs.Common.{◌∙◌, subst}
use Rattle.std.specs.Prelude.{Result, Ok, Err}
use Rattle.std.specs.Result.{IsErrAnd}
use Rattle.lan_core.specs.Run.{Run, facts_of}
use Rattle.fact_tally.specs.Summary.{counts}
use Rattle.trace_acts.specs.declared.choices.Choices.{Choices}
use Rattle.trace_acts.specs.declared.halt.Halt.{Halt}
use Rattle.trace_acts.specs.declared.halt.Halt.TheVariants as halts
use Rattle.lan_base.specs.declared.sink.Unwritten.{Unwritten}
use Rattle.trace_acts.specs.Names.{names_of}
use Rattle.trace_acts.specs.declared.halt.Halt.TheVariants.{Limit}
use Rattle.trace_acts.proofs.Public.{handed-on as hand-on}
use Rattle.lan_schedule.specs.declared.stage.Stage.{Stage}
use Rattle.lan_schedule.specs.declared.commands.Replay.{Replay}
use Rattle.lan_schedule.specs.declared.phase.Phase.{Phase as Stood}
use Rattle.lan_schedule.specs.Races.{Apart, Burst, Chance, Numbered, Phase, Controlling}
use Rattle.lan_schedule.specs.World.{World, Kept, nothing_kept, is_racing}
use Rattle.lan_schedule.specs.Acts.{Act, nothing, change, seq, perform, Course, Goes, Stops}
use Rattle.lan_schedule.specs.Lines.{begin_line, at_line, performed, performed_all}
use Rattle.lan_schedule.specs.Reports.{Report}
use Rattle.lan_schedule.specs.Sound.{IsTidy}
use Rattle.lan_schedule.specs.Ends.{Moment, moment, Ends}
use Rattle.lan_schedule.specs.Standing.{IsNamed, phase_of, AreBursts, AreFit, IsStaged, HasTally, StandsFor, Counts, Does, replays}
use Rattle.lan_schedule.specs.Stages.{StandsFor as StageStandsFor, stages}
use Rattle.lan_schedule.specs.inside.Comes.{Comes}
use Rattle.lan_schedule.specs.inside.Staged.{Did}
use Rattle.lan_schedule.proofs.Doing.{both-chances, told-none, ends-behind, ends-early, ends-memory}
use Rattle.lan_schedule.specs.declared.phase.Phase.TheVariants as stood
use Rattle.lan_schedule.specs.inside.Recording.{Mark, stages_since}
use Rattle.lan_schedule.proofs.Doing.{ends-seen}
use Rattle.lan_schedule.specs.Races.{Excess, workers_of, limit_of}
use Rattle.lan_schedule.specs.Acts.{begun_race, race, world_of, look}
use Rattle.lan_schedule.specs.Lines.{control_act, excess_of, run_race, unless_exceeded}
use Rattle.lan_schedule.specs.Woven.{is_controlling, race_in}
use Rattle.lan_schedule.specs.inside.Beside.{DidRace}
use Rattle.lan_schedule.proofs.OnWay.{IsAs, as-append, as-left}
use Rattle.lan_schedule.proofs.Recorded.{since-apart, leaves-counts}
use Rattle.lan_schedule.proofs.LinesCome.{tidy-same}
use Rattle.lan_schedule.proofs.RunNone.{race-raced}
use Rattle.lan_schedule.proofs.Still.{IsStill, stays}

-- a replay that stands for a world has its tally
has-tally : (w : World) (replay : Replay) (o : Option Stage) → IsStaged w replay o
    → HasTally w replay o
has-tally w replay None h = h.2 ∙ ap (λ (r : Run). counts (facts_of r)) (sym h.0)
has-tally w replay (Some stage) h = h.tally

pub stands-counts : (w : World) (replay : Replay) → StandsFor w replay → Counts w replay
stands-counts w replay stands = has-tally w replay replay.stage stands.stage

module _ {K : Type 0} {Took : K → Report → K → Type 0} {Broke : K → Report → K → Unwritten → Type 0}
  where
    -- an act that comes to the same
    unfoldable pub same-act : (f g : Act) (old new : Moment Replay K) (r : Result (Unit {0}) Halt)
        → ((w : World) → StandsFor w old.value → IsAs f w g w)
        → Does Took Broke g old new r → Does Took Broke f old new r
    same-act f g old new r alike d = record {
      chances = d.chances;
      ends = λ w later is reached.
          ends-behind Took Broke replays f g w w later old.outlet old.outlet
          new r (told-none w w old.outlet old.outlet refl refl) refl (alike w reached.stands)
          (d.ends w later is reached);
    }

    -- the first act ended early
    pub then-err : (f g : Act) (old new : Moment Replay K) (e : Halt) → Does Took Broke f old new (Err e)
        → Does Took Broke (seq f g) old new (Err e)
    then-err f g old new e d = record {
      chances = d.chances;
      ends = λ w later is reached.
          ends-early Took Broke replays f g w later old.outlet new e
          (d.ends w later is reached);
    }

    -- the first act was done, and then the second ended so
    unfoldable pub then-ok : (f g : Act) (old mid new : Moment Replay K) (r : Result (Unit {0}) Halt)
        → Does Took Broke f old mid (Ok tt) → Does Took Broke g mid new r
        → Does Took Broke (seq f g) old new r
    then-ok f g old mid new r d e = record {
      chances = d.chances ++ e.chances;
      ends = λ w later is reached.
          let first = d.ends w (e.chances ++ later)
          (both-chances w.kept.chances d.chances e.chances later is) reached in
          ends-behind Took Broke replays (seq f g) g w first.0 later
          old.outlet mid.outlet new r first.3 first.5 (as-left f g w first.0 first.1)
          (e.ends first.0 later first.4 first.2);
    }

    pub does-none : (now : Moment Replay K) → Does Took Broke nothing now now (Ok tt)
    does-none now = record {
      chances = [];
      ends = λ w later is reached.
          (w, refl, reached, told-none w w now.outlet now.outlet refl refl, is, refl);
    }

    pub does-more : (a b c : Moment Replay K) (xs ys : List (List ℕ)) (r : Result (Unit {0}) Halt)
        → Does Took Broke (performed_all xs) a b (Ok tt) → Does Took Broke (performed_all ys) b c r
        → Does Took Broke (performed_all (xs ++ ys)) a c r
    does-more a b c xs ys r d e =
        same-act _ _ a c r (λ w stands. as-append xs ys w)
        (then-ok (performed_all xs) (performed_all ys) a b c r d e)

    pub does-early : (a b : Moment Replay K) (xs ys : List (List ℕ)) (e : Halt)
        → Does Took Broke (performed_all xs) a b (Err e)
        → Does Took Broke (performed_all (xs ++ ys)) a b (Err e)
    does-early a b xs ys e d =
        same-act _ _ a b (Err e) (λ w stands. as-append xs ys w)
        (then-err (performed_all xs) (performed_all ys) a b e d)

    -- one line
    pub one-does : (text : List ℕ) (a b : Moment Replay K) (r : Result (Unit {0}) Halt)
        → Does Took Broke (performed text) a b r → Does Took Broke (performed_all (text ∷ [])) a b r
    one-does text a b (Ok done) d = then-ok (performed text) nothing a b b (Ok tt) d (does-none b)
    one-does text a b (Err e) d = then-err (performed text) nothing a b e d

    -- no memory, before more was told
    pub memory-does : (act : Act) (old new : Moment Replay K)
        → ((w : World) → StandsFor w old.value → Counts w new.value) → new.outlet ≡ old.outlet
        → Does Took Broke act old new (Err halts.Memory)
    memory-does act old new counted same = record {
      chances = [];
      ends = λ w later is reached. ends-memory Took Broke replays act w later old.outlet new
          reached.tidy (counted w reached.stands) same;
    }

    -- an error that `?` hands on is the error
    pub handed-on : (act : Act) (old new : Moment Replay K) (e : Halt) (r : Result (Unit {0}) Halt)
        → Does Took Broke act old new (Err e) → IsErrAnd r (λ y. y ≡ e) → Does Took Broke act old new r
    handed-on act old new e r d is = hand-on (Does Took Broke) act old new e r d is

    -- an error that `?` hands on, where the error is want of memory
    pub memory-any : (act : Act) (old new : Moment Replay K) (r : Result (Unit {0}) Halt) {e : Halt}
        → ((w : World) → StandsFor w old.value → Counts w new.value) → new.outlet ≡ old.outlet
        → e ≡ halts.Memory → IsErrAnd r (λ y. y ≡ e) → Does Took Broke act old new r
    memory-any act old new r {e} counted same memory is =
        handed-on act old new e r
        (subst (λ (h : Halt). Does Took Broke act old new (Err h)) (sym memory)
        (memory-does act old new counted same)) is

    -- where a call ended early, the replay is halted, and keeps its tally
    unfoldable pub halted-does : (act : Act) (old : Moment Replay K) (k : K) (x y : Replay) (e : Halt)
        → ((v : World) → Counts v x → Counts v y) → Does Took Broke act old (moment x k) (Err e)
        → Does Took Broke act old (moment y k) (Err e)
    halted-does act old k x y e tells d = record {
      chances = d.chances;
      ends = λ w later is reached.
          ends-seen Took Broke replays replays w later act old.outlet k x y (Err e)
          (λ v goes e. absurd (cc e)) (λ v halt. tells v) tells (d.ends w later is reached);
    }

    -- ---- a line begins

    unfoldable pub begun-does : (number : ℕ) (old new : Moment Replay K)
        → ((w : World) → StandsFor w old.value → StandsFor (at_line number w) new.value)
        → new.outlet ≡ old.outlet → Does Took Broke (begin_line number) old new (Ok tt)
    begun-does number old new begins same = record {
      chances = [];
      ends = λ w later is reached. (
        at_line number w,
        refl,
        record {
          stands = begins w reached.stands;
          tidy = tidy-same w _ reached.tidy refl refl refl refl refl (λ e. e) (λ e. e);
        },
        told-none w (at_line number w) old.outlet new.outlet refl same,
        is,
        refl,
      );
    }

    unfoldable pub numbered-does : (number : ℕ) (act : Act) (old mid new : Moment Replay K)
        (r : Result (Unit {0}) Halt)
        → ((w : World) → StandsFor w old.value → StandsFor (at_line number w) mid.value)
        → mid.outlet ≡ old.outlet → Does Took Broke act mid new r
        → Does Took Broke (seq (begin_line number) act) old new r
    numbered-does number act old mid new r begins same d =
        then-ok (begin_line number) act old mid new r (begun-does number old mid begins same) d

-- ---- with a group at work

-- outside of a race nothing is kept for one
pub fit-apart : (w : World) → w.kept.phase ≡ Apart → AreFit (names_of w.run) w.kept.phase
fit-apart w apart = subst (λ (p : Phase). AreFit (names_of w.run) p) (sym apart) tt

-- since nothing was kept
nowhere : Mark
nowhere = record { run = []; words = [] }

-- no line stands where control's are performed
pub stood-apart : (phase : Stood) → is_racing (phase_of phase) ≡ false
stood-apart stood.Apart = refl
stood-apart (stood.Bursting bursts) = refl
stood-apart (stood.Controlling bursts control) = refl

module _ {K : Type 0} (Took : K → Report → K → Type 0) (Broke : K → Report → K → Unwritten → Type 0)
  where
    staged-ends : (mark : Mark) (w : World) (later : List Chance) (act : Act) (a k : K) (stage : Stage)
        (replay : Replay) (r : Result (Unit {0}) Halt) → replay.stage ≡ Some stage
        → (r ≡ Ok tt → replay.halted ≡ None)
        → ((v : World) → perform act w ≡ Goes v → v.kept.phase ≡ phase_of replay.phase)
        → ((v : World) → perform act w ≡ Goes v → v.kept.phase ≡ Apart)
        → Ends (stages_since mark) Took Broke w later act a (moment stage k) r
        → Ends replays Took Broke w later act a (moment replay k) r
    staged-ends mark w later act a k stage replay r is goes phase apart h =
        ends-seen Took Broke (stages_since mark) replays w later act a k stage replay r
        (λ v there e stands. record {
          goes = goes e;
          phase = phase v there;
          fit = fit-apart v (apart v there);
          stage = subst (λ (o : Option Stage). IsStaged v replay o) (sym is) stands.stands;
        })
        (λ v halt leaves. subst (λ (o : Option Stage). HasTally v replay o) (sym is)
        (leaves-counts mark halt v stage leaves))
        (λ v tally. subst (λ (o : Option Stage). HasTally v replay o) (sym is) tally) h

module _ {K : Type 0} {Took : K → Report → K → Type 0} {Broke : K → Report → K → Unwritten → Type 0}
  where
    -- what a group at work did, the replay did
    pub staged-does : (act : Act) (old new : Moment Replay K) (stage later : Stage)
        (r : Result (Unit {0}) Halt)
        → ((w : World) → StandsFor w old.value → IsTidy w → Comes act w) → IsStill act
        → old.value.stage ≡ Some stage
        → new.value.stage ≡ Some later → new.value.halted ≡ old.value.halted
        → new.value.phase ≡ old.value.phase → phase_of old.value.phase ≡ Apart
        → Did Took Broke act (moment stage old.outlet) (moment later new.outlet) r
        → Does Took Broke act old new r
    staged-does act old new stage later r comes still is_old is_new halted phase outside d = record {
      chances = d.chances;
      ends = λ w rest left reached.
          let inner : StageStandsFor w stage =
          subst (λ (o : Option Stage). IsStaged w old.value o) is_old reached.stands.stage in
          staged-ends Took Broke nowhere w rest act old.outlet new.outlet later new.value r is_new
          (λ e. halted ∙ reached.stands.goes)
          (λ v there. stays act w v still there ∙ reached.stands.phase
          ∙ ap (λ (p : Stood). phase_of p) (sym phase))
          (λ v there. stays act w v still there ∙ reached.stands.phase ∙ outside)
          (d.ends nowhere w rest left (record {
            stands = since-apart nowhere w stage inner
                (ap is_racing reached.stands.phase ∙ stood-apart old.value.phase);
            tidy = reached.tidy;
          })
          (comes w reached.stands reached.tidy));
    }

    -- the group opened in another world, whose run is the same
    pub opened-does : (act : Act) (begins : World → World) (old new : Moment Replay K)
        (stage later : Stage) (r : Result (Unit {0}) Halt)
        → ((w : World) → (begins w).run ≡ w.run)
        → ((w : World) → (begins w).kept.chances ≡ w.kept.chances)
        → ((w : World) → (begins w).kept.phase ≡ w.kept.phase) → IsStill act
        → ((w : World) → StandsFor w old.value → IsTidy w
        → StageStandsFor (begins w) stage × IsTidy (begins w) × Comes act (begins w)
        × IsAs act w act (begins w))
        → new.value.stage ≡ Some later → new.value.halted ≡ old.value.halted
        → new.value.phase ≡ old.value.phase
        → ((w : World) → StandsFor w old.value → w.kept.phase ≡ Apart)
        → Did Took Broke act (moment stage old.outlet) (moment later new.outlet) r
        → Does Took Broke act old new r
    opened-does act begins old new stage later r same_run same_chances same_phase still opens is halted
        phase outside d =
        record {
          chances = d.chances;
          ends = λ w rest left reached.
              let o = opens w reached.stands reached.tidy in
              ends-behind Took Broke replays act act w (begins w) rest old.outlet
              old.outlet new r (told-none w (begins w) old.outlet old.outlet (same_run w) refl)
              (ap (λ (p : Phase). is_racing p) (same_phase w)) o.3
              (staged-ends Took Broke nowhere (begins w) rest act old.outlet new.outlet later new.value
              r is (λ e. halted ∙ reached.stands.goes)
              (λ v there. stays act (begins w) v still there ∙ same_phase w ∙ reached.stands.phase
              ∙ ap (λ (p : Stood). phase_of p) (sym phase))
              (λ v there. stays act (begins w) v still there ∙ same_phase w
              ∙ outside w reached.stands)
              (d.ends nowhere (begins w) rest (same_chances w ∙ left) (record {
                stands = since-apart nowhere (begins w) stage o.0
                    (ap is_racing (same_phase w ∙ reached.stands.phase)
                    ∙ stood-apart old.value.phase);
                tidy = o.1;
              }) o.2));
        }

    -- ---- before the first station

    -- what is kept changes
    pub unbegun-does : (f : Kept → Kept) (old new : Moment Replay K) → old.value.stage ≡ None
        → new.value.stage ≡ None → new.value.halted ≡ old.value.halted
        → new.value.nothing ≡ old.value.nothing → new.value.phase ≡ old.value.phase
        → ((kept : Kept) → ((f kept).chances ≡ kept.chances) × ((f kept).phase ≡ kept.phase))
        → ((w : World) → IsTidy w → w.run ≡ [] → IsTidy (record w { kept = f w.kept }))
        → ((chances : List Chance)
        → f (record (nothing_kept chances) { line = old.value.line; chosen = old.value.chosen })
        ≡ record (nothing_kept chances) { line = new.value.line; chosen = new.value.chosen })
        → (IsNamed old.value.chosen.group → IsNamed new.value.chosen.group)
        → new.outlet ≡ old.outlet → Does Took Broke (change f) old new (Ok tt)
    unbegun-does f old new is_old is_new halted tally phase keeps tidied same named outlet = record {
      chances = [];
      ends = λ w later left reached.
          let before = subst (λ (o : Option Stage). IsStaged w old.value o) is_old
          reached.stands.stage in
          let v : World = record w { kept = f w.kept } in (
            v,
            refl,
            record {
              stands = record {
                goes = halted ∙ reached.stands.goes;
                fit = fit-apart v ((keeps w.kept).1 ∙ ap (λ (k : Kept). k.phase) before.1);
                phase = (keeps w.kept).1 ∙ reached.stands.phase
                    ∙ ap (λ (p : Stood). phase_of p) (sym phase);
                stage = subst (λ (o : Option Stage). IsStaged v new.value o) (sym is_new) (
                  before.0,
                  ap (λ (k : Kept). f k) before.1 ∙ same w.kept.chances
                      ∙ ap (λ (c : List Chance). record (nothing_kept c) {
                        line = new.value.line;
                        chosen = new.value.chosen;
                      }) (sym (keeps w.kept).0),
                  tally ∙ before.2,
                  named before.3,
                );
              };
              tidy = tidied w reached.tidy before.0;
            },
            told-none w v old.outlet new.outlet refl outlet,
            (keeps w.kept).0 ∙ left,
            ap (λ (p : Phase). is_racing p) (keeps w.kept).1,
          );
    }

-- the line of a number begins
pub line-staged : (number : ℕ) (w : World) (old new : Replay) (stage later : Stage)
    → old.stage ≡ Some stage → new.stage ≡ Some later → new.halted ≡ old.halted
    → new.phase ≡ old.phase → ((w : World) → StageStandsFor w stage → StageStandsFor (at_line number w) later)
    → StandsFor w old → StandsFor (at_line number w) new
line-staged number w old new stage later is_old is_new halted phase begins stands = record {
  goes = halted ∙ stands.goes;
  phase = stands.phase ∙ ap (λ (p : Stood). phase_of p) (sym phase);
  fit = stands.fit;
  stage = subst (λ (o : Option Stage). IsStaged (at_line number w) new o) (sym is_new)
      (begins w (subst (λ (o : Option Stage). IsStaged w old o) is_old stands.stage));
}

pub line-unbegun : (number : ℕ) (w : World) (old new : Replay) → old.stage ≡ None
    → new.stage ≡ None → new.halted ≡ old.halted → new.line ≡ number → new.chosen ≡ old.chosen
    → new.nothing ≡ old.nothing → new.phase ≡ old.phase → StandsFor w old
    → StandsFor (at_line number w) new
line-unbegun number w old new is_old is_new halted line chosen tally phase stands =
    let before = subst (λ (o : Option Stage). IsStaged w old o) is_old stands.stage in
    record {
      goes = halted ∙ stands.goes;
      phase = stands.phase ∙ ap (λ (p : Stood). phase_of p) (sym phase);
      fit = stands.fit;
      stage = subst (λ (o : Option Stage). IsStaged (at_line number w) new o) (sym is_new) (
        before.0,
        ap (λ (k : Kept). record k { line = number }) before.1
            ∙ (λ i. record (nothing_kept w.kept.chances) {
              line = sym line i;
              chosen = sym chosen i;
            }),
        tally ∙ before.2,
        subst (λ (c : Choices). IsNamed c.group) (sym chosen) before.3,
      );
    }

pub none-stage : (o : Option Stage) → ((x : Stage) → o ≡ Some x → ⊥) → o ≡ None
none-stage None other = refl
none-stage (Some stage) other = absurd (other stage refl)

-- ---- a race

-- no race ends before the first station
pub unbegun-never : (w : World) (replay : Replay) → StandsFor w replay → replay.stage ≡ None
    → is_controlling (phase_of replay.phase) ≡ true → ⊥
unbegun-never w replay stands unbegun controls =
    let before = subst (λ (o : Option Stage). IsStaged w replay o) unbegun stands.stage in
    let apart : Apart ≡ phase_of replay.phase =
    sym (ap (λ (k : Kept). k.phase) before.1) ∙ stands.phase in
    let bad : false ≡ true = ap is_controlling apart ∙ controls in cc bad

-- behind a race the lines stand in none
apart-behind : (bursts : List Burst) (control : List Numbered) (w v : World) (o : Option Excess)
    → perform (unless_exceeded o (race (workers_of bursts) (control_act control))) w ≡ Goes v
    → v.kept.phase ≡ Apart
apart-behind bursts control w v None e =
    ap (λ (o : Course). (world_of o).kept.phase) (sym e)
    ∙ (race-raced (workers_of bursts) w
    (perform (control_act control) (begun_race (workers_of bursts) w))).apart
apart-behind bursts control w v (Some excess) e =
    absurd (let bad : Stops w (Limit (limit_of excess)) ≡ Goes v = e in cc bad)

pub race-apart : (bursts : List Burst) (control : List Numbered) (w v : World)
    → perform (run_race bursts control w) w ≡ Goes v → v.kept.phase ≡ Apart
race-apart bursts control w v e = apart-behind bursts control w v (excess_of bursts w) e

module _ {K : Type 0} {Took : K → Report → K → Type 0} {Broke : K → Report → K → Unwritten → Type 0}
  where
    -- what stands for no world
    pub never-does : (act : Act) (old new : Moment Replay K) (r : Result (Unit {0}) Halt)
        → ((w : World) → StandsFor w old.value → ⊥) → Does Took Broke act old new r
    never-does act old new r never = record {
      chances = [];
      ends = λ w later is reached. absurd (never w reached.stands);
    }

    -- the race of a group at work is that of the replay
    unfoldable pub raced-does : (bursts : List Burst) (control : List Numbered) (old new : Moment Replay K)
        (stage later : Stage) (r : Result (Unit {0}) Halt) → old.value.stage ≡ Some stage
        → phase_of old.value.phase ≡ Controlling bursts control → new.value.stage ≡ Some later
        → new.value.halted ≡ old.value.halted → phase_of new.value.phase ≡ Apart
        → ((w : World) → StandsFor w old.value → IsTidy w
        → AreBursts (names_of w.run) bursts × Comes (run_race bursts control w) w)
        → DidRace Took Broke bursts control (moment stage old.outlet) (moment later new.outlet) r
        → Does Took Broke (look (λ w. race_in w.kept.phase w)) old new r
    raced-does bursts control old new stage later r is_old stood is_new halted apart comes d = record {
      chances = d.chances;
      ends = λ w rest left reached.
          let inner : StageStandsFor w stage =
          subst (λ (o : Option Stage). IsStaged w old.value o) is_old reached.stands.stage in
          let at : w.kept.phase ≡ Controlling bursts control = reached.stands.phase ∙ stood in
          subst (λ (p : Phase). Ends replays Took Broke w rest
          (race_in p w) old.outlet new r) (sym at)
          (ends-seen Took Broke stages replays w rest (run_race bursts control w) old.outlet
          new.outlet later new.value r
          (λ v there e stands. record {
            goes = halted ∙ reached.stands.goes;
            phase = race-apart bursts control w v there ∙ sym apart;
            fit = fit-apart v (race-apart bursts control w v there);
            stage = subst (λ (o : Option Stage). IsStaged v new.value o) (sym is_new) stands;
          })
          (λ v halt tally. subst (λ (o : Option Stage). HasTally v new.value o) (sym is_new) tally)
          (λ v tally. subst (λ (o : Option Stage). HasTally v new.value o) (sym is_new) tally)
          (d.ends w rest left (record { stands = inner; tidy = reached.tidy })
          (ap is_racing at) (comes w reached.stands reached.tidy).0
          (comes w reached.stands reached.tidy).1));
    }
