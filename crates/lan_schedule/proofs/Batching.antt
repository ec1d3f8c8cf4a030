-- Frames next to each other reach a station, which checked them in batches.
use Rattle.std.proofs.Common.{◌≡◌, ℕ, ◌+◌, ◌-◌, ◌<◌, ◌≤◌, List, [], ◌∷◌, ◌++◌, sym, subst, refl}
use Rattle.std.proofs.Common.{length, ap, arith}
use Rattle.std.specs.Prelude.{Result, Ok, Err, Option, Some, None, IfSome, map, slice_get}
use Rattle.std.specs.Result.{IsErrAnd}
use Rattle.lan_base.specs.declared.frame.UserFrame.{UserFrame}
use Rattle.rx_slots.specs.declared.arrival.Checked.{Checked}
use Rattle.rx_slots.specs.Answers.{checked}
use Rattle.rx_slots.specs.Histories.{Receiving, standing_key}
use Rattle.rx_slots.specs.Slots.{Slots}
use Rattle.rx_slots.specs.Standing.{StandsFor as SlotsStandFor}
use Rattle.lan_core.specs.declared.event.Event.TheVariants.{Deliver}
use Rattle.lan_core.specs.declared.fact.Fact.{Fact}
use Rattle.lan_core.specs.declared.settings.Settings.{Settings}
use Rattle.lan_core.specs.Run.{Run, Happening, Profile, happened, stations}
use Rattle.lan_core.specs.Lives.{receiving}
use Rattle.lan_core.specs.Expected.{expected}
use Rattle.lan_core.specs.Standing.{StandsFor as GroupStandsFor}
use Rattle.lan_core.specs.Batches.{IsChecked, BringsData, IsBatch, HasSlots}
use Rattle.trace_acts.specs.declared.halt.Halt.{Halt}
use Rattle.trace_acts.specs.declared.halt.Halt.TheVariants as halts
use Rattle.lan_base.specs.declared.sink.Unwritten.{Unwritten}
use Rattle.lan_schedule.specs.declared.stage.Stage.{Stage}
use Rattle.lan_schedule.specs.World.{World, settings}
use Rattle.lan_schedule.specs.Acts.{Act, happen, perform, seq, shown, span, world_after}
use Rattle.lan_schedule.specs.Answers.{answer}
use Rattle.lan_schedule.specs.Sound.{IsTidy}
use Rattle.lan_schedule.specs.Reports.{Report}
use Rattle.lan_schedule.specs.Ends.{Moment}
use Rattle.lan_schedule.specs.inside.Batching.{IsData, AreData, AreChecked, first_answer}
use Rattle.lan_schedule.specs.inside.Batching.{rest_answers}
use Rattle.lan_schedule.specs.inside.Comes.{Comes, IsGoing}
use Rattle.lan_schedule.specs.inside.Recording.{stages_since}
use Rattle.lan_schedule.specs.inside.Staged.{Did, DidWhere}
use Rattle.lan_schedule.proofs.Doing.{both-chances, going, span-next, span-done, ends-behind, ends-early, memory-does, nothing-does, handed-on}
use Rattle.lan_schedule.proofs.OnWay.{as-left}
use Rattle.lan_schedule.proofs.Recorded.{seats-kept, seats-then}

-- ---- the frames of a batch

-- one frame more
pub data-end : (r : Run) (n : ℕ) (frames : List (List ℕ)) (octets : List ℕ) → AreData r n frames
    → IsData r (n + length frames) octets → AreData r n (frames ++ octets ∷ [])
data-end r n [] octets are is =
    (let e : n + 0 ≡ n = omega arith in subst (λ (k : ℕ). IsData r k octets) e is, tt)
data-end r n (o ∷ later) octets are is = (
  are.0,
  data-end r (n + 1) later octets are.1
      (let e : n + length (o ∷ later) ≡ n + 1 + length later = omega arith in
      subst (λ (k : ℕ). IsData r k octets) e is),
)

each-checked : (r : Run) (n s : ℕ) (p : Profile) (frames : List (List ℕ))
    → slice_get (stations r) s ≡ Some p → AreData r n frames → AreChecked r n s
    (map (λ (frame : List ℕ). checked p.sci (standing_key (receiving s r)) frame) frames)
each-checked r n s p [] at are = tt
each-checked r n s p (octets ∷ later) at are = (
  record {
    frame = are.0.frame;
    found = are.0.found;
    protected = are.0.protected;
    profile = p;
    station = at;
    is = ap (λ (o : List ℕ). checked p.sci (standing_key (receiving s r)) o) are.0.same;
  },
  each-checked r (n + 1) s p later at are.1,
)

-- what is answered to them under the slots of a station
pub answers-are : (settings : Settings) (r : Run) (n s : ℕ) (slots : Slots) (frames : List (List ℕ))
    (answers : List Checked) → HasSlots settings (receiving s r) (Some slots) (slice_get (stations r) s)
    → ((own : _) (window : ℕ) (h : List Receiving) → SlotsStandFor own window slots h
    → answers ≡ map (λ (frame : List ℕ). checked own (standing_key h) frame) frames)
    → AreData r n frames → AreChecked r n s answers
answers-are settings r n s slots frames answers has are on_air = by (slice_get (stations r) s) refl has
  where
    by : (o : Option Profile) → slice_get (stations r) s ≡ o
        → HasSlots settings (receiving s r) (Some slots) o → AreChecked r n s answers
    by None at has = absurd has
    by (Some p) at has = subst (λ (l : List Checked). AreChecked r n s l)
        (sym (are p.sci settings.window (receiving s r) has)) (each-checked r n s p frames at on_air)

-- ---- what was checked stays so

-- the law of it
abbrev pub StaysChecked : Type 0
StaysChecked = (settings : Settings) (users : List UserFrame) (r batch : Run)
    → IsBatch settings users r batch → (number s : ℕ) (answer : Checked)
    → IsChecked r number s answer → IsChecked (batch ++ r) number s answer

each-stays : (settings : Settings) (users : List UserFrame) (r : Run) (x : Happening) (n s : ℕ)
    (answers : List Checked) → StaysChecked → BringsData settings users r x
    → AreChecked r n s answers → AreChecked (x ∷ r) n s answers
each-stays settings users r x n s [] law brings are = tt
each-stays settings users r x n s (a ∷ later) law brings are = (
  law settings users r (x ∷ []) (brings, tt) n s a are.0,
  each-stays settings users r x (n + 1) s later law brings are.1,
)

-- a frame that was checked is a protected one that reaches its station
brings-data : (w : World) (n s : ℕ) (a : Checked) (facts : List Fact) → IsChecked w.run n s a
    → IsTidy (world_after w (Deliver n s) facts)
    → BringsData (settings w) w.kept.users w.run (happened (Deliver n s) facts)
unfolding expected
brings-data w n s a facts is tidy = record {
  number = n;
  station = s;
  event = refl;
  frame = is.frame;
  found = is.found;
  protected = is.protected;
  shows = λ drawn. tidy.sound.legal.stepped.0.shows;
}

behind-one : (w : World) (n s : ℕ) (answers : List Checked) (out : Result (List Fact) Halt)
    → StaysChecked → AreChecked w.run n s answers → IsGoing (shown w (Deliver n s) out)
    (λ v. IsTidy v → AreChecked v.run (n + 1) s (rest_answers answers))
behind-one w n s answers (Err halt) law are = tt
behind-one w n s [] (Ok facts) law are = λ tidy. tt
behind-one w n s (a ∷ later) (Ok facts) law are = λ tidy.
    each-stays (settings w) w.kept.users w.run (happened (Deliver n s) facts) (n + 1) s later law
    (brings-data w n s a facts are.0 tidy) are.1

first-is : (r : Run) (n s : ℕ) (answers : List Checked) → AreChecked r n s answers
    → IfSome (first_answer answers) (IsChecked r n s)
first-is r n s [] are = tt
first-is r n s (a ∷ later) are = are.0

-- ---- frame by frame

-- what is left of an act, done from here where this holds, is the whole act done from the start
pub record LeadsWhere {K : Type 0} (Holds : World → Type 0) (Took : K → Report → K → Type 0)
    (Broke : K → Report → K → Unwritten → Type 0) (whole : Act) (old : Moment Stage K) (left : Act)
    (now : Moment Stage K) : Type 0 where
  pub leads : (new : Moment Stage K) (r : Result (Unit {0}) Halt)
      → DidWhere Holds Took Broke left now new r → Did Took Broke whole old new r

-- the answers to the frame of a number and those behind it are these
abbrev pub Awaits : ℕ → ℕ → List Checked → World → Type 0
Awaits n s answers w = AreChecked w.run n s answers

abbrev pub reaching : ℕ → ℕ → ℕ → Act
reaching first s k = happen (Deliver (first + k) s)

module _ {K : Type 0} {Took : K → Report → K → Type 0} {Broke : K → Report → K → Unwritten → Type 0}
  where
    pub did-where : (Holds : World → Type 0) (act : Act) (old new : Moment Stage K)
        (r : Result (Unit {0}) Halt) → Did Took Broke act old new r
        → DidWhere Holds Took Broke act old new r
    did-where Holds act old new r d = record {
      chances = d.chances;
      ends = λ mark w later is reached holds comes. d.ends mark w later is reached comes;
      seats = d.seats;
    }

    where-did : (Holds : World → Type 0) (act : Act) (old new : Moment Stage K)
        (r : Result (Unit {0}) Halt) → ((w : World) → Holds w)
        → DidWhere Holds Took Broke act old new r → Did Took Broke act old new r
    where-did Holds act old new r holds d = record {
      chances = d.chances;
      ends = λ mark w later is reached comes. d.ends mark w later is reached (holds w) comes;
      seats = d.seats;
    }

    -- no answer is at hand yet
    pub batch-start : (f : ℕ → Act) (n first s : ℕ) (now : Moment Stage K)
        → LeadsWhere (Awaits (first + 0) s []) Took Broke (span f 0 n) now (span f 0 (n - 0)) now
    batch-start f n first s now = record {
      leads = λ new r d.
          let e : n - 0 ≡ n = omega arith in
          where-did (Awaits (first + 0) s []) (span f 0 n) now new r (λ w. tt)
          (subst (λ (k : ℕ). DidWhere (Awaits (first + 0) s []) Took Broke (span f 0 k) now new r) e d);
    }

    -- an answer was at hand, or was looked for, and the frame reached its station
    pub batch-step : (first s i n : ℕ) (whole : Act) (old now next : Moment Stage K)
        (before mid : List Checked) → i < n → StaysChecked
        → ((settings : Settings) (users : List UserFrame) (r : Run)
        → GroupStandsFor settings users now.value.lan r → AreChecked r (first + i) s before
        → AreChecked r (first + i) s mid)
        → LeadsWhere (Awaits (first + i) s before) Took Broke whole old
        (span (reaching first s) i (n - i)) now
        → DidWhere (λ w. IfSome (first_answer mid) (IsChecked w.run (first + i) s)) Took Broke
        (reaching first s i) now next (Ok tt)
        → LeadsWhere (Awaits (first + (i + 1)) s (rest_answers mid)) Took Broke whole old
        (span (reaching first s) (i + 1) (n - (i + 1))) next
    batch-step first s i n whole old now next before mid lt law look l d =
        let f = reaching first s i in
        let g = span (reaching first s) (i + 1) (n - (i + 1)) in record {
          leads = λ new r e. l.leads new r
              (subst (λ (a : Act). DidWhere (Awaits (first + i) s before) Took Broke a now new r)
              (sym (span-next (reaching first s) i n lt)) (record {
                chances = d.chances ++ e.chances;
                ends = λ mark w later is reached holds comes.
                    let are = look (settings w) w.kept.users w.run reached.stands.stands.lan holds in
                    let done = d.ends mark w (e.chances ++ later)
                    (both-chances w.kept.chances d.chances e.chances later is) reached
                    (first-is w.run (first + i) s mid are) comes.0 in
                    let comes_later : Comes g done.0 =
                    going (perform f w) done.0 (λ v. IsTidy v → Comes g v) done.1 comes.1
                    done.2.tidy in
                    let more : AreChecked done.0.run (first + i + 1) s (rest_answers mid) =
                    going (perform f w) done.0
                    (λ v. IsTidy v → AreChecked v.run (first + i + 1) s (rest_answers mid)) done.1
                    (behind-one w (first + i) s mid (answer w (Deliver (first + i) s)) law are)
                    done.2.tidy in
                    let one : first + i + 1 ≡ first + (i + 1) = omega arith in
                    ends-behind Took Broke (stages_since mark) (seq f g) g w done.0
                    later now.outlet next.outlet new r done.3 done.5 (as-left f g w done.0 done.1)
                    (e.ends mark done.0 later done.4 done.2
                    (subst (λ (k : ℕ). AreChecked done.0.run k s (rest_answers mid)) one more)
                    comes_later);
                seats = seats-then now.value.words next.value.words new.value.words d.seats e.seats;
              }));
        }

    -- the exit of a `?` as a frame reached its station
    pub batch-exit : (first s i n : ℕ) (whole : Act) (old now next : Moment Stage K)
        (before mid : List Checked) (halt : Halt) (r : Result (Unit {0}) Halt) → i < n
        → ((settings : Settings) (users : List UserFrame) (r : Run)
        → GroupStandsFor settings users now.value.lan r → AreChecked r (first + i) s before
        → AreChecked r (first + i) s mid)
        → LeadsWhere (Awaits (first + i) s before) Took Broke whole old
        (span (reaching first s) i (n - i)) now
        → DidWhere (λ w. IfSome (first_answer mid) (IsChecked w.run (first + i) s)) Took Broke
        (reaching first s i) now next (Err halt)
        → IsErrAnd r (λ y. y ≡ halt) → Did Took Broke whole old next r
    batch-exit first s i n whole old now next before mid halt r lt look l d is =
        let f = reaching first s i in
        let g = span (reaching first s) (i + 1) (n - (i + 1)) in
        handed-on whole old next halt r (l.leads next (Err halt)
        (subst (λ (a : Act). DidWhere (Awaits (first + i) s before) Took Broke a now next (Err halt))
        (sym (span-next (reaching first s) i n lt)) (record {
          chances = d.chances;
          ends = λ mark w later left reached holds comes.
              ends-early Took Broke (stages_since mark) f g w later
              now.outlet next halt
              (d.ends mark w later left reached
              (first-is w.run (first + i) s mid
              (look (settings w) w.kept.users w.run reached.stands.stands.lan holds)) comes.0);
          seats = d.seats;
        }))) is

    -- memory was wanting before a batch was checked
    pub batch-wanting : (Holds : World → Type 0) (whole left : Act) (old now : Moment Stage K)
        (r : Result (Unit {0}) Halt) → LeadsWhere Holds Took Broke whole old left now
        → IsErrAnd r (λ y. y ≡ halts.Memory) → Did Took Broke whole old now r
    batch-wanting Holds whole left old now r l is =
        handed-on whole old now halts.Memory r (l.leads now (Err halts.Memory)
        (did-where Holds left now now (Err halts.Memory)
        (memory-does left now now refl refl (seats-kept _)))) is

    pub batch-end : (Holds : World → Type 0) (f : ℕ → Act) (i n : ℕ) (whole : Act)
        (old now : Moment Stage K) → n ≤ i
        → LeadsWhere Holds Took Broke whole old (span f i (n - i)) now
        → Did Took Broke whole old now (Ok tt)
    batch-end Holds f i n whole old now le l =
        l.leads now (Ok tt) (subst (λ (a : Act). DidWhere Holds Took Broke a now now (Ok tt))
        (sym (span-done f i n le)) (did-where Holds _ now now (Ok tt) (nothing-does now)))
