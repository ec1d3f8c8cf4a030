-- What was woven is told, event by event, and so a race ends.
use Rattle.std.proofs.Common.{◌≡◌, ◌<◌, ◌≤◌, ℕ, ◌+◌, true, false, List, [], ◌∷◌, ◌++◌, length, length-append}
use Rattle.std.proofs.Common.{refl, sym, ap, ◌∙◌, subst, inl, inr, append_assoc, append-nil, arith}
use Rattle.std.specs.Prelude.{MatchResult, Result, Ok, Err}
use Rattle.std.specs.Result.{IsErrAnd}
use Rattle.std.proofs.lemmas.Result.{err_from_is_err_and}
use Rattle.std.proofs.lemmas.List.{length-map}
use Rattle.lan_core.specs.declared.fact.Fact.{Fact}
use Rattle.lan_core.specs.Run.{facts_of}
use Rattle.fact_tally.specs.Summary.{counts}
use Rattle.trace_acts.specs.declared.halt.Halt.{Halt}
use Rattle.trace_acts.specs.declared.halt.Halt.TheVariants as halts
use Rattle.lan_base.specs.declared.sink.Unwritten.{Unwritten}
use Rattle.trace_acts.specs.Halts.{halt_of_unwritten}
use Rattle.lan_schedule.specs.declared.race.Before.{Before}
use Rattle.lan_schedule.specs.declared.race.Ran.{Ran}
use Rattle.lan_schedule.specs.declared.stage.Stage.{Stage}
use Rattle.lan_schedule.specs.Races.{Chance, Numbered, Worker}
use Rattle.lan_schedule.specs.World.{World, is_racing}
use Rattle.lan_schedule.specs.Acts.{Act, Course, perform, race, world_of}
use Rattle.lan_schedule.specs.Lines.{control_act}
use Rattle.lan_schedule.specs.Reports.{AreTold, Report, reports}
use Rattle.lan_schedule.specs.Ends.{Ends, Moment, moment}
use Rattle.lan_schedule.specs.Stages.{stages}
use Rattle.lan_schedule.specs.inside.Beside.{EndsRace, IsLeft, Leaves, Weaves}
use Rattle.trace_acts.specs.Tellings.{WereToldUpTo}
use Rattle.lan_schedule.specs.inside.Weaves.{reports_with}
use Rattle.trace_acts.proofs.Public.{told-both}
use Rattle.lan_schedule.proofs.Doing.{ends-memory}

-- ---- told one by one

-- so many of them were told, and the others are ready
pub record HasTold {S K : Type 0} (Ready : S → List Report → Type 0)
    (Took : K → Report → K → Type 0) (all : List Report) (count : ℕ) (start : K) (recorder : S)
    (now : K) : Type 0 where
  pub told : List Report
  pub left : List Report
  pub parts : told ++ left ≡ all
  pub many : length told ≡ count
  pub by_one : AreTold Took start told now
  pub ready : Ready recorder left

module _ {S K : Type 0} (Ready : S → List Report → Type 0) (Took : K → Report → K → Type 0)
    (all : List Report) where
  pub told-none : (start : K) (recorder : S) → Ready recorder all
      → HasTold Ready Took all 0 start recorder start
  told-none start recorder ready = record {
    told = [];
    left = all;
    parts = refl;
    many = refl;
    by_one = refl;
    ready = ready;
  }

  -- there is one left
  none-left : (count many : ℕ) (told : List Report) → count < many → length all ≡ many
      → length told ≡ count → told ++ [] ≡ all → ⊥
  none-left count many told less long so_far parts =
      let whole = length-append told [] in
      let same = ap length parts in
      omega (arith, whole, same, so_far, less, long)

  pub told-next : (count many : ℕ) (start a b : K) (s t : S) → count < many → length all ≡ many
      → HasTold Ready Took all count start s a
      → ((report : Report) (later : List Report) → Ready s (report ∷ later)
      → Took a report b × Ready t later)
      → HasTold Ready Took all (count + 1) start t b
  told-next count many start a b s t less long h step = go h.left h.parts h.ready
    where
      go : (left : List Report) → h.told ++ left ≡ all → Ready s left
          → HasTold Ready Took all (count + 1) start t b
      go [] parts ready = absurd (none-left count many h.told less long h.many parts)
      go (report ∷ later) parts ready =
          let next = step report later ready in record {
            told = h.told ++ report ∷ [];
            left = later;
            parts = append_assoc h.told (report ∷ []) later ∙ parts;
            many = (let more = length-append h.told (report ∷ []) in let so_far = h.many in
                omega (arith, more, so_far));
            by_one = told-both Took start a b h.told (report ∷ []) h.by_one (b, next.0, refl);
            ready = next.1;
          }

  pub told-stops : (Broke : K → Report → K → Unwritten → Type 0) (count many : ℕ) (start a b : K) (s : S)
      (why : Unwritten) → count < many → length all ≡ many → HasTold Ready Took all count start s a
      → ((report : Report) (later : List Report) → Ready s (report ∷ later) → Broke a report b why)
      → WereToldUpTo Took Broke all start b why
  told-stops Broke count many start a b s why less long h step = go h.left h.parts h.ready
    where
      go : (left : List Report) → h.told ++ left ≡ all → Ready s left
          → WereToldUpTo Took Broke all start b why
      go [] parts ready = absurd (none-left count many h.told less long h.many parts)
      go (report ∷ later) parts ready = record {
        told = h.told;
        last = report;
        behind = later;
        parts = sym parts;
        before = a;
        by_one = h.by_one;
        breaks = step report later ready;
      }

  pub told-all : (count many : ℕ) (start a : K) (s : S) → many ≤ count → length all ≡ many
      → HasTold Ready Took all count start s a → AreTold Took start all a
  told-all count many start a s less long h = go h.left h.parts
    where
      go : (left : List Report) → h.told ++ left ≡ all → AreTold Took start all a
      go [] parts = subst (λ (l : List Report). AreTold Took start l a)
          (sym (append-nil h.told) ∙ parts) h.by_one
      go (report ∷ later) parts =
          let whole = length-append h.told (report ∷ later) in
          let same = ap length parts in
          let so_far = h.many in
          absurd (omega (arith, whole, same, so_far, less, long))

-- how many reports there are of what was kept
pub reports-many : (names : List (List ℕ)) (shown : List (List Fact)) (count : ℕ)
    → count ≡ length shown → length (reports_with names shown) ≡ count
reports-many names shown count is =
    length-map shown (λ (facts : List Fact). record { names = names; facts = facts }) ∙ sym is

-- an error that `?` hands on
pub match-err : (A : Unit {0} → Type 0) (B : Unwritten → Type 0) (r : Result (Unit {0}) Unwritten)
    (e : Unwritten) → IsErrAnd r (λ y. y ≡ e) → B e → MatchResult r A B
match-err A B r e is told =
    let p = err_from_is_err_and r is in
    subst (λ (r : Result (Unit {0}) Unwritten). MatchResult r A B)
    (sym (p.1 ∙ ap (λ (y : Unwritten). Err y) p.2)) told

-- ---- the end of a race

module _ {K : Type 0} (Took : K → Report → K → Type 0) (Broke : K → Report → K → Unwritten → Type 0)
    (before : Before) (ran : Ran) (now old new : Stage) (k : K)
    (is_old : old ≡ record now { line = before.line; tally = before.tally }) where
  old-at : (w : World) → before.line ≡ w.kept.line → before.tally ≡ counts (facts_of w.run)
      → old ≡ record now { line = w.kept.line; tally = counts (facts_of w.run) }
  old-at w line tally = is_old
      ∙ ap (λ n. record now { line = n; tally = before.tally }) line
      ∙ ap (λ t. record now { line = w.kept.line; tally = t }) tally

  -- all was told
  pub race-told : (shown : List (List Fact)) (came : Result (Unit {0}) Halt) (l : K)
      → Weaves ran old new (Ok (shown, came))
      → AreTold Took k (reports_with new.lan.names shown) l
      → EndsRace Took Broke before ran (moment now k) (moment new l) came
  race-told shown came l weaves told = record {
    chances = weaves.chances;
    ends = λ w later workers lines has left line tally.
        by w later (race workers (control_act lines)) has.apart came
        (weaves.leaves w later workers lines now has left (old-at w line tally)).0;
    woven = λ w later workers lines has left line tally memory.
        (weaves.leaves w later workers lines now has left (old-at w line tally)).1;
  } where
    by : (w : World) (later : List Chance) (act : Act) → is_racing w.kept.phase ≡ false
        → (c : Result (Unit {0}) Halt) → Leaves w later (perform act w) new shown c
        → Ends stages Took Broke w later act k (moment new l) c
    by w later act apart (Ok tt) h = (
      h.0,
      h.1,
      record { stands = h.3; tidy = h.2.tidy },
      record { told = reports_with new.lan.names shown; since = h.2.shows; by_one = told },
      h.4,
      h.2.apart ∙ sym apart,
    )
    by w later act apart (Err halt) h = inl (record {
      world = h.0;
      stops = h.1;
      tidy = h.2.tidy;
      leaves = h.2.counts;
      told = record {
        told = reports_with new.lan.names shown;
        since = h.2.shows;
        by_one = told;
      };
      left = h.3;
      same = h.2.apart ∙ sym apart;
    })

  -- the recorder broke
  pub race-broken : (shown : List (List Fact)) (came : Result (Unit {0}) Halt) (l : K) (why : Unwritten)
      → Weaves ran old new (Ok (shown, came))
      → WereToldUpTo Took Broke (reports_with new.lan.names shown) k l why
      → EndsRace Took Broke before ran (moment now k) (moment new l) (Err (halt_of_unwritten why))
  race-broken shown came l why weaves told = record {
    chances = weaves.chances;
    ends = λ w later workers lines has left line tally.
        by w later workers lines has.apart came
        (weaves.leaves w later workers lines now has left (old-at w line tally)).0;
    woven = λ w later workers lines has left line tally memory.
        (weaves.leaves w later workers lines now has left (old-at w line tally)).1;
  } where
    cut : (w : World) (later : List Chance) (workers : List Worker) (lines : List Numbered)
        → is_racing w.kept.phase ≡ false → (v : World) → IsLeft w v new shown
        → world_of (perform (race workers (control_act lines)) w) ≡ v
        → Ends stages Took Broke w later (race workers (control_act lines)) k
        (moment new l) (Err (halt_of_unwritten why))
    cut w later workers lines apart v left comes = inr (record {
      world = v;
      tidy = left.tidy;
      counts = left.counts;
      same = left.apart ∙ sym apart;
      on_way = inr (sym comes);
      cause = inr (record {
        told = told.told;
        last = told.last;
        behind = told.behind;
        since = left.shows ∙ ap (λ (text : List Report). reports w.run ++ text) told.parts;
        prompt = λ calm. absurd (let bad : true ≡ false = sym left.raced ∙ calm in cc bad);
        before = told.before;
        by_one = told.by_one;
        why = why;
        breaks = told.breaks;
        is = refl;
      });
    })

    by : (w : World) (later : List Chance) (workers : List Worker) (lines : List Numbered)
        → is_racing w.kept.phase ≡ false → (c : Result (Unit {0}) Halt)
        → Leaves w later (perform (race workers (control_act lines)) w) new shown c
        → Ends stages Took Broke w later (race workers (control_act lines)) k
        (moment new l) (Err (halt_of_unwritten why))
    by w later workers lines apart (Ok tt) h =
        cut w later workers lines apart h.0 h.2 (ap (λ (o : Course). world_of o) h.1)
    by w later workers lines apart (Err halt) h =
        cut w later workers lines apart h.0 h.2 (ap (λ (o : Course). world_of o) h.1)

-- no memory
pub race-wanting : {K : Type 0} (Took : K → Report → K → Type 0)
    (Broke : K → Report → K → Unwritten → Type 0) (before : Before) (ran : Ran) (now new : Stage) (k : K)
    → new.tally ≡ before.tally
    → EndsRace Took Broke before ran (moment now k) (moment new k) (Err halts.Memory)
race-wanting Took Broke before ran now new k same = record {
  chances = [];
  ends = λ w later workers lines has left line tally.
      ends-memory Took Broke stages (race workers (control_act lines)) w later
      k (moment new k) has.reached.tidy (same ∙ tally) refl;
  woven = λ w later workers lines has left line tally memory. absurd (memory refl);
}

-- an error that `?` hands on ends the race
pub race-handed : {K : Type 0} (Took : K → Report → K → Type 0)
    (Broke : K → Report → K → Unwritten → Type 0) (before : Before) (ran : Ran) (old new : Moment Stage K)
    (e : Halt) (r : Result (Unit {0}) Halt) → EndsRace Took Broke before ran old new (Err e)
    → IsErrAnd r (λ y. y ≡ e) → EndsRace Took Broke before ran old new r
race-handed Took Broke before ran old new e r ends is =
    let p = err_from_is_err_and r is in
    subst (λ (r : Result (Unit {0}) Halt). EndsRace Took Broke before ran old new r)
    (sym (p.1 ∙ ap (λ (y : Halt). Err y) p.2)) ends
