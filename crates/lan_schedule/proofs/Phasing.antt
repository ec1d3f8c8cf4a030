-- Lines that belong to a race are taken.
use Rattle.std.proofs.Common.{◌≡◌, ◌+◌, ℕ, Bool, true, false, List, []}
use Rattle.std.proofs.Common.{Option, Some, None, inl, inr, refl, sym, ap, ◌∙◌}
use Rattle.std.proofs.Common.{subst, arith}
use Rattle.std.proofs.lemmas.Bool.{cases_Bool, eqb-true}
use Rattle.std.specs.Prelude.{◌||◌, ◌&&◌, ◌⊎◌, not, nat_lt, ◌<◌, ◌≤◌, ◌==◌, ◌∷◌, ◌++◌, length, map}
use Rattle.std.specs.Prelude.{IfOk, IfErr, IfSome, Result, Ok, Err}
use Rattle.std.specs.Result.{IsErrAnd}
use Rattle.std.proofs.lemmas.Result.{err_from_is_err_and}
use Rattle.std.specs.List.{AllByRecursion, filter}
use Rattle.std.proofs.lemmas.List.Sums.{sum_by-cons}
use Rattle.lan_base.specs.declared.address.Mac.{Mac}
use Rattle.trace_text.specs.declared.line.Line.{Line}
use Rattle.trace_text.specs.declared.line.Line.TheVariants as lines
use Rattle.trace_acts.specs.declared.halt.Halt.{Halt}
use Rattle.trace_acts.specs.declared.halt.Halt.TheVariants as halts
use Rattle.trace_acts.specs.declared.halt.Kind.{Kind}
use Rattle.trace_acts.specs.declared.halt.Kind.TheVariants as kinds
use Rattle.lan_base.specs.declared.sink.Unwritten.{Unwritten}
use Rattle.trace_acts.specs.Names.{names_of}
use Rattle.trace_acts.specs.Kinds.{or_else, where_, first_of}
use Rattle.trace_acts.specs.Places.{is_race}
use Rattle.trace_acts.proofs.Public.{bytes-all, where-none as where-not}
use Rattle.lan_schedule.specs.declared.phase.Phase.{Phase as Stood}
use Rattle.lan_schedule.specs.declared.stage.Stage.{Stage}
use Rattle.lan_schedule.specs.declared.commands.Replay.{Replay}
use Rattle.lan_schedule.specs.Races.{Phase, Apart, Bursting, Controlling, Racing, Chance}
use Rattle.lan_schedule.specs.Races.{Burst, Numbered, behind_numbers, workers_at}
use Rattle.lan_schedule.specs.World.{World, settings, is_racing, place}
use Rattle.lan_schedule.specs.Acts.{Act, Goes, look, perform}
use Rattle.trace_text.specs.Limits.{most_control, most_workers}
use Rattle.lan_schedule.specs.declared.deed.Deed.{Deed}
use Rattle.lan_schedule.specs.Deeds.{IsInRange, burst_of, deed_of, kept_line, may_control}
use Rattle.lan_schedule.specs.Kinds.{is_burst_allowed, is_control_allowed}
use Rattle.lan_schedule.specs.Kinds.{no_station, refusal, too_many, wrong_burst, wrong_control}
use Rattle.lan_schedule.specs.Lines.{act_of, deed, deed_at, deed_controlling, enter, run_race}
use Rattle.lan_schedule.specs.Lines.{unless_refused, behind_while, behind_race}
use Rattle.lan_schedule.specs.Reports.{Report}
use Rattle.lan_schedule.specs.Ends.{Moment, IsReached, Ends}
use Rattle.lan_schedule.specs.Standing.{phase_of, AreFit, IsBurst, IsControl, IsStaged, HasTally, StandsFor, Counts, Does, replays}
use Rattle.lan_schedule.specs.Stages.{Says, StandsFor as StageStandsFor}
use Rattle.lan_schedule.specs.inside.Phased.{Enters, Refused, Takes, behind, is_end, is_inside}
use Rattle.lan_schedule.specs.inside.Phased.{is_taken, refusal_at, refused_burst, refused_control}
use Rattle.lan_schedule.specs.Woven.{is_controlling, race_in}
use Rattle.lan_schedule.specs.inside.Phased.{act_apart}
use Rattle.lan_core.specs.Types.{IsUserFrame}
use Rattle.trace_text.specs.Writing.{IsInForm}
use Rattle.lan_schedule.proofs.Doing.{told-none, ends-memory}
use Rattle.lan_schedule.proofs.LinesCome.{and-true, tidy-entered}
use Rattle.lan_schedule.proofs.EachDeed.{in-range}
use Rattle.lan_schedule.proofs.OnWay.{IsAs, as-self}
use Rattle.lan_schedule.proofs.Replaying.{stood-apart}
use Rattle.lan_schedule.proofs.Performing.{Places, place-is}

-- ---- why a line is refused

refused-where : (line : Line) (w : World) (phase : Phase) → w.kept.phase ≡ phase
    → refusal_at line w phase ≡ refusal line w
refused-where line w phase is = ap (λ (p : Phase). refusal_at line w p) (sym is)

or-none : (a b : Option Kind) → or_else a b ≡ None → (a ≡ None) × (b ≡ None)
or-none None b e = (refl, e)
or-none (Some kind) b e = absurd (cc e)

where-none : (test : Bool) (kind : Kind) → where_ (not test) kind ≡ None → test ≡ true
where-none true kind e = refl
where-none false kind e = absurd (cc e)

-- a line that begins a race isn't refused outside of one
pub race-allowed : (line : Line) (w : World) (stage : Stage) → StageStandsFor w stage
    → is_race line ≡ true → refusal_at line w Apart ≡ None
race-allowed lines.Race w stage stands is = rw stands.begun refl
race-allowed _ w stage stands is = absurd (cc is)

-- no other line than these may stand behind `race`
pub burst-order : (line : Line) (w : World) (bursts : List Burst) → (line ≡ lines.While → ⊥)
    → ((x : _) (x' : _) (x'' : _) (y : _) (y' : _) → line ≡ lines.Burst x x' x'' y y' → ⊥)
    → refusal_at line w (Bursting bursts) ≡ Some kinds.Order
burst-order lines.While w bursts a b = absurd (a refl)
burst-order (lines.Burst x x' x'' y y') w bursts a b = absurd (b x x' x'' y y' refl)
burst-order _ w bursts a b = refl

-- behind `while` a line is refused by its deed
control-reason : (line : Line) (w : World) (bursts : List Burst) (control : List Numbered)
    (o : Option Deed) → is_end (Controlling bursts control) line ≡ false → deed_of line w ≡ o
    → refusal_at line w (Controlling bursts control)
    ≡ first_of (may_control o && nat_lt (length control) most_control)
    (wrong_control o (names_of w.run))
control-reason lines.End w bursts control o goes is = absurd (cc goes)
control-reason line w bursts control o goes is =
    ap (λ (d : Option Deed). first_of (may_control d && nat_lt (length control) most_control)
    (wrong_control d (names_of w.run))) is

-- ---- where the lines stand behind it

-- a line of a race enters where it leads
race-enters : (line : Line) (w : World) → is_race line ≡ true → perform (deed line w) w
    ≡ Goes (record w { kept = record w.kept { phase = Bursting [] } })
race-enters lines.Race w is = refl
race-enters _ w is = absurd (cc is)

-- a line of control is kept
control-enters : (line : Line) (w : World) (bursts : List Burst) (control : List Numbered)
    → is_end (Controlling bursts control) line ≡ false
    → deed_controlling line w bursts control ≡ enter (behind_while line w bursts control)
control-enters lines.End w bursts control goes = absurd (cc goes)
control-enters _ w bursts control goes = refl

deed-enters : (line : Line) (w : World) (phase : Phase) → is_taken phase line ≡ true
    → is_end phase line ≡ false → is_racing phase ≡ false
    → perform (deed_at line w phase) w
    ≡ Goes (record w { kept = record w.kept { phase = behind line w phase } })
deed-enters line w Apart taken goes calm = race-enters line w taken
deed-enters line w (Bursting bursts) taken goes calm = refl
deed-enters line w (Controlling bursts control) taken goes calm =
    ap (λ (a : Act). perform a w) (control-enters line w bursts control goes)
deed-enters line w Racing taken goes calm = absurd (cc calm)

-- what is kept behind a line names stations that there are
all-more : {X : Type 0} (P : X → Type 0) (xs ys : List X) → AllByRecursion P xs
    → AllByRecursion P ys → AllByRecursion P (xs ++ ys)
all-more P [] ys all more = more
all-more P (x ∷ xs) ys all more = (all.0, all-more P xs ys all.1 more)

burst-user : (name : List ℕ) (workers frames : ℕ) (destination : Mac) (body : List ℕ)
    → IsInForm (lines.Burst name workers frames destination body)
    → IsUserFrame (record { destination = destination; body = body })
burst-user name workers frames destination body form = record {
  destination = (form.fits.1.1.1.0.0, bytes-all destination.0 form.fits.1.1.1.0.1);
  body = (form.fits.1.1.1.1.0.0, form.fits.1.1.1.1.0.1);
  octets = bytes-all body form.fits.1.1.1.1.0.2;
}

there : (s : ℕ) (names : List (List ℕ)) → no_station s names ≡ None → s < length names
there s names none =
    let lt : nat_lt s (length names) ≡ true = where-none (nat_lt s (length names)) kinds.NameUnknown none in
    grind (arith, lt)

burst-fit : (line : Line) (w : World) (bursts : List Burst) → IsInForm line
    → wrong_burst (burst_of w line) bursts (names_of w.run) ≡ None
    → AllByRecursion (IsBurst (names_of w.run)) (burst_of w line)
burst-fit (lines.Burst name workers frames destination body) w bursts form none =
    let both = or-none (too_many (record {
      station = place w name;
      workers = workers;
      frames = frames;
      user = record { destination = destination; body = body };
    }) bursts) _ none in (
      record {
        station = there (place w name) (names_of w.run) both.1;
        user = burst-user name workers frames destination body form;
      },
      tt,
    )
burst-fit _ w bursts form none = tt

-- and no station has too many workers
at-append : (s : ℕ) (xs ys : List Burst) → workers_at s (xs ++ ys) ≡ workers_at s xs + workers_at s ys
at-append s [] ys = omega arith
at-append s (b ∷ bs) ys = elim (cases_Bool (b.station == s)) [
  | inl same ↦ (
      let rest = at-append s bs ys in
      let all = sum_by-cons (λ (n : ℕ). n) b.workers
      (map (λ (x : Burst). x.workers) (filter (λ (x : Burst). x.station == s) (bs ++ ys))) in
      let front = sum_by-cons (λ (n : ℕ). n) b.workers
      (map (λ (x : Burst). x.workers) (filter (λ (x : Burst). x.station == s) bs)) in
      rw same (omega (arith, rest, all, front)))
  | inr other ↦ (let rest = at-append s bs ys in rw other (omega (arith, rest)))
]

burst-few : (line : Line) (w : World) (bursts : List Burst)
    → wrong_burst (burst_of w line) bursts (names_of w.run) ≡ None → ((s : ℕ) → workers_at s bursts ≤ most_workers)
    → (s : ℕ) → workers_at s (bursts ++ burst_of w line) ≤ most_workers
burst-few (lines.Burst name workers frames destination body) w bursts none few s =
    let b : Burst = record {
      station = place w name;
      workers = workers;
      frames = frames;
      user = record { destination = destination; body = body };
    } in
    let both = at-append s bursts (b ∷ []) in
    let had = few s in
    elim (cases_Bool (place w name == s)) [
      | inl same ↦ (
          let low : nat_lt most_workers (workers_at (place w name) bursts + workers) ≡ false =
          where-not (nat_lt most_workers (workers_at (place w name) bursts + workers)) kinds.Range
          (or-none (too_many b bursts) _ none).0 in
          let here : workers_at s (b ∷ []) ≡ workers = rw same (omega arith) in
          let these : workers_at (place w name) bursts ≡ workers_at s bursts =
          ap (λ (n : ℕ). workers_at n bursts) (eqb-true (place w name) s same) in
          let less : workers_at (place w name) bursts + workers ≤ most_workers = grind (arith, low) in
          omega (arith, both, here, these, less))
      | inr other ↦ (
          let here : workers_at s (b ∷ []) ≡ 0 = rw other refl in
          omega (arith, both, here, had))
    ]
burst-few line w bursts none few s =
    let both = at-append s bursts [] in let had = few s in omega (arith, both, had)

race-fit : (line : Line) (w : World) (bursts : List Burst) → IsInForm line
    → wrong_burst (burst_of w line) bursts (names_of w.run) ≡ None
    → AreFit (names_of w.run) (Bursting bursts)
    → AreFit (names_of w.run) (behind_race line w bursts)
race-fit lines.While w bursts form none fit = (fit, tt)
race-fit line w bursts form none fit = record {
  each = all-more (IsBurst (names_of w.run)) bursts (burst_of w line) fit.each
      (burst-fit line w bursts form none);
  few = burst-few line w bursts none fit.few;
}

may-be-kept : (line : Line) (w : World) (bursts : List Burst) (control : List Numbered)
    → is_end (Controlling bursts control) line ≡ false → is_control_allowed line w control ≡ true
    → may_control (deed_of line w) ≡ true
may-be-kept lines.End w bursts control goes allowed = absurd (cc goes)
may-be-kept line w bursts control goes allowed =
    (and-true (may_control (deed_of line w)) (nat_lt (length control) most_control) allowed).0

kept-fit : (w : World) (names : List (List ℕ)) (o : Option Deed) → IfSome o IsInRange
    → may_control o ≡ true → wrong_control o names ≡ None
    → AllByRecursion (IsControl names) (kept_line w o)
kept-fit w names None ranges control none = tt
kept-fit w names (Some d) ranges control none =
    (record { ranges = ranges; control = control; stations = none }, tt)

behind-fit : (line : Line) (w : World) (phase : Phase) → IsInForm line
    → is_end phase line ≡ false → refusal_at line w phase ≡ None
    → AreFit (names_of w.run) phase → AreFit (names_of w.run) (behind line w phase)
behind-fit line w Apart form goes none fit = record { each = tt; few = λ s. omega arith }
behind-fit line w (Bursting bursts) form goes none fit =
    race-fit line w bursts form
    (or-none (where_ (not (is_burst_allowed line bursts)) kinds.Order) _ none).1 fit
behind-fit line w (Controlling bursts control) form goes none fit =
    let both = or-none (where_ (not (is_control_allowed line w control)) kinds.Order) _ none in (
      fit.0,
      all-more (IsControl (names_of w.run)) control (kept_line w (deed_of line w)) fit.1
          (kept-fit w (names_of w.run) (deed_of line w) (in-range line (names_of w.run) form)
          (may-be-kept line w bursts control goes
          (where-none (is_control_allowed line w control) kinds.Order both.0)) both.1),
    )
behind-fit line w Racing form goes none fit = tt

pub takes-none : (line : Line) (w : World) (old now : Stood) → w.kept.phase ≡ phase_of old
    → IsInForm line → is_taken (phase_of old) line ≡ true → is_end (phase_of old) line ≡ false
    → refusal line w ≡ None
    → phase_of now ≡ behind line w (phase_of old) → Takes line w now (Ok tt)
takes-none line w old now stands form taken goes none is = (
  ap (λ (o : Option Kind). perform (unless_refused o (deed_at line w w.kept.phase)) w) none
      ∙ ap (λ (p : Phase). perform (deed_at line w p) w) stands
      ∙ deed-enters line w (phase_of old) taken goes (stood-apart old)
      ∙ ap (λ (p : Phase). Goes (record w { kept = record w.kept { phase = p } })) (sym is),
  λ fit. subst (λ (p : Phase). AreFit (names_of w.run) p) (sym is)
      (behind-fit line w (phase_of old) form goes
      (refused-where line w (phase_of old) stands ∙ none)
      (subst (λ (p : Phase). AreFit (names_of w.run) p) stands fit)),
)

takes-some : (line : Line) (w : World) (now : Stood) (kind : Kind) → refusal line w ≡ Some kind
    → Takes line w now (Err (halts.Trace w.kept.line kind))
takes-some line w now kind some =
    inl (ap (λ (o : Option Kind). perform (unless_refused o (deed_at line w w.kept.phase)) w) some)

-- a line that enters where the lines stand behind it is taken
pub enters-ok : (line : Line) (w : World) (old now : Stood) → w.kept.phase ≡ phase_of old
    → IsInForm line → is_taken (phase_of old) line ≡ true → is_end (phase_of old) line ≡ false
    → Enters line w (phase_of old) (Ok now) → Takes line w now (Ok tt)
enters-ok line w old now stands form taken goes enters =
    takes-none line w old now stands form taken goes
    (sym (refused-where line w (phase_of old) stands) ∙ enters.0) enters.1

enters-err : (line : Line) (w : World) (old now : Stood) (halt : Halt)
    → w.kept.phase ≡ phase_of old → Enters line w (phase_of old) (Err halt)
    → Takes line w now (Err halt)
enters-err line w old now halt stands (inl refused) =
    subst (λ (h : Halt). Takes line w now (Err h)) (sym refused.halts)
    (takes-some line w now refused.kind
    (sym (refused-where line w (phase_of old) stands) ∙ refused.is))
enters-err line w old now halt stands (inr memory) = inr memory

-- ---- what a group at work says of a line of a race

-- a line that isn't allowed here
pub refused-order : (line : Line) (w : World) (phase : Phase) (stage : Stage)
    → StageStandsFor w stage → refusal_at line w phase ≡ Some kinds.Order
    → Enters line w phase (Err (halts.Trace stage.line kinds.Order))
refused-order line w phase stage stands is = inl (record {
  kind = kinds.Order;
  is = is;
  halts = ap (λ (n : ℕ). halts.Trace n kinds.Order) stands.line;
})

-- a refusal is that of an equal reason at an equal number of the line
refused-same : (a b : Option Kind) (m n : ℕ) (halt : Halt) → a ≡ b → m ≡ n → Refused a m halt
    → Refused b n halt
refused-same a b m n halt reason number refused = record {
  kind = refused.kind;
  is = sym reason ∙ refused.is;
  halts = refused.halts ∙ ap (λ (k : ℕ). halts.Trace k refused.kind) number;
}

refused-or : (a b : Option Kind) (m n : ℕ) (halt : Halt) → a ≡ b → m ≡ n
    → Refused a m halt ⊎ (halt ≡ halts.Memory) → Refused b n halt ⊎ (halt ≡ halts.Memory)
refused-or a b m n halt reason number (inl refused) =
    inl (refused-same a b m n halt reason number refused)
refused-or a b m n halt reason number (inr memory) = inr memory

module _ (name : List ℕ) (workers frames : ℕ) (destination : Mac) (body : List ℕ) (w : World)
    (stage : Stage) (bursts : List Burst) (s : ℕ) where
  abbrev burst_at : ℕ → Burst
  burst_at s = record {
    station = s;
    workers = workers;
    frames = frames;
    user = record { destination = destination; body = body };
  }

  burst-reason : IsReached StageStandsFor w stage → Places stage name s
      → refused_burst (burst_at s) bursts stage.lan.names
      ≡ refusal_at (lines.Burst name workers frames destination body) w (Bursting bursts)
  burst-reason reached places =
      ap (λ (names : List (List ℕ)). refused_burst (burst_at s) bursts names) reached.stands.lan.names
      ∙ ap (λ (n : ℕ). refused_burst (burst_at n) bursts (names_of w.run))
      (place-is w stage name s reached.stands reached.tidy places)

  pub burst-enters : (r : Result Stood Halt) → IsReached StageStandsFor w stage
      → Places stage name s
      → IfOk r (λ now. (phase_of now ≡ Bursting (bursts ++ burst_at s ∷ []))
      × (refused_burst (burst_at s) bursts stage.lan.names ≡ None))
      → IfErr r (λ halt. Refused (refused_burst (burst_at s) bursts stage.lan.names) stage.line halt
      ⊎ (halt ≡ halts.Memory))
      → Enters (lines.Burst name workers frames destination body) w (Bursting bursts) r
  burst-enters (Ok now) reached places kept refused = (
    sym (burst-reason reached places) ∙ kept.1,
    kept.0 ∙ ap (λ (n : ℕ). Bursting (bursts ++ burst_at n ∷ []))
        (place-is w stage name s reached.stands reached.tidy places),
  )
  burst-enters (Err halt) reached places kept refused =
      refused-or _ _ _ _ halt (burst-reason reached places) reached.stands.line refused

-- `while` may stand behind a burst
pub while-order : (w : World) (bursts : List Burst) → length bursts ≡ 0
    → refusal_at lines.While w (Bursting bursts) ≡ Some kinds.Order
while-order w [] none = refl
while-order w (b ∷ bursts) none = absurd (omega arith)

pub while-allowed : (w : World) (bursts : List Burst) → 0 < length bursts
    → refusal_at lines.While w (Bursting bursts) ≡ None
while-allowed w bursts some =
    let lt : nat_lt 0 (length bursts) ≡ true = grind (arith, some) in
    ap (λ (b : Bool). first_of b None) lt

-- an error that `?` hands on
pub enters-handed : (line : Line) (w : World) (phase : Phase) (halt : Halt) (r : Result Stood Halt)
    → Enters line w phase (Err halt) → IsErrAnd r (λ y. y ≡ halt) → Enters line w phase r
enters-handed line w phase halt r enters is =
    let p = err_from_is_err_and r is in
    subst (λ (x : Result Stood Halt). Enters line w phase x)
    (sym (p.1 ∙ ap (λ (y : Halt). Err y) p.2)) enters

pub takes-handed : (line : Line) (w : World) (old now : Stood) (halt : Halt)
    (r : Result (Unit {0}) Halt) → w.kept.phase ≡ phase_of old
    → Enters line w (phase_of old) (Err halt) → IsErrAnd r (λ y. y ≡ halt) → Takes line w now r
takes-handed line w old now halt r stands enters is =
    let p = err_from_is_err_and r is in
    subst (λ (x : Result (Unit {0}) Halt). Takes line w now x)
    (sym (p.1 ∙ ap (λ (y : Halt). Err y) p.2)) (enters-err line w old now halt stands enters)

module _ (line : Line) (w : World) (stage : Stage) (bursts : List Burst) (control : List Numbered)
  where
    pub control-none : IsReached StageStandsFor w stage
        → is_end (Controlling bursts control) line ≡ false → deed_of line w ≡ None
        → Enters line w (Controlling bursts control) (Err (halts.Trace stage.line kinds.Order))
    control-none reached goes none =
        refused-order line w (Controlling bursts control) stage reached.stands
        (control-reason line w bursts control None goes none)

    control-some : (d : Deed) → IsReached StageStandsFor w stage
        → is_end (Controlling bursts control) line ≡ false → deed_of line w ≡ Some d
        → refused_control d control stage.lan.names
        ≡ refusal_at line w (Controlling bursts control)
    control-some d reached goes is =
        ap (λ (names : List (List ℕ)). refused_control d control names) reached.stands.lan.names
        ∙ sym (control-reason line w bursts control (Some d) goes is)

    pub control-ok : (d : Deed) (now : Stood) (all : List Numbered) → IsReached StageStandsFor w stage
        → is_end (Controlling bursts control) line ≡ false → deed_of line w ≡ Some d
        → phase_of now ≡ Controlling bursts all
        → (all ≡ control ++ record { number = stage.line; deed = d } ∷ [])
        × (refused_control d control stage.lan.names ≡ None)
        → Enters line w (Controlling bursts control) (Ok now)
    control-ok d now all reached goes is stands kept = (
      sym (control-some d reached goes is) ∙ kept.1,
      stands ∙ ap (λ (l : List Numbered). Controlling bursts l)
          (kept.0
          ∙ ap (λ (n : ℕ). control ++ record { number = n; deed = d } ∷ []) reached.stands.line
          ∙ ap (λ (o : Option Deed). control ++ kept_line w o) (sym is)),
    )

    pub control-err : (d : Deed) (halt : Halt) → IsReached StageStandsFor w stage
        → is_end (Controlling bursts control) line ≡ false → deed_of line w ≡ Some d
        → Refused (refused_control d control stage.lan.names) stage.line halt
        ⊎ (halt ≡ halts.Memory)
        → Enters line w (Controlling bursts control) (Err halt)
    control-err d halt reached goes is why =
        refused-or _ _ _ _ halt (control-some d reached goes is) reached.stands.line why

-- ---- a replay takes such a line

-- the group at work stands as it did
stage-entered : (w : World) (phase : Phase) (stage : Stage)
    → is_racing phase ≡ is_racing w.kept.phase → StageStandsFor w stage
    → StageStandsFor (record w { kept = record w.kept { phase = phase } }) stage
stage-entered w phase stage same stands = record {
  begun = stands.begun;
  raced = stands.raced;
  keyed = stands.keyed;
  line = stands.line;
  lag = stands.lag;
  lan = stands.lan;
  draws = stands.draws;
  users = stands.users;
  flow = stands.flow;
  cuts = stands.cuts;
  words = subst (λ (racing : Bool). Says w.kept.raced racing (settings w) w.run stage.words)
      (sym same) stands.words;
  cards = stands.cards;
  tally = stands.tally;
  steps = stands.steps ∙ sym same;
}

staged-in : (w : World) (replay : Replay) (stage : Stage) → replay.stage ≡ Some stage
    → StandsFor w replay → StageStandsFor w stage
staged-in w replay stage is stands =
    subst (λ (o : Option Stage). IsStaged w replay o) is stands.stage

module _ {K : Type 0} {Took : K → Report → K → Type 0} {Broke : K → Report → K → Unwritten → Type 0}
  where
    taken-early : (line : Line) (w : World) (later : List Chance) (halt : Halt)
        (old new : Moment Replay K) → IsReached StandsFor w old.value → Counts w new.value
        → new.outlet ≡ old.outlet → w.kept.chances ≡ later
        → Takes line w new.value.phase (Err halt)
        → Ends replays Took Broke w later (act_of line) old.outlet new (Err halt)
    taken-early line w later halt old new reached counts same left (inl stops) = inl (record {
      world = w;
      stops = stops;
      tidy = reached.tidy;
      leaves = counts;
      told = told-none w w old.outlet new.outlet refl same;
      left = ap (λ (c : List Chance). behind_numbers c) left;
      same = refl;
    })
    taken-early line w later halt old new reached counts same left (inr memory) =
        subst (λ (h : Halt). Ends replays Took Broke w later (act_of line)
        old.outlet new (Err h)) (sym memory)
        (ends-memory Took Broke replays (act_of line) w later old.outlet new reached.tidy
        counts same)

    pub taken-does : (line : Line) (old new : Moment Replay K) (stage : Stage)
        (r : Result (Unit {0}) Halt) → old.value.stage ≡ Some stage
        → new.value.stage ≡ Some stage → new.value.halted ≡ old.value.halted
        → new.outlet ≡ old.outlet
        → ((w : World) → IsReached StageStandsFor w stage
        → w.kept.phase ≡ phase_of old.value.phase
        → is_taken (phase_of old.value.phase) line ≡ true
        → is_end (phase_of old.value.phase) line ≡ false → Takes line w new.value.phase r)
        → is_taken (phase_of old.value.phase) line ≡ true
        → is_end (phase_of old.value.phase) line ≡ false
        → Does Took Broke (act_of line) old new r
    taken-does line old new stage (Ok done) is_old is_new halted same takes taken goes = record {
      chances = [];
      ends = λ w later left reached.
          let inner = staged-in w old.value stage is_old reached.stands in
          let phase = phase_of new.value.phase in
          let v : World = record w { kept = record w.kept { phase = phase } } in
          let racing : is_racing phase ≡ is_racing w.kept.phase = stood-apart new.value.phase
          ∙ sym (stood-apart old.value.phase)
          ∙ ap (λ (p : Phase). is_racing p) (sym reached.stands.phase) in
          let did = takes w (record { stands = inner; tidy = reached.tidy }) reached.stands.phase taken
          goes in (
            v,
            did.0,
            record {
              stands = record {
                goes = halted ∙ reached.stands.goes;
                phase = refl;
                fit = did.1 reached.stands.fit;
                stage = subst (λ (o : Option Stage). IsStaged v new.value o) (sym is_new)
                    (stage-entered w phase stage racing inner);
              };
              tidy = tidy-entered w phase reached.tidy racing;
            },
            told-none w v old.outlet new.outlet refl same,
            left,
            racing,
          );
    }
    taken-does line old new stage (Err halt) is_old is_new halted same takes taken goes = record {
      chances = [];
      ends = λ w later left reached.
          let inner = staged-in w old.value stage is_old reached.stands in
          taken-early line w later halt old new reached
          (subst (λ (o : Option Stage). HasTally w new.value o) (sym is_new) inner.tally) same left
          (takes w (record { stands = inner; tidy = reached.tidy }) reached.stands.phase taken goes);
    }

-- a line that ends a race runs it
pub ends-race : (line : Line) (w : World) (phase : Phase) → w.kept.phase ≡ phase
    → is_end phase line ≡ true
    → IsAs (act_of line) w (look (λ w. race_in w.kept.phase w)) w
ends-race lines.End w (Controlling bursts control) is ends =
    subst (λ (p : Phase). IsAs (unless_refused (refusal_at lines.End w p) (deed_at lines.End w p)) w
    (race_in p w) w) (sym is) (as-self (run_race bursts control w) w)
ends-race _ w (Controlling bursts control) is ends = absurd (cc ends)
ends-race line w Apart is ends = absurd (cc ends)
ends-race line w (Bursting bursts) is ends = absurd (cc ends)
ends-race line w Racing is ends = absurd (cc ends)

pub end-controls : (line : Line) (phase : Phase) → is_end phase line ≡ true
    → is_controlling phase ≡ true
end-controls line (Controlling bursts control) ends = refl
end-controls line Apart ends = absurd (cc ends)
end-controls line (Bursting bursts) ends = absurd (cc ends)
end-controls line Racing ends = absurd (cc ends)

-- a line outside a race is performed by the group at work
pub same-apart : (line : Line) (w : World) (phase : Phase) → w.kept.phase ≡ phase
    → is_inside phase ≡ false → IsAs (act_of line) w (act_apart line) w
same-apart line w Apart is outside =
    subst (λ (p : Phase). IsAs (unless_refused (refusal_at line w p) (deed_at line w p)) w
    (act_apart line) w) (sym is) (as-self (act_apart line) w)
same-apart line w (Bursting bursts) is outside = absurd (cc outside)
same-apart line w (Controlling bursts control) is outside = absurd (cc outside)
same-apart line w Racing is outside = absurd (cc outside)

-- what isn't taken
pub not-taken : (a b : Bool) → (a || b) ≡ false → (a ≡ false) × (b ≡ false)
not-taken true b e = absurd (cc e)
not-taken false b e = (refl, e)

pub outside-apart : (phase : Phase) → is_inside phase ≡ false → phase ≡ Apart
outside-apart Apart e = refl
outside-apart (Bursting bursts) e = absurd (cc e)
outside-apart (Controlling bursts control) e = absurd (cc e)
outside-apart Racing e = absurd (cc e)

pub outside-calm : (phase : Phase) → is_inside phase ≡ false → is_racing phase ≡ false
outside-calm Apart e = refl
outside-calm (Bursting bursts) e = absurd (cc e)
outside-calm (Controlling bursts control) e = absurd (cc e)
outside-calm Racing e = absurd (cc e)
