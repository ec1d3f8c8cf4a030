-- Whether there are numbers left for user frames and claims.
use Rattle.std.proofs.Common.{◌≡◌, ◌≤◌, ◌+◌, ◌||◌, ℕ, Bool, true, false, inl, inr}
use Rattle.std.proofs.Common.{List, [], ◌∷◌, length, map, min, refl, sym, ap, ◌∙◌, subst, arith}
use Rattle.std.specs.Prelude.{Option, Some, None, nat_lt, option_map, OnOk, Result, Ok, Err}
use Rattle.std.specs.Option.{option_or}
use Rattle.std.specs.List.{count_by}
use Rattle.std.proofs.lemmas.Bool.{cases_Bool}
use Rattle.std.proofs.lemmas.List.{length-map}
use Rattle.std.proofs.lemmas.List.Sums.{sum-map, sum_by-cons}
use Rattle.data_workers.specs.Workers.{WorkerAt}
use Rattle.lan_base.specs.declared.frame.UserFrame.{UserFrame}
use Rattle.lan_core.specs.declared.stop.Which.{Which}
use Rattle.lan_core.specs.declared.stop.Which.TheVariants.{Frames}
use Rattle.lan_core.specs.Ledgers.{claims}
use Rattle.lan_core.specs.Run.{Run, facts_of}
use Rattle.fact_tally.specs.Summary.{Counts as Tallied, counts, is_claim, most}
use Rattle.worker_races.specs.Senders.{jobs_of}
use Rattle.lan_base.specs.declared.sink.Unwritten.{Unwritten}
use Rattle.trace_acts.specs.declared.halt.Halt.{Halt}
use Rattle.trace_acts.specs.declared.halt.Halt.TheVariants as halts
use Rattle.lan_schedule.specs.declared.stage.Stage.{Stage}
use Rattle.lan_schedule.specs.Races.{Burst, Chance, Excess, Numbered, Worker, behind_numbers}
use Rattle.lan_schedule.specs.Races.{jobs_in, limit_of, most_claimed, most_users, workers_of}
use Rattle.lan_schedule.specs.World.{World}
use Rattle.lan_schedule.specs.Acts.{Act, Stops, perform, race, seq}
use Rattle.lan_schedule.specs.Lines.{add_user, air_excess, excess_of, is_over, over_excess, send}
use Rattle.lan_schedule.specs.Lines.{control_act, run_race, send_new, unless_exceeded}
use Rattle.lan_schedule.specs.Reports.{Report}
use Rattle.lan_schedule.specs.Ends.{Ends, Moment}
use Rattle.lan_schedule.specs.Stages.{StandsFor}
use Rattle.lan_schedule.specs.Woven.{worker_of}
use Rattle.lan_schedule.specs.inside.Beside.{HasEnlisted, HasMoved, IsOver, IsUnhired, IsUnlisted}
use Rattle.lan_schedule.specs.inside.Comes.{Comes}
use Rattle.lan_schedule.specs.inside.Recording.{stages_since}
use Rattle.lan_schedule.specs.inside.Staged.{Did}
use Rattle.lan_schedule.proofs.Claiming.{claims-counted}
use Rattle.lan_schedule.proofs.Doing.{told-none}
use Rattle.lan_schedule.proofs.Exceeding.{ge-is, lt-is}
use Rattle.lan_schedule.proofs.Happening.{looked-none}
use Rattle.lan_schedule.proofs.Hiring.{exceeds}
use Rattle.lan_schedule.proofs.LinesCome.{lt-false, lt-true}
use Rattle.lan_schedule.proofs.Recorded.{leaves-so, seats-kept}

-- the tally has as many claims as the run, as far as that matters
claims-over : (r : Run) (asked : ℕ)
    → nat_lt most_claimed ((counts (facts_of r)).claims + asked)
    ≡ nat_lt most_claimed (length (claims r) + asked)
unfolding counts
claims-over r asked =
    let n = claims-counted r in
    let same : (counts (facts_of r)).claims ≡ min (count_by is_claim (facts_of r)) most = refl in
    elim (cases_Bool (nat_lt most_claimed (length (claims r) + asked))) [
      | inl over ↦ (let lt = lt-true most_claimed (length (claims r) + asked) over in
          lt-is most_claimed _ (omega (arith, n, same, lt)) ∙ sym over)
      | inr under ↦ (let ge = lt-false most_claimed (length (claims r) + asked) under in
          ge-is most_claimed _ (omega (arith, n, same, ge)) ∙ sym under)
    ]

-- a world has too few numbers where its group at work has, and only there
over-as : (w : World) (stage : Stage) (more asked : ℕ) → StandsFor w stage
    → is_over w more asked
    ≡ (nat_lt most_users (stage.users + more) || nat_lt most_claimed (stage.tally.claims + asked))
over-as w stage more asked stands =
    ap (λ (b : Bool). nat_lt most_users (length w.kept.users + more) || b)
    (sym (claims-over w.run asked)
    ∙ ap (λ (t : Tallied). nat_lt most_claimed (t.claims + asked)) (sym stands.tally))
    ∙ ap (λ (n : ℕ). nat_lt most_users (n + more) || nat_lt most_claimed (stage.tally.claims + asked))
    (sym stands.users)

or-true : (b : Bool) → (b || true) ≡ true
or-true true = refl
or-true false = refl

over-by : (stage : Stage) (more asked : ℕ) → IsOver stage more asked
    → (nat_lt most_users (stage.users + more) || nat_lt most_claimed (stage.tally.claims + asked)) ≡ true
over-by stage more asked (inl many) =
    ap (λ (b : Bool). b || nat_lt most_claimed (stage.tally.claims + asked)) (lt-is most_users _ many)
over-by stage more asked (inr many) =
    ap (λ (b : Bool). nat_lt most_users (stage.users + more) || b) (lt-is most_claimed _ many)
    ∙ or-true (nat_lt most_users (stage.users + more))

over-is : (w : World) (stage : Stage) (more asked : ℕ) → StandsFor w stage → IsOver stage more asked
    → is_over w more asked ≡ true
over-is w stage more asked stands over =
    over-as w stage more asked stands ∙ over-by stage more asked over

over-isnt : (w : World) (stage : Stage) (more asked : ℕ) → StandsFor w stage
    → stage.users + more ≤ most_users → stage.tally.claims + asked ≤ most_claimed
    → is_over w more asked ≡ false
over-isnt w stage more asked stands users claimed =
    over-as w stage more asked stands
    ∙ ap (λ (b : Bool). b || nat_lt most_claimed (stage.tally.claims + asked)) (ge-is most_users _ users)
    ∙ ge-is most_claimed _ claimed

-- ---- a user frame more

module _ {K : Type 0} {Took : K → Report → K → Type 0} {Broke : K → Report → K → Unwritten → Type 0}
  where
    -- it has no number
    pub over-does : (user : UserFrame) (s : ℕ) (now : Moment Stage K) → IsOver now.value 1 1
        → Did Took Broke (send_new user s) now now (Err (halts.Limit Frames))
    over-does user s now over = record {
      chances = [];
      ends = λ mark w later left reached comes.
          let act : Act = seq (add_user user) (send s) in
          inl (record {
            world = w;
            stops = ap (λ (b : Bool). perform (unless_exceeded (over_excess b) act) w)
                (over-is w now.value 1 1 reached.stands.stands over);
            tidy = reached.tidy;
            leaves = leaves-so mark (halts.Limit Frames) w now.value reached.stands
                (λ stop. looked-none mark w now.value reached.stands);
            told = told-none w w now.outlet now.outlet refl refl;
            left = ap (λ (c : List Chance). behind_numbers c) left;
            same = refl;
          });
      seats = seats-kept now.value.words;
    }

    -- it has one
    pub within-does : (user : UserFrame) (s : ℕ) (old new : Moment Stage K) (r : Result (Unit {0}) Halt)
        → old.value.users + 1 ≤ most_users → old.value.tally.claims + 1 ≤ most_claimed
        → Did Took Broke (seq (add_user user) (send s)) old new r
        → Did Took Broke (send_new user s) old new r
    within-does user s old new r users claimed d = record {
      chances = d.chances;
      ends = λ mark w later left reached comes.
          let act : Act = seq (add_user user) (send s) in
          let none = over-isnt w old.value 1 1 reached.stands.stands users claimed in
          subst (λ (b : Bool). Comes (unless_exceeded (over_excess b) act) w
          → Ends (stages_since mark) Took Broke w later
          (unless_exceeded (over_excess b) act) old.outlet new r) (sym none)
          (λ comes_act. d.ends mark w later left reached comes_act) comes;
      seats = d.seats;
    }

-- ---- a race

-- what holds of a call that was done
pub ok-of : {A E P : Type 0} (r : Result A E) → ((x : E) → r ≡ Err x → ⊥) → OnOk r P → P
ok-of (Ok a) other holds = holds
ok-of (Err e) other holds = absurd (other e refl)

crew-many : (crew : List WorkerAt) (workers : List Worker) → map worker_of crew ≡ workers
    → length crew ≡ length workers
crew-many crew workers are = sym (length-map crew worker_of) ∙ ap length are

jobs-cons : (x : Worker) (xs : List Worker) → jobs_in (x ∷ xs) ≡ x.jobs + jobs_in xs
jobs-cons x xs =
    sum-map (λ (w : Worker). w.jobs) (x ∷ xs) ∙ sum_by-cons (λ (w : Worker). w.jobs) x xs
    ∙ ap (λ (n : ℕ). x.jobs + n) (sym (sum-map (λ (w : Worker). w.jobs) xs))

jobs-same : (crew : List WorkerAt) → jobs_of crew ≡ jobs_in (map worker_of crew)
jobs-same [] = refl
jobs-same (w ∷ ws) = ap (λ (n : ℕ). w.jobs + n) (jobs-same ws)
    ∙ sym (jobs-cons (worker_of w) (map worker_of ws))

crew-jobs : (crew : List WorkerAt) (workers : List Worker) → map worker_of crew ≡ workers
    → jobs_of crew ≡ jobs_in workers
crew-jobs crew workers are = jobs-same crew ∙ ap jobs_in are

-- those that were hired have too few numbers where their lines ask for too many
pub moved-over : (old mid : Stage) (crew : List WorkerAt) (workers : List Worker)
    → map worker_of crew ≡ workers → HasMoved old mid → IsOver mid (length crew) (jobs_of crew)
    → IsOver old (length workers) (jobs_in workers)
moved-over old mid crew workers are moved (inl many) =
    let users : mid.users ≡ old.users = ap (λ (s : Stage). s.users) moved.same in
    let count = crew-many crew workers are in
    inl (omega (arith, many, users, count))
moved-over old mid crew workers are moved (inr many) =
    let tally : mid.tally.claims ≡ old.tally.claims = ap (λ (s : Stage). s.tally.claims) moved.same in
    let jobs = crew-jobs crew workers are in
    inr (omega (arith, many, tally, jobs))

-- those whose race was begun have enough
enlisted-within : (w : World) (workers : List Worker) (old new : Stage) (crew : List WorkerAt)
    → StandsFor w old → HasEnlisted workers old new crew
    → is_over w (length workers) (jobs_in workers) ≡ false
enlisted-within w workers old new crew stands has =
    let users : has.mid.users ≡ old.users = ap (λ (s : Stage). s.users) has.moved.same in
    let tally : has.mid.tally.claims ≡ old.tally.claims =
    ap (λ (s : Stage). s.tally.claims) has.moved.same in
    let count = crew-many crew workers has.hired.are in
    let jobs = crew-jobs crew workers has.hired.are in
    let few = has.begins.0 in
    let low = has.begins.1 in
    over-isnt w old (length workers) (jobs_in workers) stands (omega (arith, users, count, few))
    (omega (arith, tally, jobs, low))

or-none : (a b : Option Excess) → a ≡ None → b ≡ None → option_or a b ≡ None
or-none None b first second = second
or-none (Some excess) b first second = absurd (cc first)

pub none-exceeds : (w : World) (bursts : List Burst) (old new : Stage) (crew : List WorkerAt)
    → StandsFor w old → air_excess bursts w ≡ None → HasEnlisted (workers_of bursts) old new crew
    → excess_of bursts w ≡ None
none-exceeds w bursts old new crew stands light has =
    or-none (air_excess bursts w) _ light
    (ap over_excess (enlisted-within w (workers_of bursts) old new crew stands has))

air-exceeds : (a b : Option Excess) (which : Which) → Some which ≡ option_map limit_of a
    → Some which ≡ option_map limit_of (option_or a b)
air-exceeds None b which is = absurd (cc is)
air-exceeds (Some excess) b which is = is

over-exceeds : (w : World) (bursts : List Burst) (old : Stage) → StandsFor w old
    → air_excess bursts w ≡ None
    → IsOver old (length (workers_of bursts)) (jobs_in (workers_of bursts))
    → Some Frames ≡ option_map limit_of (excess_of bursts w)
over-exceeds w bursts old stands light over =
    let many = over-is w old (length (workers_of bursts)) (jobs_in (workers_of bursts)) stands over in
    sym (ap (λ (o : Option Excess). option_map limit_of (option_or o (over_excess
    (is_over w (length (workers_of bursts)) (jobs_in (workers_of bursts)))))) light
    ∙ ap (λ (b : Bool). option_map limit_of (over_excess b)) many)

-- why nobody is hired whose lines ask for no more than the air leaves
pub unlisted-unhired : (w : World) (bursts : List Burst) (control : List Numbered) (old : Stage)
    (halt : Halt) → StandsFor w old → air_excess bursts w ≡ None
    → IsUnlisted (workers_of bursts) old halt → IsUnhired w bursts control halt
unlisted-unhired w bursts control old halt stands light (inl memory) = inr memory
unlisted-unhired w bursts control old halt stands light (inr over) =
    inl (subst (λ (h : Halt). perform (run_race bursts control w) w ≡ Stops w h) (sym over.0)
    (exceeds (excess_of bursts w) Frames (race (workers_of bursts) (control_act control)) w
    (over-exceeds w bursts old stands light over.1)))

-- the air leaves too little
pub air-unhired : (w : World) (bursts : List Burst) (control : List Numbered) (which : Which)
    → Some which ≡ option_map limit_of (air_excess bursts w)
    → IsUnhired w bursts control (halts.Limit which)
air-unhired w bursts control which is =
    inl (exceeds (excess_of bursts w) which (race (workers_of bursts) (control_act control)) w
    (air-exceeds (air_excess bursts w) _ which is))
