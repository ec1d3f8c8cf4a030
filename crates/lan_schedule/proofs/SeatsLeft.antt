-- There is a seat for each worker of bursts that find seats.
use Rattle.std.proofs.Common.{◌≡◌, ◌<◌, ◌≤◌, ◌+◌, ◌==◌, ℕ, zero, suc, Bool, true, false, cond, List, []}
use Rattle.std.proofs.Common.{◌∷◌, ◌++◌, length, map, take, get_or, Some, refl, sym, ap, ◌∙◌, subst}
use Rattle.std.proofs.Common.{inl, inr, arith}
use Rattle.std.proofs.lemmas.Bool.{cases_Bool, eqb-true}
use Rattle.std.proofs.lemmas.List.{length-map}
use Rattle.std.proofs.lemmas.List.Sums.{sum_by-cons}
use Rattle.std.specs.Prelude.{IfSome, Option, slice_get, slice_index_or, slice_set}
use Rattle.std.specs.List.{AllByRecursion, filter, range_with_len}
use Rattle.association_slots.specs.Steps.{seated}
use Rattle.association_slots.specs.Views.{ControlAt, free}
use Rattle.data_workers.specs.Workers.{WorkerAt}
use Rattle.lan_core.specs.Standing.{scis_in}
use Rattle.station_words.specs.Seats.{WasSeated}
use Rattle.station_words.proofs.Public.{get-set}
use Rattle.worker_races.specs.Going.{WereSeated}
use Rattle.lan_schedule.specs.declared.stage.Stage.{Stage}
use Rattle.lan_schedule.specs.Races.{Burst, Worker, worker_at, workers_at, workers_of}
use Rattle.lan_schedule.specs.Woven.{worker_of}
use Rattle.lan_schedule.specs.inside.Beside.{HasMoved, HaveSeats, HiredAll, IsFull}
use Rattle.lan_schedule.proofs.Hiring.{workers-more}

-- ---- how many seats are out at a station

abbrev trues : List Bool → ℕ
trues [] = 0
trues (true ∷ bs) = suc (trues bs)
trues (false ∷ bs) = trues bs

free-low : (bs : List Bool) → free bs ≤ trues bs
free-low [] = omega arith
free-low (true ∷ bs) = let rest = free-low bs in omega (arith, rest)
free-low (false ∷ bs) = omega arith

one-more : (bs : List Bool) (k : ℕ) → trues (slice_set bs k true) ≤ trues bs + 1
one-more [] k = omega arith
one-more (true ∷ bs) zero = omega arith
one-more (false ∷ bs) zero = omega arith
one-more (true ∷ bs) (suc k) = let rest = one-more bs k in omega (arith, rest)
one-more (false ∷ bs) (suc k) = one-more bs k

none-out : (bs : List Bool) → ((i : ℕ) → slice_index_or bs i false ≡ false) → trues bs ≡ 0
none-out [] all = refl
none-out (true ∷ bs) all = absurd (let bad : true ≡ false = all 0 in cc bad)
none-out (false ∷ bs) all = none-out bs (λ i. all (suc i))

-- ---- how many workers a station has

-- one, where it is that station
abbrev one_at : ℕ → ℕ → ℕ
one_at t s = cond (t == s) 1 0

abbrev at : ℕ → List Worker → ℕ
at s [] = 0
at s (w ∷ ws) = one_at w.station s + at s ws

at-append : (s : ℕ) (xs ys : List Worker) → at s (xs ++ ys) ≡ at s xs + at s ys
at-append s [] ys = omega arith
at-append s (x ∷ xs) ys = let rest = at-append s xs ys in omega (arith, rest)

at-burst : (b : Burst) (ns : List ℕ) → at b.station (map (worker_at b) ns) ≡ length ns
at-burst b [] = refl
at-burst b (n ∷ ns) =
    let rest = at-burst b ns in
    let here : one_at b.station b.station ≡ 1 = grind arith in
    omega (arith, rest, here)

at-other : (s : ℕ) (b : Burst) (ns : List ℕ) → (b.station == s) ≡ false
    → at s (map (worker_at b) ns) ≡ 0
at-other s b [] other = refl
at-other s b (n ∷ ns) other = let rest = at-other s b ns other in rw other (omega (arith, rest))

range-long : (a n : ℕ) → length (range_with_len a n) ≡ n
range-long a zero = refl
range-long a (suc n) = let rest = range-long (a + 1) n in omega (arith, rest)

-- ---- seats go out

many-out : (s : ℕ) (crew : List WorkerAt) (old new : List ControlAt) → WereSeated crew old new
    → (c : ControlAt) → slice_get new s ≡ Some c
    → (d : ControlAt) × (slice_get old s ≡ Some d)
    × (trues c.view.out ≤ trues d.view.out + at s (map worker_of crew))
many-out s [] old new were c there =
    (c, subst (λ (cs : List ControlAt). slice_get cs s ≡ Some c) were there, omega arith)
many-out s (w ∷ ws) old new were c there =
    let rest = many-out s ws were.0 new were.2 c there in
    let first = one-out s w old were.0 were.1 rest.0 rest.1 in
    let less = rest.2 in let low = first.2 in
    (first.0, first.1, omega (arith, less, low))
  where
    one-out : (s : ℕ) (w : WorkerAt) (old mid : List ControlAt)
        → WasSeated w.sender.station old mid w.seat → (c : ControlAt) → slice_get mid s ≡ Some c
        → (d : ControlAt) × (slice_get old s ≡ Some d)
        × (trues c.view.out ≤ trues d.view.out + one_at w.sender.station s)
    one-out s w old mid was c there =
        let d : ControlAt = record was.control { view = seated was.control.view } in
        elim (get-set old w.sender.station d s c
        (ap (λ (cs : List ControlAt). slice_get cs s) (sym was.new_is) ∙ there)) [
          | inl both ↦ (
            was.control,
            subst (λ (n : ℕ). slice_get old n ≡ Some was.control) (sym both.0) was.there,
            (let more = one-more was.control.view.out (free was.control.view.out) in
                let same = ap (λ (x : ControlAt). trues x.view.out) both.1 in
                let place = both.0 in
                let here : one_at w.sender.station s ≡ 1 = grind (arith, place) in
                omega (arith, more, same, here)),
          )
          | inr other ↦ (c, other.1, omega arith)
        ]

-- ---- a seat is left

some-there : {X : Type 0} (xs : List X) (s : ℕ) → s < length xs → (x : X) × (slice_get xs s ≡ Some x)
some-there [] s less = absurd (omega (arith, less))
some-there (x ∷ xs) zero less = (x, refl)
some-there (x ∷ xs) (suc s) less = some-there xs s (omega (arith, less))

take-less : (s k : ℕ) (bs : List Burst) → at s (workers_of (take k bs)) ≤ at s (workers_of bs)
take-less s zero bs = omega arith
take-less s (suc k) [] = omega arith
take-less s (suc k) (b ∷ bs) =
    let here = map (worker_at b) (range_with_len 0 b.workers) in
    let rest = take-less s k bs in
    let front = at-append s here (workers_of (take k bs)) in
    let whole = at-append s here (workers_of bs) in
    omega (arith, rest, front, whole)

at-all : (s : ℕ) (bs : List Burst) → at s (workers_of bs) ≡ workers_at s bs
at-all s [] = refl
at-all s (b ∷ bs) =
    let here = map (worker_at b) (range_with_len 0 b.workers) in
    let rest = at-all s bs in
    let both = at-append s here (workers_of bs) in
    elim (cases_Bool (b.station == s)) [
      | inl same ↦ (
          let many : at s here ≡ b.workers = subst (λ (n : ℕ). at n here ≡ b.workers)
          (eqb-true b.station s same)
          (at-burst b (range_with_len 0 b.workers) ∙ range-long 0 b.workers) in
          let first = sum_by-cons (λ (n : ℕ). n) b.workers
          (map (λ (x : Burst). x.workers) (filter (λ (x : Burst). x.station == s) bs)) in
          rw same (omega (arith, rest, both, many, first)))
      | inr other ↦ (
          let none = at-other s b (range_with_len 0 b.workers) other in
          rw other (omega (arith, rest, both, none)))
    ]

station-at : (many : ℕ) (bs : List Burst) (i : ℕ) (d : Burst)
    → AllByRecursion (λ (b : Burst). b.station < many) bs → i < length bs
    → (get_or bs i d).station < many
station-at many [] i d all less = absurd (omega (arith, less))
station-at many (b ∷ bs) zero d all less = all.0
station-at many (b ∷ bs) (suc i) d all less = station-at many bs i d all.1 (omega (arith, less))

-- so many workers were hired, and the next one finds a seat
pub finds-seat : (bursts : List Burst) (i j : ℕ) (d b : Burst) (old now : Stage) (crew : List WorkerAt)
    → HaveSeats bursts old → i < length bursts → get_or bursts i d ≡ b → j < b.workers
    → HiredAll (workers_of (take i bursts) ++ map (worker_at b) (range_with_len 0 j)) old now crew
    → HasMoved old now → IsFull b.station now → ⊥
finds-seat bursts i j d b old now crew seats less is place all moved full =
    elim full [
      | inl nobody ↦ (
          let there = some-there (scis_in old.lan) b.station here in
          let bad = sym (ap (λ (s : Stage). slice_get (scis_in s.lan) b.station) moved.same ∙ there.1) ∙ nobody in
          cc bad)
      | inr none ↦ (
          let many : length now.words ≡ length old.words =
          sym (length-map now.words (λ (c : ControlAt). c.table)) ∙ ap length moved.tables
          ∙ length-map old.words (λ (c : ControlAt). c.table) in
          let long = seats.many in
          let there = some-there now.words b.station (omega (arith, here, many, long)) in
          let out = many-out b.station crew old.words now.words all.seated there.0 there.1 in
          let at_first = none-out out.0.view.out (seats.all_in b.station out.0 out.1) in
          let low = free-low there.0.view.out in
          let most = seats.few b.station in
          let count = few in
          let high : 8 < free there.0.view.out + 1 = subst (λ (o : Option ControlAt).
          IfSome o (λ (c : ControlAt). 8 < free c.view.out + 1)) there.1 none in
          let more = out.2 in
          omega (arith, at_first, low, most, count, high, more))
    ]
  where
    here : b.station < length (scis_in old.lan)
    here = subst (λ (x : Burst). x.station < length (scis_in old.lan)) is
        (station-at (length (scis_in old.lan)) bursts i d seats.stations less)

    few : at b.station (map worker_of crew) < workers_at b.station bursts
    few =
        let front = workers_of (take i bursts) in
        let dealt = map (worker_at b) (range_with_len 0 j) in
        let so_far = ap (λ (ws : List Worker). at b.station ws) all.are
        ∙ at-append b.station front dealt in
        let these = at-burst b (range_with_len 0 j) ∙ range-long 0 j in
        let whole = ap (λ (ws : List Worker). at b.station ws)
        (workers-more bursts i d less
        ∙ ap (λ (x : Burst). front ++ map (worker_at x) (range_with_len 0 x.workers)) is)
        ∙ at-append b.station front (map (worker_at b) (range_with_len 0 b.workers)) in
        let those = at-burst b (range_with_len 0 b.workers) ∙ range-long 0 b.workers in
        let fits = take-less b.station (i + 1) bursts in
        let asked = at-all b.station bursts in
        omega (arith, so_far, these, whole, those, fits, asked, place)
