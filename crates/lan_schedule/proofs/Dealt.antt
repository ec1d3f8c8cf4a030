-- Behind a race each worker made as many claims as it was dealt frames, and nobody else made one.
use Rattle.std.proofs.Common.{◌≡◌, ◌<◌, ◌≤◌, ℕ, zero, suc, ◌+◌, ◌==◌, Bool, true, false, List, [], ◌∷◌}
use Rattle.std.proofs.Common.{length, map, get_or, refl, sym, ap, ◌∙◌, inl, inr, arith}
use Rattle.std.specs.Prelude.{sum}
use Rattle.std.specs.List.{AllByRecursion, range_with_len, sum_by}
use Rattle.std.proofs.lemmas.Bool.{cases_Bool, cases_lt, eqb-true, eq-eqb, ne_eqb}
use Rattle.std.proofs.lemmas.List.{length-map}
use Rattle.std.proofs.lemmas.List.Sums.{sum-map, sum_by-cons}
use Rattle.data_workers.specs.declared.entry.Entry.{Entry}
use Rattle.data_workers.specs.declared.entry.Entry.TheVariants.{Taken, Refused}
use Rattle.data_workers.specs.declared.sender.Sender.{Sender}
use Rattle.data_workers.specs.Logs.{IsEntry}
use Rattle.data_workers.specs.Workers.{AreDone, WorkerAt}
use Rattle.association_slots.specs.declared.view.SeatView.{SeatView}
use Rattle.lan_core.specs.Run.{Happening}
use Rattle.worker_races.specs.merge.Merged.{nth_log}
use Rattle.worker_races.specs.merge.Places.{Attempt}
use Rattle.worker_races.specs.merge.Steps.{attempt_of, logs_of}
use Rattle.worker_races.specs.merge.Weaving.{IsWoven}
use Rattle.worker_races.specs.Senders.{IsNew, jobs_of}
use Rattle.worker_races.proofs.Public.{first-done, nth-logs, others-done}
use Rattle.lan_schedule.specs.Races.{Claimed, IsDealt, Worker, claims_in, count_of}
use Rattle.lan_schedule.specs.Acts.{station_of}
use Rattle.lan_schedule.specs.Woven.{worker_of}
use Rattle.lan_schedule.proofs.Dealing.{count-claim, count-log, counted}
use Rattle.lan_schedule.proofs.WovenPart.{claims_of}

-- ---- all claims are those of the workers

others-same : (k a n : ℕ) (f : ℕ → ℕ) → k < a
    → sum_by (λ u. counted (k == u) (f u)) (range_with_len a n) ≡ sum_by f (range_with_len a n)
others-same k a zero f below = refl
others-same k a (suc n) f below =
    let here : counted (k == a) (f a) ≡ f a =
    ap (λ (b : Bool). counted b (f a)) (ne_eqb k a (λ e. absurd (omega (arith, e, below)))) in
    let all = sum_by-cons (λ u. counted (k == u) (f u)) a (range_with_len (a + 1) n) in
    let plain = sum_by-cons f a (range_with_len (a + 1) n) in
    let rest = others-same k (a + 1) n f (omega (arith, below)) in
    omega (arith, here, all, plain, rest)

one-more : (k a n : ℕ) (f : ℕ → ℕ) → a ≤ k → k < a + n
    → sum_by (λ u. counted (k == u) (f u)) (range_with_len a n) ≡ suc (sum_by f (range_with_len a n))
one-more k a zero f above below = absurd (omega (arith, above, below))
one-more k a (suc n) f above below =
    let all = sum_by-cons (λ u. counted (k == u) (f u)) a (range_with_len (a + 1) n) in
    let plain = sum_by-cons f a (range_with_len (a + 1) n) in
    elim (cases_Bool (k == a)) [
      | inl same ↦ (let at = eqb-true k a same in
          let here : counted (k == a) (f a) ≡ suc (f a) =
          ap (λ (b : Bool). counted b (f a)) same in
          let rest = others-same k (a + 1) n f (omega (arith, at)) in
          omega (arith, here, all, plain, rest))
      | inr other ↦ (let here : counted (k == a) (f a) ≡ f a =
          ap (λ (b : Bool). counted b (f a)) other in
          let rest = one-more k (a + 1) n f
          (differs k a above other) (omega (arith, below)) in
          omega (arith, here, all, plain, rest))
    ]
  where
    differs : (k a : ℕ) → a ≤ k → (k == a) ≡ false → a + 1 ≤ k
    differs k a above other = elim (cases_lt a k) [
      | inl less ↦ omega (arith, less)
      | inr not ↦ absurd (let same = eq-eqb k a (omega (arith, above, not)) in
          let bad : true ≡ false = sym same ∙ other in cc bad)
    ]

zeros : (a n : ℕ) → sum_by (λ (u : ℕ). 0) (range_with_len a n) ≡ 0
zeros a zero = refl
zeros a (suc n) =
    let all = sum_by-cons (λ (u : ℕ). 0) a (range_with_len (a + 1) n) in
    let rest = zeros (a + 1) n in omega (arith, all, rest)

count-sum : (claims : List Claimed) (n : ℕ) → AllByRecursion (λ (c : Claimed). c.worker < n) claims
    → length claims ≡ sum_by (count_of claims) (range_with_len 0 n)
count-sum [] n below = sym (zeros 0 n)
count-sum (c ∷ claims) n below =
    let one = one-more c.worker 0 n (count_of claims) (omega arith) (omega (arith, below.0)) in
    let same : sum_by (count_of (c ∷ claims)) (range_with_len 0 n)
    ≡ sum_by (λ u. counted (c.worker == u) (count_of claims u)) (range_with_len 0 n) =
    (λ i. sum_by (λ u. count-claim c claims u i) (range_with_len 0 n)) in
    let rest = count-sum claims n below.1 in
    omega (arith, one, same, rest)

none-past : (b : Bool) (n : ℕ) → counted b n ≡ 0 → n ≡ 0
none-past true n none = absurd (omega (arith, none))
none-past false n none = none

all-below : (claims : List Claimed) (n : ℕ) → ((u : ℕ) → n ≤ u → count_of claims u ≡ 0)
    → AllByRecursion (λ (c : Claimed). c.worker < n) claims
all-below [] n none = tt
all-below (c ∷ claims) n none = (
  elim (cases_lt c.worker n) [
    | inl below ↦ below
    | inr past ↦ absurd (let count = count-claim c claims c.worker in
        let own : counted (c.worker == c.worker) (count_of claims c.worker)
        ≡ suc (count_of claims c.worker) =
        ap (λ (b : Bool). counted b (count_of claims c.worker)) (eq-eqb c.worker c.worker refl) in
        let zero_is = none c.worker past in omega (arith, count, own, zero_is))
  ],
  all-below claims n (λ u past. none-past (c.worker == u) (count_of claims u)
      (sym (count-claim c claims u) ∙ none u past)),
)

-- ---- lists by their places

mapped-range : (g : ℕ → ℕ) (xs : List ℕ) (a : ℕ)
    → ((i : ℕ) → i < length xs → g (a + i) ≡ get_or xs i 0)
    → map g (range_with_len a (length xs)) ≡ xs
mapped-range g [] a at = refl
mapped-range g (x ∷ xs) a at =
    let first : g a ≡ x = ap g (plus a) ∙ at 0 (omega arith) in
    let rest = mapped-range g xs (a + 1)
    (λ i less. ap g (over a i) ∙ at (suc i) (omega (arith, less))) in
    ap (λ n. n ∷ map g (range_with_len (a + 1) (length xs))) first ∙ ap (λ l. x ∷ l) rest
  where
    plus : (a : ℕ) → a ≡ a + 0
    plus a = omega arith

    over : (a i : ℕ) → (a + 1) + i ≡ a + suc i
    over a i = omega arith

nth-length : (u : ℕ) (ds : List WorkerAt)
    → length (nth_log u (map (λ (d : WorkerAt). d.log) ds))
    ≡ get_or (map (λ (d : WorkerAt). length d.log) ds) u 0
nth-length zero [] = refl
nth-length (suc u) [] = refl
nth-length zero (d ∷ ds) = refl
nth-length (suc u) (d ∷ ds) = nth-length u ds

nth-past : (u : ℕ) (ds : List WorkerAt) → length ds ≤ u
    → length (nth_log u (map (λ (d : WorkerAt). d.log) ds)) ≡ 0
nth-past zero [] past = refl
nth-past (suc u) [] past = refl
nth-past zero (d ∷ ds) past = absurd (omega (arith, past))
nth-past (suc u) (d ∷ ds) past = nth-past u ds (omega (arith, past))

-- ---- workers that began, and are done

-- as many entries as jobs
logs-jobs : (ws ds : List WorkerAt) → AreDone ws ds → AllByRecursion IsNew ws
    → map (λ (d : WorkerAt). length d.log) ds ≡ map (λ (w : Worker). w.jobs) (map worker_of ws)
logs-jobs [] [] done new = refl
logs-jobs [] (d ∷ ds) done new = absurd (let all = done.count in omega (arith, all))
logs-jobs (w ∷ ws) [] done new = absurd (let all = done.count in omega (arith, all))
logs-jobs (w ∷ ws) (d ∷ ds) done new =
    let each = (first-done w d ws ds done).each in
    let none = ap length new.0.empty in
    let here : length d.log ≡ w.jobs = omega (arith, each, none) in
    ap (λ n. n ∷ map (λ (d : WorkerAt). length d.log) ds) here
    ∙ ap (λ l. w.jobs ∷ l) (logs-jobs ws ds (others-done w d ws ds done) new.1)

entries-of : (k s : ℕ) (v : SeatView) (sender : Sender) (log : List Entry) → sender.station ≡ s
    → AllByRecursion (IsEntry v sender) log
    → AllByRecursion (λ (a : Attempt). a.station ≡ s) (map (attempt_of k) log)
entries-of k s v sender [] at are = tt
entries-of k s v sender (Taken p ∷ log) at are =
    (are.0.of_station ∙ at, entries-of k s v sender log at are.1)
entries-of k s v sender (Refused t why ∷ log) at are =
    (are.0.0 ∙ at, entries-of k s v sender log at are.1)

-- the entries of each log are of its worker's station
pub of-stations : (k u : ℕ) (ws ds : List WorkerAt) → AreDone ws ds → AllByRecursion IsNew ws
    → AllByRecursion (λ (a : Attempt). a.station ≡ station_of (map worker_of ws) u)
    (nth_log u (logs_of k (map (λ (d : WorkerAt). d.log) ds)))
of-stations k zero [] [] done new = tt
of-stations k (suc u) [] [] done new = tt
of-stations k u [] (d ∷ ds) done new = absurd (let all = done.count in omega (arith, all))
of-stations k u (w ∷ ws) [] done new = absurd (let all = done.count in omega (arith, all))
of-stations k zero (w ∷ ws) (d ∷ ds) done new =
    let first = first-done w d ws ds done in
    let log = first.logged w.seat.view new.0.logged in
    entries-of k w.sender.station d.seat.view d.sender d.log
    (ap (λ (s : Sender). s.station) first.same.sender) log.entries
of-stations k (suc u) (w ∷ ws) (d ∷ ds) done new =
    of-stations (suc k) u ws ds (others-done w d ws ds done) new.1

-- ---- the race

module _ (base : ℕ) (ws ds : List WorkerAt) (part control : List Happening) (done : AreDone ws ds)
    (new : AllByRecursion IsNew ws)
    (woven : IsWoven base part control (logs_of 0 (map (λ (d : WorkerAt). d.log) ds))) where
  abbrev claims : List Claimed
  claims = claims_in (claims_of base part)

  abbrev jobs : List ℕ
  jobs = map (λ (w : Worker). w.jobs) (map worker_of ws)

  count-nth : (u : ℕ) → count_of claims u
      ≡ length (nth_log u (map (λ (d : WorkerAt). d.log) ds))
  count-nth u = count-log base u part control _ woven
      ∙ ap length (nth-logs 0 u (map (λ (d : WorkerAt). d.log) ds))
      ∙ length-map (nth_log u (map (λ (d : WorkerAt). d.log) ds)) (attempt_of (0 + u))

  count-at : (u : ℕ) → count_of claims u ≡ get_or jobs u 0
  count-at u = count-nth u ∙ nth-length u ds
      ∙ ap (λ (l : List ℕ). get_or l u 0) (logs-jobs ws ds done new)

  many-jobs : length jobs ≡ length (map worker_of ws)
  many-jobs = length-map (map worker_of ws) (λ (w : Worker). w.jobs)

  from_zero : (i : ℕ) → 0 + i ≡ i
  from_zero i = omega arith

  dealt-each : map (count_of claims) (range_with_len 0 (length (map worker_of ws))) ≡ jobs
  dealt-each = ap (λ n. map (count_of claims) (range_with_len 0 n)) (sym many-jobs)
      ∙ mapped-range (count_of claims) jobs 0 (λ i less. ap (count_of claims) (from_zero i) ∙ count-at i)

  dealt-all : length claims ≡ sum jobs
  dealt-all =
      let many : length (map worker_of ws) ≡ length ds =
      length-map ws worker_of ∙ sym done.count in
      count-sum claims (length (map worker_of ws))
      (all-below claims (length (map worker_of ws)) (λ u past. count-nth u
      ∙ nth-past u ds (omega (arith, past, many))))
      ∙ sym (sum-map (count_of claims) (range_with_len 0 (length (map worker_of ws))))
      ∙ ap sum dealt-each

  pub is-dealt : IsDealt (record { workers = map worker_of ws; claims = claims })
  is-dealt = record { each = dealt-each; all = dealt-all }

  jobs-sum : (vs : List WorkerAt)
      → sum_by (λ (n : ℕ). n) (map (λ (w : Worker). w.jobs) (map worker_of vs)) ≡ jobs_of vs
  jobs-sum [] = refl
  jobs-sum (v ∷ vs) =
      let all = sum_by-cons (λ (n : ℕ). n) v.jobs (map (λ (w : Worker). w.jobs) (map worker_of vs)) in
      let rest = jobs-sum vs in omega (arith, all, rest)

  -- there are as many claims as jobs
  pub claims-jobs : length claims ≡ jobs_of ws
  claims-jobs = dealt-all ∙ jobs-sum ws
