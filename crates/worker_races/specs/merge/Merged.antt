-- The merged list: the steps of control and the attempts of all logs, in the order of their places.
use Rattle.std.specs.Prelude.{◌≡◌, ◌⊎◌, ◌<◌, ◌≤◌, ℕ, zero, suc, Bool, true, false, if◌then◌else◌}
use Rattle.std.specs.Prelude.{List, [], ◌∷◌, ◌++◌, map}
use Rattle.std.specs.List.{AllByRecursion}
use Rattle.std.specs.Ordering.{is_lt}
use Rattle.worker_races.specs.declared.merge.rank.Rank.{Rank}
use Rattle.worker_races.specs.merge.Places.{Move, Attempt, Standing, place, Lives, Noted}
use Rattle.worker_races.specs.merge.Marks.{Mark, Control, Claim}
use Rattle.worker_races.specs.merge.Ranks.{rank_cmp, in_order}

-- the rank of an attempt that stands at a place
abbrev pub rank_at : ℕ → Attempt → Rank
rank_at p x = record {
  place = p;
  late = 0;
  station = x.station;
  epoch = x.epoch;
  refused = if x.refused then 1 else 0;
  number = x.number;
  log = x.log;
}

abbrev pub rank : List Move → Mark → Rank
rank ms (Control n m) = record {
  place = n;
  late = 1;
  station = 0;
  epoch = 0;
  refused = 0;
  number = 0;
  log = 0;
}
rank ms (Claim x) = rank_at (place x ms) x

abbrev pub sooner : List Move → Mark → Mark → Bool
sooner ms a b = is_lt (rank_cmp (rank ms a) (rank ms b))

-- steps with their numbers, from n on
unfoldable pub numbered : ℕ → List Move → List Mark
numbered n [] = []
numbered n (m ∷ ms) = Control n m ∷ numbered (suc n) ms

abbrev pub merged : List Move → List Attempt → List Mark
merged ms xs = in_order (sooner ms) (numbered 0 ms ++ map Claim xs)

-- ---- logs

-- the attempts of all logs, log by log
unfoldable pub entries_of : List (List Attempt) → List Attempt
entries_of [] = []
entries_of (log ∷ logs) = log ++ entries_of logs

-- the log at a place, from 0, of attempts or of entries
abbrev pub nth_log : {X : Type 0} → ℕ → List (List X) → List X
nth_log u [] = []
nth_log zero (log ∷ logs) = log
nth_log (suc u) (log ∷ logs) = nth_log u logs

-- the attempts of the n-th log and those after it name their log
abbrev pub AreLogged : ℕ → List (List Attempt) → Type 0
AreLogged n [] = Unit {0}
AreLogged n (log ∷ logs) = AllByRecursion (λ x. x.log ≡ n) log × AreLogged (suc n) logs

-- ---- what the run, the seats and the workers say of attempts

-- What was before: what stands at each station, the next number of each epoch there, and that next
-- number after the station's last event that is no claim.
pub record Before : Type 0 where
  pub standing : ℕ → Standing
  pub next_of : ℕ → ℕ → ℕ
  pub settled_of : ℕ → ℕ → ℕ

-- An attempt fits what was before and the steps: a taken number is of an epoch that transmits
-- before or after some of them, and not below the next one before; where a refusal was made
-- nothing was present, and its epoch was the last one that was pointed at.
pub record IsFit (b : Before) (ms : List Move) (x : Attempt) : Type 0 where
  pub lives : x.refused ≡ false
      → (0 < x.epoch) × Lives x.station (b.standing x.station) x.epoch ms
  pub above : x.refused ≡ false → b.next_of x.station x.epoch ≤ x.number
  pub noted : x.refused ≡ true → ((b.standing x.station).pointed ≤ x.epoch)
      × Noted x.station (b.standing x.station) x.epoch ms

-- two taken attempts of a station differ
abbrev pub Differ : Attempt → Attempt → Type 0
Differ x y = x.refused ≡ false → y.refused ≡ false → x.station ≡ y.station → x.epoch ≡ y.epoch
    → x.number ≡ y.number → ⊥

abbrev pub AllPairs : {X : Type 0} → (X → X → Type 0) → List X → Type 0
AllPairs P [] = Unit {0}
AllPairs P (x ∷ xs) = AllByRecursion (P x) xs × AllPairs P xs

-- x stands before y in one log
pub record InLog (x y : Attempt) : Type 0 where
  pub station : y.station ≡ x.station
  pub log : y.log ≡ x.log
  pub taken_taken : x.refused ≡ false → y.refused ≡ false
      → (x.epoch < y.epoch) ⊎ ((x.epoch ≡ y.epoch) × (x.number < y.number))
  pub taken_refused : x.refused ≡ false → y.refused ≡ true → x.epoch ≤ y.epoch
  pub refused_taken : x.refused ≡ true → y.refused ≡ false → x.epoch < y.epoch
  pub refused_refused : x.refused ≡ true → y.refused ≡ true
      → (x.epoch ≤ y.epoch) × (x.number ≡ y.number)
