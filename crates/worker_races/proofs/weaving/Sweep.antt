-- What a sweep along the steps finds, and what the loops build.
use Rattle.std.proofs.Common.{◌^◌, cond, ◌≡◌, ℕ, zero, suc, ◌+◌, ◌<◌, ◌≤◌, true, false, List, [], ◌∷◌, ◌++◌, map, take, length, get_or, refl, sym, ap, ◌∙◌, arith, inl, inr, append_assoc, append-nil, length-take}
use Rattle.std.proofs.lemmas.List.{take_more, map-append}
use Rattle.std.proofs.lemmas.List.Elements.{All-from_recursion}
use Rattle.std.specs.List.{AllByRecursion}
use Rattle.std.specs.Prelude.{All}
use Rattle.worker_races.proofs.weaving.Stable.{each-append, each-in_order}
use Rattle.std.proofs.lemmas.Bool.{cases_Bool}
use Rattle.lan_core.specs.declared.event.Event.TheVariants as events
use Rattle.worker_races.specs.declared.merge.step.Step.{Step}
use Rattle.data_workers.specs.declared.entry.Entry.{Entry}
use Rattle.data_workers.specs.declared.entry.Entry.TheVariants.{Taken, Refused}
use Rattle.worker_races.specs.declared.merge.rank.Rank.{Rank}
use Rattle.worker_races.specs.merge.Places.{Move, Attempt, ends, place}
use Rattle.worker_races.specs.merge.Marks.{Mark, Control, Claim}
use Rattle.worker_races.specs.merge.Ranks.{inserted, in_order, is_sooner}
use Rattle.worker_races.specs.merge.Merged.{numbered, rank, merged, sooner, entries_of}
use Rattle.worker_races.specs.merge.Steps.{move_of, moves_of, attempt_of, claim_ranks, control_ranks, logs_of, ranks_of, event_at, event_of_rank, IsRankOf}
use Rattle.worker_races.proofs.weaving.PlaceLemmas.{place-nil, place-here, place-next}

pub place_within : (x : Attempt) (steps : List Step) → place x (moves_of steps) ≤ length steps
place_within x [] = let a = place-nil x in omega arith
place_within x (st ∷ sts) = let ih = place_within x sts in elim (cases_Bool (ends x (move_of st))) [ inl h ↦ (let a = place-here x (move_of st) (moves_of sts) h in omega arith) | inr h ↦ (let a = place-next x (move_of st) (moves_of sts) h in omega arith) ]

-- a step that ends the entry, where no earlier one does
pub place_found : (x : Attempt) (sts : List Step) (n : ℕ) (d : Step) → n < length sts → n ≤ place x (moves_of sts) → ends x (move_of (get_or sts n d)) ≡ true → place x (moves_of sts) ≡ n
place_found x [] n d l h e = absurd (omega arith)
place_found x (st ∷ sts) zero d l h e = place-here x (move_of st) (moves_of sts) e
place_found x (st ∷ sts) (suc n) d l h e = elim (cases_Bool (ends x (move_of st))) [
  | inl b ↦ absurd (let a = place-here x (move_of st) (moves_of sts) b in omega arith)
  | inr b ↦ (let a = place-next x (move_of st) (moves_of sts) b in let ih = place_found x sts n d (omega arith) (omega arith) e in omega arith)
]

pub place_later : (x : Attempt) (sts : List Step) (n : ℕ) (d : Step) → n < length sts → n ≤ place x (moves_of sts) → ends x (move_of (get_or sts n d)) ≡ false → n < place x (moves_of sts)
place_later x [] n d l h e = absurd (omega arith)
place_later x (st ∷ sts) zero d l h e = let a = place-next x (move_of st) (moves_of sts) e in omega arith
place_later x (st ∷ sts) (suc n) d l h e = elim (cases_Bool (ends x (move_of st))) [
  | inl b ↦ absurd (let a = place-here x (move_of st) (moves_of sts) b in omega arith)
  | inr b ↦ (let a = place-next x (move_of st) (moves_of sts) b in let ih = place_later x sts n d (omega arith) (omega arith) e in omega arith)
]

-- the place of an entry, whatever its log
ends-log : (log : ℕ) (t : Entry) (m : Move) → ends (attempt_of log t) m ≡ ends (attempt_of 0 t) m
unfolding ends
ends-log log (Taken p) m = refl
ends-log log (Refused s why) m = refl

pub place-log : (log : ℕ) (t : Entry) (ms : List Move) → place (attempt_of log t) ms ≡ place (attempt_of 0 t) ms
unfolding place
place-log log t [] = refl
place-log log t (m ∷ ms) = rw (ends-log log t m, place-log log t ms) refl

pub map-push : {A B : Type 0} (f : A → B) (xs : List A) (x : A) → map f (xs ++ x ∷ []) ≡ map f xs ++ f x ∷ []
map-push f [] x = refl
map-push f (y ∷ xs) x = ap (λ l. f y ∷ l) (map-push f xs x)

control_rank : ℕ → Rank
control_rank n = record { place = n; late = 1; station = 0; epoch = 0; refused = 0; number = 0; log = 0 }

control-push : (n : ℕ) (ss : List Step) (st : Step) → control_ranks n (ss ++ st ∷ []) ≡ control_ranks n ss ++ control_rank (n + length ss) ∷ []
unfolding numbered control_rank
control-push n [] st = ap (λ m. control_rank m ∷ []) (zero_right n)
  where
    zero_right : (n : ℕ) → n ≡ n + 0
    zero_right n = omega arith
control-push n (u ∷ ss) st = ap (λ l. control_rank n ∷ l) (control-push (suc n) ss st ∙ ap (λ m. control_ranks (suc n) ss ++ control_rank m ∷ []) (over n (length ss)))
  where
    over : (n m : ℕ) → suc n + m ≡ n + suc m
    over n m = omega arith

pub controls-nil : control_ranks 0 [] ≡ []
unfolding numbered
controls-nil = refl

-- one more step, one more entry
pub controls_more : (sts : List Step) (i : ℕ) (d : Step) → i < length sts → control_ranks 0 (take (i + 1) sts) ≡ control_ranks 0 (take i sts)
    ++ record { place = i; late = 1; station = 0; epoch = 0; refused = 0; number = 0; log = 0 } ∷ []
unfolding control_rank
controls_more sts i d h = rw (take_more sts i d h) (control-push 0 (take i sts) (get_or sts i d) ∙ ap (λ m. control_ranks 0 (take i sts) ++ control_rank m ∷ []) at_i)
  where
    at_i : 0 + length (take i sts) ≡ i
    at_i = omega (arith, length-take i sts)

pub claims_more : (ms : List Move) (log : ℕ) (told : List Entry) (i : ℕ) (d : Entry) → i < length told
    → claim_ranks ms log (take (i + 1) told) ≡ claim_ranks ms log (take i told) ++ rank ms (Claim (attempt_of log (get_or told i d))) ∷ []
claims_more ms log told i d h = rw (take_more told i d h) (map-push (λ t. rank ms (Claim (attempt_of log t))) _ _)

pub same_default : {A : Type 0} (xs : List A) (i : ℕ) (d e : A) → i < length xs → get_or xs i d ≡ get_or xs i e
same_default [] i d e h = absurd (omega arith)
same_default (x ∷ xs) zero d e h = refl
same_default (x ∷ xs) (suc i) d e h = same_default xs i d e (omega arith)

-- ---- all logs

ranks-push : (ms : List Move) (k : ℕ) (logs : List (List Entry)) (l : List Entry)
    → ranks_of ms k (logs ++ l ∷ []) ≡ ranks_of ms k logs ++ claim_ranks ms (k + length logs) l
ranks-push ms k [] l = append-nil _ ∙ ap (λ n. claim_ranks ms n l) (plus k)
  where
    plus : (k : ℕ) → k ≡ k + 0
    plus k = omega arith
ranks-push ms k (j ∷ logs) l =
    ap (λ rs. claim_ranks ms k j ++ rs) (ranks-push ms (suc k) logs l ∙ ap (λ n. ranks_of ms (suc k) logs ++ claim_ranks ms n l) (over k (length logs)))
    ∙ sym (append_assoc (claim_ranks ms k j) (ranks_of ms (suc k) logs) (claim_ranks ms (k + length (j ∷ logs)) l))
  where
    over : (n m : ℕ) → suc n + m ≡ n + suc m
    over n m = omega arith

pub ranks_more : (ms : List Move) (logs : List (List Entry)) (i : ℕ) (d : List Entry) → i < length logs
    → ranks_of ms 0 (take (i + 1) logs) ≡ ranks_of ms 0 (take i logs) ++ claim_ranks ms i (get_or logs i d)
ranks_more ms logs i d h =
    rw (take_more logs i d h) (ranks-push ms 0 (take i logs) (get_or logs i d)
    ∙ ap (λ n. ranks_of ms 0 (take i logs) ++ claim_ranks ms n (get_or logs i d)) at_i)
  where
    at_i : 0 + length (take i logs) ≡ i
    at_i = omega (arith, length-take i logs)

claims-ranked : (ms : List Move) (k : ℕ) (told : List Entry) → claim_ranks ms k told ≡ map (rank ms) (map Claim (map (attempt_of k) told))
claims-ranked ms k [] = refl
claims-ranked ms k (t ∷ told) = ap (λ rs. rank ms (Claim (attempt_of k t)) ∷ rs) (claims-ranked ms k told)

logs-ranked : (ms : List Move) (k : ℕ) (logs : List (List Entry))
    → ranks_of ms k logs ≡ map (rank ms) (map Claim (entries_of (logs_of k logs)))
unfolding entries_of
logs-ranked ms k [] = refl
logs-ranked ms k (log ∷ logs) =
    ap (λ rs. rs ++ ranks_of ms (suc k) logs) (claims-ranked ms k log)
    ∙ (ap (λ rs. map (rank ms) (map Claim (map (attempt_of k) log)) ++ rs) (logs-ranked ms (suc k) logs)
    ∙ (sym (map-append (rank ms) (map Claim (map (attempt_of k) log)) (map Claim (entries_of (logs_of (suc k) logs))))
    ∙ ap (map (rank ms)) (sym (map-append Claim (map (attempt_of k) log) (entries_of (logs_of (suc k) logs))))))

controls-ranked : (ms : List Move) (n : ℕ) (steps : List Step) → control_ranks n steps ≡ map (rank ms) (numbered n (moves_of steps))
unfolding numbered
controls-ranked ms n [] = refl
controls-ranked ms n (s ∷ steps) = ap (λ rs. rank ms (Control n (move_of s)) ∷ rs) (controls-ranked ms (suc n) steps)

inserted-map : (ms : List Move) (z : Mark) (zs : List Mark) → inserted is_sooner (rank ms z) (map (rank ms) zs) ≡ map (rank ms) (inserted (sooner ms) z zs)
inserted-map ms z [] = refl
inserted-map ms z (y ∷ zs) =
    elim (sooner ms y z) as (λ b. cond b (rank ms y ∷ inserted is_sooner (rank ms z) (map (rank ms) zs)) (rank ms z ∷ rank ms y ∷ map (rank ms) zs) ≡ map (rank ms) (cond b (y ∷ inserted (sooner ms) z zs) (z ∷ y ∷ zs)))
    [ true ↦ ap (λ l. rank ms y ∷ l) (inserted-map ms z zs) | false ↦ refl ]

pub in_order-map : (ms : List Move) (zs : List Mark) → in_order is_sooner (map (rank ms) zs) ≡ map (rank ms) (in_order (sooner ms) zs)
unfolding in_order
in_order-map ms [] = refl
in_order-map ms (z ∷ zs) = ap (inserted is_sooner (rank ms z)) (in_order-map ms zs) ∙ inserted-map ms z (in_order (sooner ms) zs)

-- what the loops leave, sorted, is the merged list by its ranks
pub sorted-ranks : (steps : List Step) (logs : List (List Entry))
    → in_order is_sooner (control_ranks 0 steps ++ ranks_of (moves_of steps) 0 logs)
    ≡ map (rank (moves_of steps)) (merged (moves_of steps) (entries_of (logs_of 0 logs)))
sorted-ranks steps logs =
    let ms = moves_of steps in
    ap (λ rs. in_order is_sooner (rs ++ ranks_of ms 0 logs)) (controls-ranked ms 0 steps)
    ∙ (ap (λ rs. in_order is_sooner (map (rank ms) (numbered 0 ms) ++ rs)) (logs-ranked ms 0 logs)
    ∙ (ap (in_order is_sooner) (sym (map-append (rank ms) (numbered 0 ms) (map Claim (entries_of (logs_of 0 logs)))))
    ∙ in_order-map ms (numbered 0 ms ++ map Claim (entries_of (logs_of 0 logs)))))

pub events-ranked : (steps : List Step) (ms : List Move) (zs : List Mark) → map (event_of_rank steps) (map (rank ms) zs) ≡ map (event_at steps) zs
events-ranked steps ms [] = refl
events-ranked steps ms (Control n m ∷ zs) = ap (λ l. event_at steps (Control n m) ∷ l) (events-ranked steps ms zs)
events-ranked steps ms (Claim x ∷ zs) = ap (λ l. event_at steps (Claim x) ∷ l) (events-ranked steps ms zs)

-- ---- each rank is one of a step, or of a claim

claims-are : (steps : List Step) (ms : List Move) (k : ℕ) (told : List Entry) → k + 1 < 2 ^ 32 → AllByRecursion (IsRankOf steps) (claim_ranks ms k told)
claims-are steps ms k [] few = tt
claims-are steps ms k (t ∷ told) few = (claim-is t, claims-are steps ms k told few)
  where
    claim-is : (t : Entry) → IsRankOf steps (rank ms (Claim (attempt_of k t)))
    claim-is (Taken p) = (λ late. absurd (omega (arith, late)), few)
    claim-is (Refused s why) = (λ late. absurd (omega (arith, late)), few)

logs-are : (steps : List Step) (ms : List Move) (k : ℕ) (logs : List (List Entry)) → k + length logs + 1 < 2 ^ 32
    → AllByRecursion (IsRankOf steps) (ranks_of ms k logs)
logs-are steps ms k [] few = tt
logs-are steps ms k (log ∷ logs) few =
    each-append (IsRankOf steps) _ _ (claims-are steps ms k log (omega (arith, few))) (logs-are steps ms (suc k) logs (omega (arith, few)))

controls-are : (steps : List Step) (n : ℕ) (more : List Step) → n + length more ≤ length steps → AllByRecursion (IsRankOf steps) (control_ranks n more)
unfolding numbered
controls-are steps n [] low = tt
controls-are steps n (s ∷ more) low = ((λ late. omega (arith, low), omega arith), controls-are steps (suc n) more (omega (arith, low)))

pub ranks-are : (steps : List Step) (logs : List (List Entry)) → length logs + 1 < 2 ^ 32
    → All (IsRankOf steps) (in_order is_sooner (control_ranks 0 steps ++ ranks_of (moves_of steps) 0 logs))
ranks-are steps logs few =
    All-from_recursion (IsRankOf steps) _ (each-in_order is_sooner (IsRankOf steps) _
    (each-append (IsRankOf steps) _ _ (controls-are steps 0 steps (omega arith)) (logs-are steps (moves_of steps) 0 logs (omega (arith, few)))))
