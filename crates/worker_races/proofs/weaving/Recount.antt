-- The events that are merged are those of the part that a race gives.
use Rattle.std.proofs.Common.{◌≡◌, ◌≤◌, ◌+◌, ℕ, zero, suc, true, List, [], ◌∷◌, ◌++◌, length, map, get_or, refl, sym, ap, ◌∙◌, subst, arith}
use Rattle.lan_base.specs.declared.association_number.AssociationNumber.{AssociationNumber}
use Rattle.std.proofs.Common.{Some, append_assoc}
use Rattle.std.specs.Prelude.{slice_get, option_map}
use Rattle.std.specs.List.{AllByRecursion}
use Rattle.std.specs.List.Sorted.{IsNonDecreasingBy}
use Rattle.std.proofs.lemmas.List.{map-append, length-append}
use Rattle.std.proofs.lemmas.List.Elements.{All-from_recursion}
use Rattle.std.proofs.lemmas.Bool.{eqb-true}
use Rattle.lan_base.specs.declared.frame.UserFrame.{UserFrame}
use Rattle.lan_core.specs.declared.event.Event.{Event}
use Rattle.lan_core.specs.declared.event.Event.TheVariants as events
use Rattle.lan_core.specs.declared.settings.Settings.{Settings}
use Rattle.lan_core.specs.Run.{Run}
use Rattle.lan_core.specs.Order.{is_event_of}
use Rattle.lan_core.specs.Legal.{IsLegal, IsThrifty, unused}
use Rattle.worker_races.specs.declared.merge.step.Step.{Step}
use Rattle.data_workers.specs.declared.entry.Entry.{Entry}
use Rattle.worker_races.specs.merge.Places.{Move, Attempt, ends, place}
use Rattle.worker_races.specs.merge.Marks.{Mark, Control, Claim}
use Rattle.worker_races.specs.merge.Ranks.{in_order, is_sooner}
use Rattle.worker_races.specs.merge.Merged.{numbered, rank, merged, sooner, entries_of}
use Rattle.worker_races.specs.merge.Steps.{station_of, move_of, moves_of, attempt_of, logs_of, event_at, event_of_rank, IsStepOf, AreSteps, AreRising, counted_from}
use Rattle.worker_races.specs.merge.Raced.{shown_of, IsMove, AreMoves, IsRaced, claim_after}
use Rattle.worker_races.specs.merge.Weaving.{part_of, IsWoven}
use Rattle.lan_core.specs.Parts.{followed_by}
use Rattle.worker_races.proofs.weaving.Stable.{each-append, each-in_order}
use Rattle.worker_races.proofs.weaving.Sweep.{in_order-map, events-ranked, place-log}
use Rattle.worker_races.proofs.weaving.Controlled.{race-legal, race-rises}
use Rattle.worker_races.proofs.weaving.Raced.{race-thrifty}
use Rattle.worker_races.proofs.weaving.WovenRun.{race-woven, followed-woven}

-- ---- a move of a step has its place

own-place : (t : ℕ) (e : Event) → is_event_of t e ≡ true → station_of e ≡ t
own-place t (events.Start name sci priority) own = absurd (cc own)
own-place t (events.Tick station next) own = eqb-true station t own
own-place t (events.Deliver frame station) own = eqb-true station t own
own-place t (events.Restart station) own = eqb-true station t own
own-place t (events.Claim station user pn) own = absurd (cc own)
own-place t events.Emit own = absurd (cc own)
own-place t (events.Inject station octets) own = eqb-true station t own

module _ (settings : Settings) (users : List UserFrame) (ans : ℕ → ℕ → AssociationNumber) where
  ends-same : (c : Run) (s : Step) (m : Move) → IsStepOf s m → IsMove settings users c m → (x : Attempt) → ends x m ≡ ends x (move_of s)
  unfolding ends
  ends-same c s m of move x =
      let station : m.station ≡ station_of s.event = sym (own-place m.station m.x.event move.own) ∙ ap station_of of.event in
      let shown : m.shown ≡ shown_of s.event = move.shown ∙ ap shown_of of.event in
      rw (station, shown, of.before, of.after) refl

  pub place-same : (c : Run) (steps : List Step) (ms : List Move) → AreSteps steps ms → AreMoves settings users ans c ms
      → (x : Attempt) → place x ms ≡ place x (moves_of steps)
  unfolding place
  place-same c [] [] are moves x = refl
  place-same c [] (m ∷ ms) are moves x = absurd are
  place-same c (s ∷ steps) [] are moves x = absurd are
  place-same c (s ∷ steps) (m ∷ ms) are moves x =
      rw (ends-same c s m are.0 moves.0 x, place-same (m.x ∷ c) steps ms are.1 moves.2 x) refl

  controls-same : (us vs : List Move) (n : ℕ) (steps : List Step) (ms : List Move) → AreSteps steps ms
      → map (rank us) (numbered n ms) ≡ map (rank vs) (numbered n (moves_of steps))
  unfolding numbered
  controls-same us vs n [] [] are = refl
  controls-same us vs n [] (m ∷ ms) are = absurd are
  controls-same us vs n (s ∷ steps) [] are = absurd are
  controls-same us vs n (s ∷ steps) (m ∷ ms) are = ap (λ rs. rank us (Control n m) ∷ rs) (controls-same us vs (suc n) steps ms are.1)

  claims-same : (c : Run) (steps : List Step) (ms : List Move) → AreSteps steps ms → AreMoves settings users ans c ms
      → (es : List Attempt) → map (rank ms) (map Claim es) ≡ map (rank (moves_of steps)) (map Claim es)
  claims-same c steps ms are moves [] = refl
  claims-same c steps ms are moves (x ∷ es) = rw (place-same c steps ms are moves x, claims-same c steps ms are moves es) refl

  ranks-same : (c : Run) (steps : List Step) (ms : List Move) → AreSteps steps ms → AreMoves settings users ans c ms
      → (es : List Attempt) → map (rank ms) (merged ms es) ≡ map (rank (moves_of steps)) (merged (moves_of steps) es)
  ranks-same c steps ms are moves es =
      sym (in_order-map ms (numbered 0 ms ++ map Claim es))
      ∙ (ap (in_order is_sooner) (map-append (rank ms) (numbered 0 ms) (map Claim es)
      ∙ (ap (λ rs. rs ++ map (rank ms) (map Claim es)) (controls-same ms (moves_of steps) 0 steps ms are)
      ∙ (ap (λ rs. map (rank (moves_of steps)) (numbered 0 (moves_of steps)) ++ rs) (claims-same c steps ms are moves es)
      ∙ sym (map-append (rank (moves_of steps)) (numbered 0 (moves_of steps)) (map Claim es)))))
      ∙ in_order-map (moves_of steps) (numbered 0 (moves_of steps) ++ map Claim es))

  -- the events of the merged steps are those of the merged moves
  pub events-same : (c : Run) (steps : List Step) (ms : List Move) → AreSteps steps ms → AreMoves settings users ans c ms
      → (es : List Attempt) → map (event_at steps) (merged (moves_of steps) es) ≡ map (event_at steps) (merged ms es)
  events-same c steps ms are moves es =
      sym (events-ranked steps (moves_of steps) (merged (moves_of steps) es))
      ∙ (ap (map (event_of_rank steps)) (sym (ranks-same c steps ms are moves es)) ∙ events-ranked steps ms (merged ms es))

-- ---- the event of a mark

own-counted : (base t : ℕ) (e : Event) → is_event_of t e ≡ true → counted_from base e ≡ e
own-counted base t (events.Start name sci priority) own = refl
own-counted base t (events.Tick station next) own = refl
own-counted base t (events.Deliver frame station) own = refl
own-counted base t (events.Restart station) own = refl
own-counted base t (events.Claim station user pn) own = absurd (cc own)
own-counted base t events.Emit own = refl
own-counted base t (events.Inject station octets) own = refl

-- a step of control stands at its place
StandsAt : ℕ → List Step → Mark → Type 0
StandsAt base steps (Control n m) = option_map (counted_from base) (event_at steps (Control n m)) ≡ Some m.x.event
StandsAt base steps (Claim x) = Unit {0}

get-front : (front rest : List Step) (s : Step) → slice_get (front ++ s ∷ rest) (length front) ≡ Some s
get-front [] rest s = refl
get-front (f ∷ front) rest s = get-front front rest s

stand-all : (settings : Settings) (users : List UserFrame) (ans : ℕ → ℕ → AssociationNumber) (base n : ℕ) (c : Run) (front rest : List Step) (ms : List Move)
    → n ≡ length front → AreSteps rest ms → AreMoves settings users ans c ms → AllByRecursion (StandsAt base (front ++ rest)) (numbered n ms)
unfolding numbered StandsAt
stand-all settings users ans base n c front [] [] is are moves = tt
stand-all settings users ans base n c front [] (m ∷ ms) is are moves = absurd are
stand-all settings users ans base n c front (s ∷ rest) [] is are moves = absurd are
stand-all settings users ans base n c front (s ∷ rest) (m ∷ ms) is are moves = (
  rw (is, get-front front rest s) (ap Some (ap (counted_from base) (sym are.0.event) ∙ own-counted base m.station m.x.event moves.0.own)),
  subst (λ steps. AllByRecursion (StandsAt base steps) (numbered (suc n) ms)) (append_assoc front (s ∷ []) rest)
      (stand-all settings users ans base (suc n) (m.x ∷ c) (front ++ s ∷ []) rest ms
      (let one = length-append front (s ∷ []) in omega (arith, is, one)) are.1 moves.2),
)

stand-claims : (base : ℕ) (steps : List Step) (es : List Attempt) → AllByRecursion (StandsAt base steps) (map Claim es)
unfolding StandsAt
stand-claims base steps [] = tt
stand-claims base steps (x ∷ es) = (tt, stand-claims base steps es)

part-events : (settings : Settings) (base : ℕ) (steps : List Step) (zs : List Mark) (r : Run) → AllByRecursion (StandsAt base steps) zs
    → map (option_map (counted_from base)) (map (event_at steps) zs) ≡ map Some (map (λ h. h.event) (part_of settings base zs r))
unfolding StandsAt
part-events settings base steps [] r all = refl
part-events settings base steps (Control n m ∷ zs) r all = rw (all.0, part-events settings base steps zs (m.x ∷ r) all.1) refl
part-events settings base steps (Claim x ∷ zs) r all =
    rw (same base x.log, part-events settings base steps zs (claim_after settings base x r ∷ r) all.1) refl
  where
    same : (a b : ℕ) → a + (b + 1) ≡ a + b + 1
    same a b = omega arith

some-same : (xs ys : List Event) → map Some xs ≡ map Some ys → xs ≡ ys
some-same [] [] is = refl
some-same [] (y ∷ ys) is = absurd (cc is)
some-same (x ∷ xs) [] is = absurd (cc is)
some-same (x ∷ xs) (y ∷ ys) is = let head : x ≡ y = cc is in let tail = some-same xs ys (cc is) in cc (head, tail)

map-some : (f : Event → Event) (xs : List Event) → map (option_map f) (map Some xs) ≡ map Some (map f xs)
map-some f [] = refl
map-some f (x ∷ xs) = ap (λ l. Some (f x) ∷ l) (map-some f xs)

-- ---- the law of what is merged

module _ (settings : Settings) (users : List UserFrame) (base : ℕ) (ans : ℕ → ℕ → AssociationNumber) (pointed : ℕ → ℕ) (r : Run)
    (steps : List Step) (ms : List Move) (logs : List (List Entry)) (are : AreSteps steps ms)
    (race : IsRaced settings users base ans pointed r ms (logs_of 0 logs)) where
  pub part-is : (zs : List Event) → map Some zs ≡ map (event_at steps) (merged (moves_of steps) (entries_of (logs_of 0 logs)))
      → map (λ h. h.event) (part_of settings base (merged ms (entries_of (logs_of 0 logs))) r) ≡ map (counted_from base) zs
  part-is zs is =
      let es = entries_of (logs_of 0 logs) in
      some-same _ _ (sym (part-events settings base steps (merged ms es) r
      (each-in_order (sooner ms) (StandsAt base steps) _ (each-append (StandsAt base steps) _ _ (stand-all settings users ans base 0 r [] steps ms refl are race.moves) (stand-claims base steps es))))
      ∙ (ap (map (option_map (counted_from base))) (sym (is ∙ events-same settings users ans r steps ms are race.moves es)) ∙ map-some (counted_from base) zs))

  pub part-legal : IsLegal settings users (followed_by (part_of settings base (merged ms (entries_of (logs_of 0 logs))) r) r)
  part-legal =
      subst (IsLegal settings users) (sym (followed-woven settings base (merged ms (entries_of (logs_of 0 logs))) r))
      (race-legal settings users base ans pointed r ms (logs_of 0 logs) race)

  pub part-thrifty : IsThrifty settings r
      → ((s e : ℕ) → unused settings s e (followed_by (part_of settings base (merged ms (entries_of (logs_of 0 logs))) r) r) ≤ 16)
      → IsThrifty settings (followed_by (part_of settings base (merged ms (entries_of (logs_of 0 logs))) r) r)
  part-thrifty thrifty end =
      let same = followed-woven settings base (merged ms (entries_of (logs_of 0 logs))) r in
      subst (IsThrifty settings) (sym same)
      (race-thrifty settings users base ans pointed r ms (logs_of 0 logs) race thrifty
      (λ s e. subst (λ q. unused settings s e q ≤ 16) same (end s e)))

  pub part-woven : IsWoven base (part_of settings base (merged ms (entries_of (logs_of 0 logs))) r) (map (λ m. m.x) ms) (logs_of 0 logs)
  part-woven = race-woven settings users base ans pointed r ms (logs_of 0 logs) race

  -- ---- what `merge` asks

  get-map : (k : ℕ) (told : List Entry) (i : ℕ) (d : Entry) → get_or (map (attempt_of k) told) i (attempt_of k d) ≡ attempt_of k (get_or told i d)
  get-map k [] i d = refl
  get-map k (t ∷ told) zero d = refl
  get-map k (t ∷ told) (suc i) d = get-map k told i d

  length-map-of : (k : ℕ) (told : List Entry) → length (map (attempt_of k) told) ≡ length told
  length-map-of k [] = refl
  length-map-of k (t ∷ told) = ap suc (length-map-of k told)

  one-rises : (k : ℕ) (told : List Entry) → IsNonDecreasingBy (λ x. place x ms) (map (attempt_of k) told)
      → IsNonDecreasingBy (λ t. place (attempt_of 0 t) (moves_of steps)) told
  one-rises k told up i j d low high =
      let here = up i j (attempt_of k d) low (let l = length-map-of k told in omega (arith, high, l)) in
      let at : (n : ℕ) → place (get_or (map (attempt_of k) told) n (attempt_of k d)) ms ≡ place (attempt_of 0 (get_or told n d)) (moves_of steps) =
      λ n. ap (λ x. place x ms) (get-map k told n d) ∙ (place-same settings users ans r steps ms are race.moves (attempt_of k (get_or told n d)) ∙ place-log k (get_or told n d) (moves_of steps)) in
      let a = at i in let b = at j in omega (arith, here, a, b)

  all-rise : (k : ℕ) (ls : List (List Entry)) → AllByRecursion (IsNonDecreasingBy (λ x. place x ms)) (logs_of k ls)
      → AllByRecursion (λ log. IsNonDecreasingBy (λ t. place (attempt_of 0 t) (moves_of steps)) log) ls
  all-rise k [] up = tt
  all-rise k (log ∷ ls) up = (one-rises k log up.0, all-rise (suc k) ls up.1)

  pub rising : AreRising (moves_of steps) logs
  rising = All-from_recursion _ logs (all-rise 0 logs (race-rises settings users base ans pointed r ms (logs_of 0 logs) race))
