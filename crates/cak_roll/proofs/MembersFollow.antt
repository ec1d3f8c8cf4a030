-- The members after an event are those of the twin run with it.
use Rattle.std.proofs.Common.{◌≡◌, ◌≤◌, ◌==◌, ◌+◌, ◌++◌, cond, not, ◌&&◌, ◌||◌, ℕ, zero, suc, Bool, true, false, List, [], ◌∷◌, map, length}
use Rattle.std.proofs.Common.{refl, sym, ap, ◌∙◌, subst, arith, append-nil}
use Rattle.std.specs.Prelude.{slice_get, option_map}
use Rattle.std.specs.List.{list_any}
use Rattle.lan_base.specs.declared.frame.UserFrame.{UserFrame}
use Rattle.lan_core.specs.Run.{stations}
use Rattle.cak_roll.specs.declared.event.GroupNumber.{GroupNumber}
use Rattle.cak_roll.specs.declared.event.GroupNumber.TheVariants.{First, Second}
use Rattle.cak_roll.specs.declared.event.TwinEvent.{TwinEvent}
use Rattle.cak_roll.specs.declared.event.TwinEvent.TheVariants as twins
use Rattle.cak_roll.specs.Twin.{Pair, Twin, TwinHappening, run_of, adopters, adopted_by}
use Rattle.cak_roll.specs.Twin.{place_among, is_leave, has_left, same_group, IsTwinStep, IsTwinRun}
use Rattle.cak_roll.specs.Standing.{Members, AreMembers, profile_of, is_leaver}
use Rattle.cak_roll.specs.inside.Following.{with_event}
use Rattle.cak_roll.proofs.Twins.{twin-stepped}
use Rattle.cak_roll.proofs.Ready.{few-stations}
use Rattle.cak_roll.proofs.Adopted.{map-over, joined-length}
use Rattle.cak_roll.proofs.JoinedRun.{joined-run, started_in, stations-then}

-- ---- places

pub few-adopters : (pair : Pair) (users : List UserFrame) (t : Twin) → IsTwinRun pair users t
    → length (adopters t) ≤ 16
few-adopters pair users t run =
    let j = joined-run pair users t run in
    let few = few-stations pair.second users (run_of Second t) (twin-stepped pair users t Second run)
    in
    let same = joined-length (stations (run_of First t)) (stations (run_of Second t)) (adopters t)
    j.joined in
    omega (arith, few, same)

pub as-many-adopt : (pair : Pair) (users : List UserFrame) (t : Twin) → IsTwinRun pair users t
    → length (adopters t) ≡ length (stations (run_of Second t))
as-many-adopt pair users t run =
    sym (joined-length (stations (run_of First t)) (stations (run_of Second t)) (adopters t)
    (joined-run pair users t run).joined)

pub length-map : {A B : Type 0} (f : A → B) (xs : List A) → length (map f xs) ≡ length xs
length-map f [] = refl
length-map f (x ∷ xs) = omega (arith, length-map f xs)

pub place-within : (s : ℕ) (xs : List ℕ) → place_among s xs ≤ length xs
place-within s [] = omega arith
place-within s (x ∷ xs) = by (x == s) (place-within s xs)
  where
    by : (b : Bool) → place_among s xs ≤ length xs
        → cond (not b) (1 + place_among s xs) 0 ≤ length (x ∷ xs)
    by true le = omega arith
    by false le = omega (arith, le)

-- ---- an adoption is a start

get-map : {A B : Type 0} (f : A → B) (xs : List A) (i : ℕ)
    → slice_get (map f xs) i ≡ option_map f (slice_get xs i)
get-map f [] i = refl
get-map f (x ∷ xs) zero = refl
get-map f (x ∷ xs) (suc i) = get-map f xs i

pub profile-at : (t : Twin) (m : Members) (s : ℕ) → AreMembers t m
    → slice_get (stations (run_of First t)) s ≡ option_map profile_of (slice_get m.stations s)
profile-at t m s are =
    ap (λ ps. slice_get ps s) (sym are.stations) ∙ get-map profile_of m.stations s

-- ---- an event more

or-false : (b : Bool) → (b || false) ≡ b
or-false true = refl
or-false false = refl

or-swap : (b c : Bool) → (b || c) ≡ (c || b)
or-swap true true = refl
or-swap true false = refl
or-swap false true = refl
or-swap false false = refl

or-over : (b c d : Bool) → (b || (c || d)) ≡ ((b || c) || d)
or-over true c d = refl
or-over false c d = refl

any-end : {A : Type 0} (p : A → Bool) (xs : List A) (x : A)
    → list_any p (xs ++ x ∷ []) ≡ (p x || list_any p xs)
any-end p [] x = refl
any-end p (y ∷ xs) x =
    ap (λ b. p y || b) (any-end p xs x) ∙ or-over (p y) (p x) (list_any p xs)
    ∙ ap (λ b. b || list_any p xs) (or-swap (p y) (p x))
    ∙ sym (or-over (p x) (p y) (list_any p xs))

started-first : (t : Twin) (m : Members) (e : TwinEvent) → AreMembers t m
    → map profile_of (with_event m e).stations ≡ stations (run_of First t) ++ started_in First t e
started-first t m (twins.Start name sci priority) are =
    map-over profile_of m.stations
    (record { name = name; sci = sci; priority = priority } ∷ [])
    ∙ ap (λ ps. ps ++ record { name = name; sci = sci; priority = priority } ∷ []) are.stations
started-first t m (twins.Adopt station) are = are.stations ∙ sym (append-nil (stations (run_of First t)))
started-first t m (twins.Leave station group) are =
    are.stations ∙ sym (append-nil (stations (run_of First t)))
started-first t m (twins.Tick station group) are =
    are.stations ∙ sym (append-nil (stations (run_of First t)))
started-first t m (twins.Deliver group frame station) are =
    are.stations ∙ sym (append-nil (stations (run_of First t)))
started-first t m (twins.Restart station) are =
    are.stations ∙ sym (append-nil (stations (run_of First t)))
started-first t m (twins.Send station user) are =
    are.stations ∙ sym (append-nil (stations (run_of First t)))

adopted-then : (t : Twin) (m : Members) (e : TwinEvent) → AreMembers t m
    → (with_event m e).adopters ≡ adopters t ++ adopted_by e
adopted-then t m (twins.Adopt station) are = ap (λ ss. ss ++ station ∷ []) are.adopters
adopted-then t m (twins.Start name sci priority) are = are.adopters ∙ sym (append-nil (adopters t))
adopted-then t m (twins.Leave station group) are = are.adopters ∙ sym (append-nil (adopters t))
adopted-then t m (twins.Tick station group) are = are.adopters ∙ sym (append-nil (adopters t))
adopted-then t m (twins.Deliver group frame station) are =
    are.adopters ∙ sym (append-nil (adopters t))
adopted-then t m (twins.Restart station) are = are.adopters ∙ sym (append-nil (adopters t))
adopted-then t m (twins.Send station user) are = are.adopters ∙ sym (append-nil (adopters t))

left-then : (t : Twin) (m : Members) (e : TwinEvent) (g : GroupNumber) (s : ℕ) → AreMembers t m
    → list_any (is_leaver g s) (with_event m e).leavers ≡ (is_leave g s e || has_left g s t)
left-then t m (twins.Leave station group) g s are =
    any-end (is_leaver g s) m.leavers (record { station = station; group = group })
    ∙ ap (λ b. (same_group group g && (station == s)) || b) (are.leavers g s)
left-then t m (twins.Start name sci priority) g s are = are.leavers g s
left-then t m (twins.Adopt station) g s are = are.leavers g s
left-then t m (twins.Tick station group) g s are = are.leavers g s
left-then t m (twins.Deliver group frame station) g s are = are.leavers g s
left-then t m (twins.Restart station) g s are = are.leavers g s
left-then t m (twins.Send station user) g s are = are.leavers g s

pub members-then : (pair : Pair) (users : List UserFrame) (t : Twin) (x : TwinHappening)
    (old new : Members) (e : TwinEvent) → IsTwinStep pair users x t → x.event ≡ e
    → AreMembers t old → new ≡ with_event old e → AreMembers (x ∷ t) new
unfolding adopters
members-then pair users t x old new e step is are follows =
    subst (AreMembers (x ∷ t)) (sym follows) (record {
      stations = started-first t old e are
          ∙ ap (λ e. stations (run_of First t) ++ started_in First t e) (sym is)
          ∙ sym (stations-then pair users x t First step);
      adopters = adopted-then t old e are ∙ ap (λ e. adopters t ++ adopted_by e) (sym is);
      leavers = λ g s. left-then t old e g s are
          ∙ ap (λ e. is_leave g s e || has_left g s t) (sym is);
    })

pub none-are : AreMembers [] (record { stations = []; adopters = []; leavers = [] })
unfolding run_of stations adopters
none-are = record { stations = refl; adopters = refl; leavers = λ g s. refl }
