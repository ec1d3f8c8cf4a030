-- Sums over a range of numbers, and what lists of claims, of additions and of loads count.
use Rattle.std.proofs.Common.{◌≡◌, ◌⊎◌, ℕ, zero, suc, ◌+◌, ◌-◌, ◌<◌, ◌≤◌, ◌==◌, Bool, true, false, not, ◌&&◌, cond}
use Rattle.std.proofs.Common.{List, [], ◌∷◌, length, filter, refl, sym, ap, ◌∙◌, subst, inl, inr, ⊎_elim, arith, eq-eqb}
use Rattle.std.proofs.lemmas.Bool.{ne_eqb, eqb-true}
use Rattle.std.specs.List.{list_any, range_with_len}
use Rattle.association_slots.specs.Views.{In, one, weigh, count, met, claimed}
use Rattle.association_slots.specs.Steps.{above_claims}
use Rattle.association_slots.specs.declared.view.Addition.{Addition}
use Rattle.association_slots.specs.declared.view.NextSeen.{NextSeen}
use Rattle.association_slots.proofs.Public.{weigh_none}
use Rattle.sak_exchange.proofs.Public.{by_test}
use Rattle.lan_core.specs.Ledgers.{Claim}
use Rattle.lan_core.specs.Legal.{is_claim_of}
use Rattle.group_safety.specs.Accounts.{numbers_at}
use Rattle.station_words.specs.Counting.{times_in, times_under, past_claims, greatest_seen}

-- ---- sums

weigh-sum : {A : Type 0} (h g : A → ℕ) (xs : List A) → weigh (λ x. h x + g x) xs ≡ weigh h xs + weigh g xs
weigh-sum h g [] = refl
weigh-sum h g (x ∷ xs) = let r = weigh-sum h g xs in omega arith

weigh-few : {A : Type 0} (h : A → ℕ) (xs : List A) → ((x : A) → h x ≤ 1) → weigh h xs ≤ length xs
weigh-few h [] few = omega arith
weigh-few h (x ∷ xs) few = let a = few x in let r = weigh-few h xs few in omega arith

length-filter : (p : ℕ → Bool) (xs : List ℕ) → length (filter p xs) ≡ weigh (λ x. one (p x)) xs
length-filter p [] = refl
length-filter p (x ∷ xs) = let r = length-filter p xs in by_test (p x) (λ y. rw y (omega arith)) (λ y. rw y (omega arith))

length-range : (from n : ℕ) → length (range_with_len from n) ≡ n
length-range from zero = refl
length-range from (suc n) = let r = length-range (from + 1) n in omega arith

-- ---- one number in a range

abbrev pub occurs : ℕ → List ℕ → ℕ
occurs k xs = weigh (λ m. one (k == m)) xs

in-range : (k from n : ℕ) → from ≤ k → k < from + n → 1 ≤ occurs k (range_with_len from n)
in-range k from zero low high = absurd (omega arith)
in-range k from (suc n) low high = by_test (k == from)
    (λ y. let more : occurs k (from ∷ range_with_len (from + 1) n) ≡ 1 + occurs k (range_with_len (from + 1) n) = ap (λ (b : Bool). one b + occurs k (range_with_len (from + 1) n)) y in omega arith)
    (λ y. let ne : k ≡ from → ⊥ = (λ e. absurd (cc (sym y ∙ eq-eqb k from e))) in
    let r = in-range k (from + 1) n (omega (arith, low, ne)) (omega (arith, high)) in omega arith)

out-of-range : (k from n : ℕ) → k < from → occurs k (range_with_len from n) ≡ 0
out-of-range k from zero low = refl
out-of-range k from (suc n) low =
    let r = out-of-range k (from + 1) n (omega arith) in
    let none : one (k == from) ≡ 0 = ap one (ne_eqb k from (λ e. absurd (omega (arith, e, low)))) in omega arith

once-in-range : (k from n : ℕ) → occurs k (range_with_len from n) ≤ 1
once-in-range k from zero = omega arith
once-in-range k from (suc n) = by_test (k == from)
    (λ y. let e = eqb-true k from y in let r = out-of-range k (from + 1) n (omega (arith, e)) in
    let here : one (k == from) ≡ 1 = ap one y in omega arith)
    (λ y. let r = once-in-range k (from + 1) n in let here : one (k == from) ≡ 0 = ap one y in omega arith)

and-parts : (a b : Bool) → (a && b) ≡ true → (a ≡ true) × (b ≡ true)
and-parts true b e = (refl, e)
and-parts false b e = absurd (cc e)

-- ---- lists of claims

-- of an epoch a list has as many claims as it has of numbers in a range, or more
pub times-in-range : (e : ℕ) (xs : List (ℕ × ℕ)) (from n : ℕ) → weigh (λ m. times_in e m xs) (range_with_len from n) ≤ times_under e xs
times-in-range e [] from n = let none = weigh_none (λ (m : ℕ). 0) (range_with_len from n) (λ m i. refl) in omega arith
times-in-range e (x ∷ xs) from n =
    let r = times-in-range e xs from n in
    let split : weigh (λ m. times_in e m (x ∷ xs)) (range_with_len from n) ≡ weigh (λ m. one ((x.0 == e) && (x.1 == m))) (range_with_len from n) + weigh (λ m. times_in e m xs) (range_with_len from n) =
    weigh-sum (λ m. one ((x.0 == e) && (x.1 == m))) (λ m. times_in e m xs) (range_with_len from n) in
    let first = this (x.0 == e) in omega arith
  where
    this : (b : Bool) → weigh (λ m. one (b && (x.1 == m))) (range_with_len from n) ≤ one b
    this true = once-in-range x.1 from n
    this false = let none = weigh_none (λ (m : ℕ). 0) (range_with_len from n) (λ m i. refl) in omega arith

pub past-above : (e pn : ℕ) (xs : List (ℕ × ℕ)) → 1 ≤ times_in e pn xs → pn + 1 ≤ past_claims e xs
past-above e pn [] some = absurd (omega arith)
past-above e pn (x ∷ xs) some = by_test ((x.0 == e) && (x.1 == pn))
    (λ y. let both = and-parts (x.0 == e) (x.1 == pn) y in let same = eqb-true x.1 pn both.1 in
    let here : cond (x.0 == e) (x.1 + 1) 0 ≡ x.1 + 1 = ap (λ (b : Bool). cond b (x.1 + 1) 0) both.0 in omega arith)
    (λ y. let none : one ((x.0 == e) && (x.1 == pn)) ≡ 0 = ap one y in let r = past-above e pn xs (omega arith) in omega arith)

pub past-below : (e n : ℕ) (xs : List (ℕ × ℕ)) → ((pn : ℕ) → 1 ≤ times_in e pn xs → pn + 1 ≤ n) → past_claims e xs ≤ n
past-below e n [] all = omega arith
past-below e n (x ∷ xs) all =
    let r = past-below e n xs (λ pn some. all pn (omega arith)) in by_test (x.0 == e)
    (λ y. let here : cond (x.0 == e) (x.1 + 1) 0 ≡ x.1 + 1 = ap (λ (b : Bool). cond b (x.1 + 1) 0) y in
    let one_is : one ((x.0 == e) && (x.1 == x.1)) ≡ 1 = ap (λ (b : Bool). one (b && (x.1 == x.1))) y ∙ ap one (eq-eqb x.1 x.1 refl) in
    let low = all x.1 (omega arith) in omega arith)
    (λ y. let here : cond (x.0 == e) (x.1 + 1) 0 ≡ 0 = ap (λ (b : Bool). cond b (x.1 + 1) 0) y in omega arith)

-- a number of an epoch is in a list, if the list has any
pub past-some : (e : ℕ) (xs : List (ℕ × ℕ)) → (past_claims e xs ≡ 0) ⊎ ((pn : ℕ) × (1 ≤ times_in e pn xs))
past-some e [] = inl refl
past-some e (x ∷ xs) = by_test (x.0 == e)
    (λ y. let one_is : one ((x.0 == e) && (x.1 == x.1)) ≡ 1 = ap (λ (b : Bool). one (b && (x.1 == x.1))) y ∙ ap one (eq-eqb x.1 x.1 refl) in inr (x.1, omega arith))
    (λ y. let here : cond (x.0 == e) (x.1 + 1) 0 ≡ 0 = ap (λ (b : Bool). cond b (x.1 + 1) 0) y in ⊎_elim
    (λ (none : past_claims e xs ≡ 0). inl (omega (arith, none, here)))
    (λ (some : (pn : ℕ) × (1 ≤ times_in e pn xs)). let it = some.1 in inr (some.0, omega (arith, it)))
    (past-some e xs))

-- ---- the numbers of a run

pub unclaimed-none : (s e m : ℕ) (cs : List Claim) → 1 ≤ times_in e m (numbers_at s cs) → list_any (is_claim_of s e m) cs ≡ true
unclaimed-none s e m [] some = absurd (omega arith)
unclaimed-none s e m (x ∷ cs) some = by_test (x.station == s)
    (λ y. by_test ((x.epoch == e) && (x.pn == m))
    (λ z. rw (y, z) refl)
    (λ z. let later : 1 ≤ times_in e m (numbers_at s cs) = (let q : times_in e m (numbers_at s (x ∷ cs)) ≡ times_in e m (numbers_at s cs) = rw (y, z) (omega arith) in omega arith) in
    let r = unclaimed-none s e m cs later in rw (y, z) r))
    (λ y. let later : 1 ≤ times_in e m (numbers_at s cs) = (let q : times_in e m (numbers_at s (x ∷ cs)) ≡ times_in e m (numbers_at s cs) = rw y refl in omega arith) in
    let r = unclaimed-none s e m cs later in rw y r)

pub under-few : (s e : ℕ) (cs : List Claim) → times_under e (numbers_at s cs) ≤ length cs
under-few s e [] = omega arith
under-few s e (x ∷ cs) = let r = under-few s e cs in by_test (x.station == s)
    (λ y. let q : times_under e (numbers_at s (x ∷ cs)) ≡ one (x.epoch == e) + times_under e (numbers_at s cs) = rw y refl in let z = few (x.epoch == e) in omega arith)
    (λ y. let q : times_under e (numbers_at s (x ∷ cs)) ≡ times_under e (numbers_at s cs) = rw y refl in omega arith)
  where
    few : (b : Bool) → one b ≤ 1
    few true = omega arith
    few false = omega arith

-- numbers that nobody claimed, and those of a list of claims in which none is twice
pub unused-few : (unused : ℕ → Bool) (h : ℕ → ℕ) (n : ℕ) → ((m : ℕ) → h m ≤ 1) → ((m : ℕ) → 1 ≤ h m → unused m ≡ false)
    → length (filter unused (range_with_len 1 n)) + weigh h (range_with_len 1 n) ≤ n
unused-few unused h n few none =
    let all = weigh-few (λ m. one (unused m) + h m) (range_with_len 1 n) (λ m. each (unused m) (h m) (few m) (none m)) in
    let split = weigh-sum (λ m. one (unused m)) h (range_with_len 1 n) in
    let same = length-filter unused (range_with_len 1 n) in
    let long = length-range 1 n in omega arith
  where
    each : (b : Bool) (k : ℕ) → k ≤ 1 → (1 ≤ k → b ≡ false) → one b + k ≤ 1
    each true zero low off = omega arith
    each true (suc k) low off = absurd (cc (off (omega arith)))
    each false k low off = omega (arith, low)

-- ---- loads

pub seen-below : (e n : ℕ) (fs : List NextSeen) → ((f : NextSeen) → In f fs → f.epoch ≡ e → f.next ≤ n) → greatest_seen e fs ≤ n
seen-below e n [] all = omega arith
seen-below e n (f ∷ fs) all =
    let r = seen-below e n fs (λ g i. all g (inr i)) in by_test (f.epoch == e)
    (λ y. let here : cond (f.epoch == e) f.next 0 ≡ f.next = ap (λ (b : Bool). cond b f.next 0) y in let low = all f (inl refl) (eqb-true f.epoch e y) in omega arith)
    (λ y. let here : cond (f.epoch == e) f.next 0 ≡ 0 = ap (λ (b : Bool). cond b f.next 0) y in omega arith)

pub seen-some : (e : ℕ) (fs : List NextSeen) → (greatest_seen e fs ≡ 0) ⊎ ((f : NextSeen) × In f fs × (f.epoch ≡ e))
seen-some e [] = inl refl
seen-some e (f ∷ fs) = by_test (f.epoch == e)
    (λ y. inr (f, inl refl, eqb-true f.epoch e y))
    (λ y. let here : cond (f.epoch == e) f.next 0 ≡ 0 = ap (λ (b : Bool). cond b f.next 0) y in ⊎_elim
    (λ (none : greatest_seen e fs ≡ 0). inl (omega (arith, none, here)))
    (λ (some : (g : NextSeen) × In g fs × (g.epoch ≡ e)). inr (some.0, inr some.1, some.2))
    (seen-some e fs))

-- ---- additions

pub counted : (p : Addition → Bool) (xs : List Addition) → 1 ≤ count p xs → (a : Addition) × In a xs × (p a ≡ true)
counted p [] some = absurd (omega arith)
counted p (a ∷ xs) some = by_test (p a)
    (λ y. (a, inl refl, y))
    (λ y. let none : one (p a) ≡ 0 = ap one y in let r = counted p xs (omega arith) in (r.0, inr r.1, r.2))

pub count-one : (p : Addition → Bool) (a : Addition) (xs : List Addition) → In a xs → p a ≡ true → 1 ≤ count p xs
count-one p a [] i is = absurd i
count-one p a (x ∷ xs) i is = ⊎_elim
    (λ (e : x ≡ a). let here : one (p x) ≡ 1 = ap (λ (y : Addition). one (p y)) e ∙ ap one is in omega (arith, here))
    (λ (j : In a xs). let r = count-one p a xs j is in omega (arith, r))
    i

-- a claimed number
pub claimed-is : (e pn : ℕ) (a : Addition) → claimed e pn a ≡ true → (a.claimed ≡ true) × (a.met ≡ e) × (a.pn ≡ pn)
claimed-is e pn a is =
    let both = and-parts a.claimed _ is in let rest = and-parts (a.met == e) (a.pn == pn) both.1 in (both.0, eqb-true a.met e rest.0, eqb-true a.pn pn rest.1)

pub is-claimed : (e : ℕ) (a : Addition) → a.claimed ≡ true → a.met ≡ e → claimed e a.pn a ≡ true
is-claimed e a got same = let x = eq-eqb a.met e same in let y = eq-eqb a.pn a.pn refl in rw (got, x, y) refl

pub above-in : (e : ℕ) (a : Addition) (xs : List Addition) → In a xs → a.claimed ≡ true → a.met ≡ e → a.pn + 1 ≤ above_claims e xs
above-in e a [] i got same = absurd i
above-in e a (x ∷ xs) i got same = ⊎_elim
    (λ (q : x ≡ a). let here : cond (x.claimed && (x.met == e)) (x.pn + 1) 0 ≡ a.pn + 1 = ap (λ (y : Addition). cond (y.claimed && (y.met == e)) (y.pn + 1) 0) q ∙ (let z = eq-eqb a.met e same in rw (got, z) refl) in omega (arith, here))
    (λ (j : In a xs). let r = above-in e a xs j got same in omega (arith, r))
    i

-- claims of an epoch among additions
abbrev pub claim_of : (Addition → Bool) → Addition → Bool
claim_of p a = p a && a.claimed

-- an addition that met an epoch claimed a number, or was lost
pub met-parts : (p : Addition → Bool) (xs : List Addition) → count p xs ≡ count (claim_of p) xs + count (λ a. p a && not a.claimed) xs
met-parts p [] = refl
met-parts p (a ∷ xs) = let r = met-parts p xs in let z = parts (p a) a.claimed in omega arith
  where
    parts : (m k : Bool) → one m ≡ one (m && k) + one (m && not k)
    parts true true = refl
    parts true false = refl
    parts false k = refl

-- claims of an epoch, of which each number is in a range, are as many as there are of those numbers
pub claims-in-range : (e from n : ℕ) (p : Addition → Bool) (xs : List Addition)
    → ((a : Addition) → In a xs → p a ≡ true → (a.claimed ≡ true) × (a.met ≡ e) × (from ≤ a.pn) × (a.pn < from + n))
    → count p xs ≤ weigh (λ m. count (claimed e m) xs) (range_with_len from n)
claims-in-range e from n p [] within = omega arith
claims-in-range e from n p (a ∷ xs) within =
    let r = claims-in-range e from n p xs (λ b i. within b (inr i)) in
    let split : weigh (λ m. count (claimed e m) (a ∷ xs)) (range_with_len from n) ≡ weigh (λ m. one (claimed e m a)) (range_with_len from n) + weigh (λ m. count (claimed e m) xs) (range_with_len from n) =
    weigh-sum (λ m. one (claimed e m a)) (λ m. count (claimed e m) xs) (range_with_len from n) in
    by_test (p a)
    (λ y. let w = within a (inl refl) y in let here : one (p a) ≡ 1 = ap one y in
    let some : 1 ≤ weigh (λ m. one (claimed e m a)) (range_with_len from n) =
    subst (λ (b : Bool). 1 ≤ weigh (λ m. one (b && ((a.met == e) && (a.pn == m)))) (range_with_len from n)) (sym w.0)
    (subst (λ (b : Bool). 1 ≤ weigh (λ m. one (true && (b && (a.pn == m)))) (range_with_len from n)) (sym (eq-eqb a.met e w.1)) (in-range a.pn from n w.2 w.3)) in omega arith)
    (λ y. let here : one (p a) ≡ 0 = ap one y in omega arith)

-- claims of which none is twice are no more than the range
pub range-few : (e n : ℕ) (xs : List Addition) → ((m : ℕ) → count (claimed e m) xs ≤ 1) → weigh (λ m. count (claimed e m) xs) (range_with_len 1 n) ≤ n
range-few e n xs few = let all = weigh-few (λ m. count (claimed e m) xs) (range_with_len 1 n) few in let long = length-range 1 n in omega arith
