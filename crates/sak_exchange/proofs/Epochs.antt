-- In a history that keeps the rules no epoch is above that of the key installed last.
use Rattle.std.proofs.Common.{◌≡◌, ℕ, ◌+◌, ◌≤◌, Bool, true, false, not, ◌&&◌, List, [], ◌∷◌, Some, refl, ap, arith}
use Rattle.std.proofs.lemmas.Bool.{eqb-true, le-ltb, and_parts}
use Rattle.std.specs.Prelude.{nat_lt, ◌==◌}
use Rattle.std.specs.List.{list_any, find}
use Rattle.sak_exchange.specs.declared.held_key.Key.{Key}
use Rattle.sak_exchange.specs.Histories.{Keying, ticked, installed, began, installs, last_key, install_count, has_begun}
use Rattle.sak_exchange.specs.Held.{received, latest, has_epoch, may_begin, KeepsRules}
use Rattle.sak_exchange.proofs.Cases.{by_test, by_option, not-true}

-- the last key has the last epoch
pub last-epoch : (base : ℕ) (h : List Keying) (k : Key) → KeepsRules base h → last_key h ≡ Some k → k.epoch ≡ base + install_count h
last-epoch base [] k kept is = absurd (cc (is))
last-epoch base (ticked s ∷ h) k kept is = last-epoch base h k kept is
last-epoch base (installed r n ∷ h) k kept is =
    let same : n ≡ k = cc (is) in
    let epoch : n.epoch ≡ k.epoch = ap (λ (j : Key). j.epoch) same in
    let next = kept.0 in
    omega arith
last-epoch base (began f ∷ h) k kept is = last-epoch base h k kept.1 is

-- no key was installed whose epoch is later
pub none-later : (base : ℕ) (h : List Keying) (e : ℕ) (test : ℕ → Bool) → KeepsRules base h → base + install_count h ≤ e → list_any (λ k. nat_lt e k.epoch && test k.epoch) (installs h) ≡ false
none-later base [] e test kept most = refl
none-later base (ticked s ∷ h) e test kept most = none-later base h e test kept most
none-later base (installed r n ∷ h) e test kept most =
    let next = kept.0 in
    let not_later : nat_lt e n.epoch ≡ false = le-ltb e n.epoch (omega arith) in
    rw not_later (none-later base h e test kept.2 (omega arith))
none-later base (began f ∷ h) e test kept most = none-later base h e test kept.1 most

-- a key that may begin is the latest one
pub record MayBegin (h : List Keying) (e : ℕ) : Type 0 where
  pub key : Key
  pub latest : latest h ≡ Some key
  pub epoch : key.epoch ≡ e
  pub unbegun : has_begun h e ≡ false

pub may-begin : (h : List Keying) (e : ℕ) → may_begin h e ≡ true → MayBegin h e
may-begin h e may =
    by_option (latest h)
    (λ none. let never = rw none at may in absurd (cc (never)))
    (λ k is. let both = and_parts (k.epoch == e) (not (has_begun h e)) (rw is at may) in
    record { key = k; latest = is; epoch = eqb-true k.epoch e both.0; unbegun = not-true (has_begun h e) both.1 })

-- what is found in a list passes the test
pub find-passes : {A : Type 0} (test : A → Bool) (xs : List A) (a : A) → find test xs ≡ Some a → test a ≡ true
find-passes test [] a is = cc
find-passes test (x ∷ xs) a is =
    by_test (test x)
    (λ yes. let first = rw yes at is in let same : x ≡ a = cc (first) in rw (← same) yes)
    (λ no. let later = rw no at is in find-passes test xs a later)

-- the latest key has the last epoch
pub latest-epoch : (base : ℕ) (h : List Keying) (k : Key) → KeepsRules base h → latest h ≡ Some k → k.epoch ≡ base + install_count h
unfolding latest
latest-epoch base h k kept is =
    by_option (last_key h)
    (λ none. let never = rw none at is in absurd (cc (never)))
    (λ l last. let found = rw last at is in
    let same = eqb-true k.epoch l.epoch (find-passes (has_epoch l.epoch) (received h) k found) in
    let epoch = last-epoch base h l kept last in
    omega arith)

-- no later epoch has begun
pub begun-upto : (base : ℕ) (h : List Keying) (e : ℕ) → KeepsRules base h → has_begun h e ≡ true → e ≤ base + install_count h
begun-upto base [] e kept b = absurd (cc (b))
begun-upto base (ticked s ∷ h) e kept b = begun-upto base h e kept b
begun-upto base (installed r n ∷ h) e kept b = let earlier = begun-upto base h e kept.2 b in omega arith
begun-upto base (began f ∷ h) e kept b =
    by_test (f == e)
    (λ yes. let may = may-begin h f kept.0 in
    let epoch = latest-epoch base h may.key kept.1 may.latest in
    let same = eqb-true f e yes in
    let of = may.epoch in
    omega arith)
    (λ no. let earlier = rw no at b in begun-upto base h e kept.1 earlier)
