-- Moments of a run.
use Rattle.std.proofs.Common.{◌≡◌, ℕ, zero, suc, ◌≤◌, ◌<◌, List, [], ◌∷◌, length, refl, ap, sym}
use Rattle.std.proofs.Common.{◌∙◌, subst, arith}
use Rattle.std.proofs.lemmas.Bool.{lt-ltb, le-ltb, ltb-true, ltb-false}
use Rattle.std.specs.Prelude.{nat_lt}
use Rattle.sak_exchange.proofs.Public.{by_test}
use Rattle.group_safety.specs.Moments.{upto, At}

pub upto-whole : {A : Type 0} (n : ℕ) (r : List A) → length r ≤ n → upto n r ≡ r
unfolding upto
upto-whole n [] h = refl
upto-whole n (x ∷ r) h = rw (lt-ltb (length r) n (omega arith)) refl

pub upto-earlier : {A : Type 0} (n : ℕ) (x : A) (r : List A) → n ≤ length r → upto n (x ∷ r)
    ≡ upto n r
unfolding upto
upto-earlier n x r h = rw (le-ltb (length r) n h) refl

pub length-upto : {A : Type 0} (n : ℕ) (r : List A) → n ≤ length r → length (upto n r) ≡ n
unfolding upto
length-upto n [] h = omega arith
length-upto n (x ∷ r) h =
    by_test (nat_lt (length r) n)
    (λ e. let f = ltb-true (length r) n e in rw e (omega arith))
    (λ e. let f = ltb-false (length r) n e in rw e (length-upto n r f))

pub upto-zero : {A : Type 0} (r : List A) → upto 0 r ≡ []
unfolding upto
upto-zero [] = refl
upto-zero (x ∷ r) = by_test (nat_lt (length r) 0)
    (λ e. let l = ltb-true (length r) 0 e in absurd (omega arith)) (λ e. rw e (upto-zero r))

-- the event between two moments
pub event-at : {A : Type 0} (n : ℕ) (r : List A) → n < length r → (x : A) × At r n x
unfolding upto
event-at n [] h = absurd (omega arith)
event-at n (x ∷ r) h =
    by_test (nat_lt (length r) n)
    (λ e. let f = ltb-true (length r) n e in absurd (omega arith))
    (λ e. let f = ltb-false (length r) n e in
    by_test (nat_lt (length r) (suc n))
    (λ g. let k = ltb-true (length r) (suc n) g in let same : n ≡ length r = omega arith in
    (x, rw (e, g) (ap (λ (t : List _). x ∷ t) (sym (all-here n r (omega arith))))))
    (λ g. let k = ltb-false (length r) (suc n) g in let s = event-at n r k in (s.0, rw (e, g) s.1)))
  where
    all-here : {A : Type 0} (n : ℕ) (r : List A) → length r ≤ n → upto n r ≡ r
    all-here n [] h = refl
    all-here n (x ∷ r) h = rw (lt-ltb (length r) n (omega arith)) refl

-- one event comes at one moment
pub one-event : {A : Type 0} (n : ℕ) (r : List A) (x y : A) → At r n x → At r n y → x ≡ y
one-event n r x y e f = let g = sym e ∙ f in cc (g)

-- what holds of the empty run and is kept by each event holds at each moment
pub along : {A : Type 0} (Q : List A → Type 0) (run : List A) (b : ℕ) → b ≤ length run → Q []
    → ((n : ℕ) (x : A) → n < b → At run n x → Q (upto n run) → Q (x ∷ upto n run)) → Q (upto b run)
along Q run zero high begin step = subst Q (sym (upto-zero run)) begin
along Q run (suc b) high begin step =
    let s = event-at b run high in
    let before = along Q run b (omega arith) begin (λ n x p. step n x (omega arith)) in
    subst Q (sym s.1) (step b s.0 (omega arith) s.1 before)

-- what passes from a run to its front passes to each moment
pub to-upto : {A : Type 0} (Q : List A → Type 0) → ((x : A) (r : List A) → Q (x ∷ r) → Q r)
    → (n : ℕ) (run : List A) → Q run → Q (upto n run)
unfolding upto
to-upto Q back n [] q = q
to-upto Q back n (x ∷ r) q =
    by_test (nat_lt (length r) n) (λ e. rw e q) (λ e. rw e (to-upto Q back n r (back x r q)))
