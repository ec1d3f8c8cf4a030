-- Proofs along moments, and histories that grow.
use Rattle.std.proofs.Common.{◌≡◌, ℕ, zero, suc, ◌+◌, ◌≤◌, ◌<◌}
use Rattle.std.proofs.Common.{List, [], ◌∷◌, ◌++◌, refl, ap, sym, ◌∙◌, subst, arith}
use Rattle.std.proofs.lemmas.Bool.{cases_lt}
use Rattle.std.proofs.lemmas.List.{append_assoc}
use Rattle.sak_exchange.specs.Histories.{Keying, ticked, installed, began, clock}
use Rattle.sak_exchange.specs.Lives.{IsQuiet}
use Rattle.group_safety.proofs.rollover.Course.{Course, IsCourse, Lives, GrowsQuietly}
use Rattle.group_safety.proofs.rollover.Course.{RestsThrough}
use Rattle.group_safety.proofs.Members.{by_sum}

-- what holds at a moment and passes from each to the next holds at every later one
pub from_to : (P : ℕ → Type 0) (a b : ℕ) → a ≤ b → P a
    → ((n : ℕ) → a ≤ n → n < b → P n → P (suc n)) → P b
from_to P a zero low begin step = let same : a ≡ zero = omega arith in subst P same begin
from_to P a (suc b) low begin step =
    by_sum (cases_lt b a)
    (λ l. let same : a ≡ suc b = omega arith in subst P same begin)
    (λ l. step b l (omega arith) (from_to P a b l begin (λ n p q. step n p (omega arith))))

pub clock-append : (new h : List Keying) → clock (new ++ h) ≡ clock new + clock h
clock-append [] h = omega arith
clock-append (ticked s ∷ new) h = let r = clock-append new h in omega arith
clock-append (installed r k ∷ new) h = clock-append new h
clock-append (began e ∷ new) h = clock-append new h

pub quiet-append : (new h : List Keying) → IsQuiet new → IsQuiet h → IsQuiet (new ++ h)
quiet-append [] h q p = p
quiet-append (ticked s ∷ new) h q p = (q.0, quiet-append new h q.1 p)
quiet-append (installed r k ∷ new) h q p = absurd q
quiet-append (began e ∷ new) h q p = quiet-append new h q p

-- a history that grew
pub record Grown (before now : List Keying) : Type 0 where
  pub new : List Keying
  pub whole : now ≡ new ++ before

pub grown : (c : Course) (u a b : ℕ) → a ≤ b → b ≤ c.end → Lives c u a
    → Grown (c.keys u a) (c.keys u b)
grown c u a b low high life =
    from_to (λ n. Grown (c.keys u a) (c.keys u n)) a b low (record { new = []; whole = refl })
    (λ n p q h. let s = life.step n p (omega arith) in
    record {
      new = s.new ++ h.new;
      whole =
          s.whole ∙ ap (λ t. s.new ++ t) h.whole ∙ sym (append_assoc s.new h.new (c.keys u a));
    })

pub grown-quietly : (c : Course) (u a b : ℕ) → a ≤ b → RestsThrough c u a b
    → GrowsQuietly (c.keys u a) (c.keys u b)
grown-quietly c u a b low rests =
    from_to (λ n. GrowsQuietly (c.keys u a) (c.keys u n)) a b low
    (record { new = []; whole = refl; quiet = tt })
    (λ n p q h. let s = rests.on n p q in
    record {
      new = s.new ++ h.new;
      whole =
          s.whole ∙ ap (λ t. s.new ++ t) h.whole ∙ sym (append_assoc s.new h.new (c.keys u a));
      quiet = quiet-append s.new h.new s.quiet h.quiet;
    })

pub clock-rises : (c : Course) (u a b : ℕ) → a ≤ b → b ≤ c.end → Lives c u a
    → clock (c.keys u a) ≤ clock (c.keys u b)
clock-rises c u a b low high life =
    let g = grown c u a b low high life in
    let e = ap clock g.whole ∙ clock-append g.new (c.keys u a) in omega arith

pub rounds-rise : (c : Course) (a b : ℕ) → a ≤ b → b ≤ c.end → IsCourse c
    → c.rounds a ≤ c.rounds b
rounds-rise c a b low high is =
    from_to (λ n. c.rounds a ≤ c.rounds n) a b low (omega arith)
    (λ n p q h. let r = is.rise n (omega arith) in omega arith)

pub lives-later : (c : Course) (u a b : ℕ) → a ≤ b → Lives c u a → Lives c u b
lives-later c u a b low life = record { step = λ n p q. life.step n (omega arith) q }

pub rests-part : (c : Course) (u a b m n : ℕ) → a ≤ m → n ≤ b → RestsThrough c u a b
    → RestsThrough c u m n
rests-part c u a b m n low high rests =
    record { on = λ k p q. rests.on k (omega arith) (omega arith) }

pub rests-join : (c : Course) (u a b m : ℕ) → RestsThrough c u a b → RestsThrough c u b m
    → RestsThrough c u a m
rests-join c u a b m r s =
    record { on = λ n p q. by_sum (cases_lt n b) (λ l. r.on n p l) (λ l. s.on n l q) }
