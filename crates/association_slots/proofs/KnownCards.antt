-- The card that a seat keeps is one that it read.
use Rattle.std.proofs.Common.{◌≡◌, ◌⊎◌, ℕ, zero, suc, ◌+◌, ◌*◌, ◌<◌, Bool, true, false, ◌&&◌, ◌||◌, eqb, List, [], ◌∷◌, Option, Some, get_or, refl, ap, subst, inl, inr, ⊎_elim, arith, eq-eqb}
use Rattle.std.proofs.lemmas.Bool.{false≢true, eqb-true, and_parts, and_from}
use Rattle.association_slots.specs.Cards.{Knows, card_in}
use Rattle.association_slots.specs.Views.{In}
use Rattle.association_slots.specs.inside.Kept.{IsKnown, was_read, read_five}
use Rattle.association_slots.specs.declared.view.SeatView.{SeatView}
use Rattle.association_slots.specs.declared.worker_seat.Known.{Known}

either : (a b : Bool) → (a || b) ≡ true → (a ≡ true) ⊎ (b ≡ true)
either true b is = inl refl
either false b is = inr is

left_of : (a b : Bool) → a ≡ true → (a || b) ≡ true
left_of true b is = refl
left_of false b is = absurd (false≢true is)

right_of : (a b : Bool) → b ≡ true → (a || b) ≡ true
right_of true b is = refl
right_of false b is = is

pub read_in : (reads : List (ℕ × ℕ)) (word held : ℕ) → was_read reads word held ≡ true → In (word, held) reads
read_in [] word held is = absurd (false≢true is)
read_in (r ∷ rs) word held is = ⊎_elim (λ here. let p = and_parts _ _ here in inl (λ i. (eqb-true r.0 word p.0 i, eqb-true r.1 held p.1 i))) (λ more. inr (read_in rs word held more)) (either ((eqb r.0 word) && (eqb r.1 held)) (was_read rs word held) is)

pub in_read : (reads : List (ℕ × ℕ)) (word held : ℕ) → In (word, held) reads → was_read reads word held ≡ true
in_read [] word held i = absurd i
in_read (r ∷ rs) word held i = ⊎_elim (λ e. left_of _ _ (and_from _ _ (eq-eqb r.0 word (ap (λ (z : ℕ × ℕ). z.0) e)) (eq-eqb r.1 held (ap (λ (z : ℕ × ℕ). z.1) e)))) (λ more. right_of ((eqb r.0 word) && (eqb r.1 held)) _ (in_read rs word held more)) i

pub knows_kept : (reads : List (ℕ × ℕ)) (known : Option Known) (k : Known) (epoch : ℕ) → known ≡ Some k → k.epoch ≡ epoch → IsKnown reads known → Knows reads epoch k.card
knows_kept reads known k epoch is same kept = let w = k.words in (
  get_or w 0 0,
  get_or w 1 0,
  get_or w 2 0,
  get_or w 3 0,
  get_or w 4 0,
  subst (λ (n : ℕ). In (n, get_or w 0 0) reads) (omega (arith, same)) (at 0 (omega arith)),
  at' 1 (omega arith),
  at' 2 (omega arith),
  at' 3 (omega arith),
  at' 4 (omega arith),
  here.1,
)
  where
    here : IsKnown reads (Some k)
    here = subst (IsKnown reads) is kept

    at : (i : ℕ) → i < 5 → In (5 * k.epoch + i, get_or k.words i 0) reads
    at i l = read_in reads (5 * k.epoch + i) (get_or k.words i 0) (here.0 i l)

    at' : (i : ℕ) → i < 5 → In (5 * epoch + i, get_or k.words i 0) reads
    at' i l = subst (λ (n : ℕ). In (5 * n + i, get_or k.words i 0) reads) same (at i l)

-- the five words that were just read
pub knows_read : (v : SeatView) (epoch : ℕ) (words : List ℕ) → Knows (read_five v epoch words).reads epoch (card_in (get_or words 0 0) (get_or words 1 0) (get_or words 2 0) (get_or words 3 0) (get_or words 4 0))
knows_read v epoch words = (
  get_or words 0 0,
  get_or words 1 0,
  get_or words 2 0,
  get_or words 3 0,
  get_or words 4 0,
  inr (inr (inr (inr (inl refl)))),
  inr (inr (inr (inl refl))),
  inr (inr (inl refl)),
  inr (inl refl),
  inl refl,
  refl,
)

pub kept_read : (v : SeatView) (k : Known) → k.card ≡ card_in (get_or k.words 0 0) (get_or k.words 1 0) (get_or k.words 2 0) (get_or k.words 3 0) (get_or k.words 4 0) → IsKnown (read_five v k.epoch k.words).reads (Some k)
kept_read v k is = (λ i l. in_read (read_five v k.epoch k.words).reads (5 * k.epoch + i) (get_or k.words i 0) (at i l), is)
  where
    at : (i : ℕ) → i < 5 → In (5 * k.epoch + i, get_or k.words i 0) (read_five v k.epoch k.words).reads
    at zero l = subst (λ (n : ℕ). In (n, get_or k.words 0 0) (read_five v k.epoch k.words).reads) (let e : 5 * k.epoch ≡ 5 * k.epoch + zero = omega arith in e) (inr (inr (inr (inr (inl refl)))))
    at (suc zero) l = inr (inr (inr (inl refl)))
    at (suc (suc zero)) l = inr (inr (inl refl))
    at (suc (suc (suc zero))) l = inr (inl refl)
    at (suc (suc (suc (suc zero)))) l = inl refl
    at (suc (suc (suc (suc (suc i))))) l = absurd (omega arith)
