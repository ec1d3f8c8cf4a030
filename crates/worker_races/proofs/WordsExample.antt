-- The words of a station under one key, as control knows them: before the key begins, and while it
-- transmits and so many of its packet numbers were told.
use Rattle.std.proofs.Common.{◌≡◌, ◌-◌, ℕ, Bool, List, [], ◌∷◌, length, inl, inr, refl, arith}
use Rattle.std.specs.Prelude.{slice_index}
use Rattle.association_slots.specs.Cards.{Knows, card_in}
use Rattle.association_slots.specs.Learned.{Learned}
use Rattle.association_slots.specs.Views.{In}
use Rattle.association_slots.specs.declared.card.Card.{Card}
use Rattle.association_slots.specs.declared.view.Addition.{Addition}
use Rattle.association_slots.specs.declared.view.ControlView.{ControlView}
use Rattle.worker_races.proofs.Cases.{five}
use Rattle.worker_races.proofs.FirstKey.{AreFew, sends_with, waits_with}
use Rattle.worker_races.proofs.FirstKey as one_key

-- ---- the views

-- the words of the key's card
abbrev pub words : List ℕ
words = 0 ∷ 1 ∷ 0 ∷ 0 ∷ 1 ∷ []

-- a seat read them
abbrev pub reads : List (ℕ × ℕ)
reads = (9, 1) ∷ (8, 0) ∷ (7, 0) ∷ (6, 1) ∷ (5, 0) ∷ []

-- the key has its card, and has not begun
abbrev pub waits : List Bool → ControlView
waits out = waits_with words out []

-- it transmits under AN 0, as epoch 1
abbrev pub sends : List Bool → List Addition → List ℕ → List (ℕ × ℕ) → ControlView
sends out told notes read =
    sends_with (record { cards = words; seen = 1; loads = []; out = out; told = told; notes = notes; read = read })

-- ---- its card

abbrev pub its_card : Card
its_card = card_in 0 1 0 0 1

pub its-words : Knows reads 1 its_card
its-words = (
  0,
  1,
  0,
  0,
  1,
  inr (inr (inr (inr (inl refl)))),
  inr (inr (inr (inl refl))),
  inr (inr (inl refl)),
  inr (inl refl),
  inl refl,
  refl,
)

-- ---- what control learned

pub waits-learned : (out : List Bool) → length out ≡ 8 → Learned (waits out)
waits-learned out eight = one_key.waits-learned words out [] eight (λ e i. absurd i)

pub sends-learned : (out : List Bool) (told : List Addition) (notes : List ℕ) (read : List (ℕ × ℕ))
    → length out ≡ 8 → AreFew told → ((e : ℕ) → In e notes → 0 ≡ e)
    → ((r : ℕ × ℕ) → In r read → In r reads) → Learned (sends out told notes read)
sends-learned out told notes read eight are noted were_read = one_key.sends-learned _ (record {
  enough = omega arith;
  eight = eight;
  claims = are;
  loaded = λ f i. absurd i;
  noted = noted;
  were_read = λ r i. five (λ (q : ℕ × ℕ). slice_index words (q.0 - 5) ≡ q.1) (9, 1) (8, 0) (7, 0) (6, 1) (5, 0) []
      refl refl refl refl refl (λ q j. absurd j) r (were_read r i);
})
