-- A card is what its words hold.
use Rattle.std.proofs.Common.{◌≡◌, ℕ, zero, suc, ◌+◌, ◌-◌, ◌*◌, ◌/◌, ◌<◌, ◌≤◌, Bool, true, false, List, [], ◌∷◌, ◌++◌, length, get_or, take, drop, refl, sym, ap, ◌∙◌, subst, arith, length-drop, length-take, take-append-drop, take_all, drop-drop, get_or-drop, get_or-take, if◌then◌else◌}
use Rattle.std.proofs.lemmas.Nat.{be_bytes_8}
use Rattle.std.specs.Int.{w64, from_be_bytes}
use Rattle.aes_block.specs.declared.secret.Secret.TheVariants.{S128, S256}
use Rattle.association_slots.specs.Cards.{word_at, octets_of, card_in, card_at, cards_given}
use Rattle.association_slots.proofs.Grows.{in_front}
use Rattle.association_slots.specs.declared.view.ControlView.{ControlView}
use Rattle.association_slots.specs.declared.card.Card.{Card}

abbrev pub Small : List ℕ → Type 0
Small xs = (i : ℕ) → get_or xs i 0 < 256

small_take : (n : ℕ) (xs : List ℕ) → Small xs → Small (take n xs)
small_take zero xs small i = omega arith
small_take (suc n) [] small i = omega arith
small_take (suc n) (x ∷ xs) small zero = small 0
small_take (suc n) (x ∷ xs) small (suc i) = small_take n xs (λ j. small (suc j)) i

small_drop : (n : ℕ) (xs : List ℕ) → Small xs → Small (drop n xs)
small_drop n xs small i = subst (λ (x : ℕ). x < 256) (sym (get_or-drop n xs i 0)) (small (n + i))

-- a word reads eight octets
read_eight : (xs : List ℕ) → from_be_bytes w64 xs ≡ from_be_bytes w64 (take 8 xs)
read_eight xs = λ i. from_be_bytes w64 (at 0 (omega arith) i ∷ at 1 (omega arith) i ∷ at 2 (omega arith) i ∷ at 3 (omega arith) i ∷ at 4 (omega arith) i ∷ at 5 (omega arith) i ∷ at 6 (omega arith) i ∷ at 7 (omega arith) i ∷ [])
  where
    at : (i : ℕ) → i < 8 → get_or xs i 0 ≡ get_or (take 8 xs) i 0
    at i l = sym (get_or-take 8 xs i 0 l)

eight : (place : ℕ) (octets : List ℕ) → place + 8 ≤ length octets → Small octets → octets_of (word_at place octets) ≡ take 8 (drop place octets)
eight place octets long small = be_bytes_8 (take 8 (drop place octets)) (word_at place octets) (let l = length-drop place octets in let t = length-take 8 (drop place octets) in omega arith) (small_take 8 (drop place octets) (small_drop place octets small)) (read_eight (drop place octets))

-- eight octets more
more : (place : ℕ) (octets rest : List ℕ) → rest ≡ drop (place + 8) octets → take 8 (drop place octets) ++ rest ≡ drop place octets
more place octets rest is = ap (λ (xs : List ℕ). take 8 (drop place octets) ++ xs) (is ∙ sym (drop-drop 8 place octets)) ∙ take-append-drop 8 (drop place octets)

last : (place : ℕ) (octets : List ℕ) → length octets ≡ place + 8 → take 8 (drop place octets) ≡ drop place octets
last place octets long = take_all 8 (drop place octets) (let l = length-drop place octets in omega arith)

short_octets : (k : List ℕ) → length k ≡ 16 → Small k → octets_of (word_at 0 k) ++ octets_of (word_at 8 k) ≡ k
short_octets k long small = ap (λ (xs : List ℕ). octets_of (word_at 0 k) ++ xs) (eight 8 k (omega arith) small ∙ last 8 k long) ∙ (ap (λ (xs : List ℕ). xs ++ drop 8 k) (eight 0 k (omega arith) small) ∙ more 0 k (drop 8 k) refl)

long_octets : (k : List ℕ) → length k ≡ 32 → Small k → octets_of (word_at 0 k) ++ octets_of (word_at 8 k) ++ octets_of (word_at 16 k) ++ octets_of (word_at 24 k) ≡ k
long_octets k long small =
    let d : octets_of (word_at 24 k) ≡ drop 24 k = eight 24 k (omega arith) small ∙ last 24 k long in
    let c : octets_of (word_at 16 k) ++ octets_of (word_at 24 k) ≡ drop 16 k = (λ i. eight 16 k (omega arith) small i ++ d i) ∙ more 16 k (drop 24 k) refl in
    let b : octets_of (word_at 8 k) ++ octets_of (word_at 16 k) ++ octets_of (word_at 24 k) ≡ drop 8 k = (λ i. eight 8 k (omega arith) small i ++ c i) ∙ more 8 k (drop 16 k) refl in
    (λ i. eight 0 k (omega arith) small i ++ b i) ∙ more 0 k (drop 8 k) refl

pub short_back : (k : List ℕ) (conf : Bool) → length k ≡ 16 → Small k → card_in (word_at 0 k) (word_at 8 k) 0 0 (if conf then 1 else 0) ≡ record { sak = S128 k; conf = conf }
short_back k true long small = ap (λ (xs : List ℕ). let c : Card = record { sak = S128 xs; conf = true } in c) (short_octets k long small)
short_back k false long small = ap (λ (xs : List ℕ). let c : Card = record { sak = S128 xs; conf = false } in c) (short_octets k long small)

pub long_back : (k : List ℕ) (conf : Bool) → length k ≡ 32 → Small k → card_in (word_at 0 k) (word_at 8 k) (word_at 16 k) (word_at 24 k) (2 + (if conf then 1 else 0)) ≡ record { sak = S256 k; conf = conf }
long_back k true long small = ap (λ (xs : List ℕ). let c : Card = record { sak = S256 xs; conf = true } in c) (long_octets k long small)
long_back k false long small = ap (λ (xs : List ℕ). let c : Card = record { sak = S256 xs; conf = false } in c) (long_octets k long small)

-- Where the words of a card were stored behind those before

snoc_five : (ws : List ℕ) (a b c d e : ℕ) → ((((ws ++ a ∷ []) ++ b ∷ []) ++ c ∷ []) ++ d ∷ []) ++ e ∷ [] ≡ ws ++ a ∷ b ∷ c ∷ d ∷ e ∷ []
snoc_five [] a b c d e = refl
snoc_five (x ∷ ws) a b c d e = ap (λ (xs : List ℕ). x ∷ xs) (snoc_five ws a b c d e)

five_of : (w : List ℕ) → length w ≡ 5 → get_or w 0 0 ∷ get_or w 1 0 ∷ get_or w 2 0 ∷ get_or w 3 0 ∷ get_or w 4 0 ∷ [] ≡ w
five_of [] l = absurd (omega arith)
five_of (a ∷ []) l = absurd (omega arith)
five_of (a ∷ b ∷ []) l = absurd (omega arith)
five_of (a ∷ b ∷ c ∷ []) l = absurd (omega arith)
five_of (a ∷ b ∷ c ∷ d ∷ []) l = absurd (omega arith)
five_of (a ∷ b ∷ c ∷ d ∷ e ∷ []) l = refl
five_of (a ∷ b ∷ c ∷ d ∷ e ∷ f ∷ w) l = absurd (omega arith)

pub stored_five : (ws w : List ℕ) → length w ≡ 5 → ((((ws ++ get_or w 0 0 ∷ []) ++ get_or w 1 0 ∷ []) ++ get_or w 2 0 ∷ []) ++ get_or w 3 0 ∷ []) ++ get_or w 4 0 ∷ [] ≡ ws ++ w
stored_five ws w l = snoc_five ws (get_or w 0 0) (get_or w 1 0) (get_or w 2 0) (get_or w 3 0) (get_or w 4 0) ∙ ap (λ (xs : List ℕ). ws ++ xs) (five_of w l)

behind : (xs w : List ℕ) (i : ℕ) → get_or (xs ++ w) (length xs + i) 0 ≡ get_or w i 0
behind [] w i = ap (λ (k : ℕ). get_or w k 0) (omega arith)
behind (x ∷ xs) w i = ap (λ (k : ℕ). get_or (x ∷ xs ++ w) k 0) (let e : length (x ∷ xs) + i ≡ suc (length xs + i) = omega arith in e) ∙ behind xs w i

pub card_new : (c : ControlView) (w : List ℕ) (e : ℕ) → 5 * (e - 1) ≡ length c.card_words → card_at (record c { card_words = c.card_words ++ w }) e ≡ card_in (get_or w 0 0) (get_or w 1 0) (get_or w 2 0) (get_or w 3 0) (get_or w 4 0)
card_new c w e is = λ j. card_in (at 0 j) (at 1 j) (at 2 j) (at 3 j) (at 4 j)
  where
    at : (i : ℕ) → get_or (c.card_words ++ w) (5 * (e - 1) + i) 0 ≡ get_or w i 0
    at i = ap (λ (k : ℕ). get_or (c.card_words ++ w) (k + i) 0) is ∙ behind c.card_words w i

-- the card of an epoch that has one, when more words are behind
pub card_stays : (c : ControlView) (more : List ℕ) (epoch : ℕ) → 0 < epoch → epoch ≤ cards_given c → let d : ControlView = record c { card_words = c.card_words ++ more } in card_at d epoch ≡ card_at c epoch
card_stays c more epoch some given = λ i. card_in (word 0 (omega arith) i) (word 1 (omega arith) i) (word 2 (omega arith) i) (word 3 (omega arith) i) (word 4 (omega arith) i)
  where
    word : (j : ℕ) → j < 5 → get_or (c.card_words ++ more) (5 * (epoch - 1) + j) 0 ≡ get_or c.card_words (5 * (epoch - 1) + j) 0
    word j l = let given : epoch ≤ length c.card_words / 5 = given in in_front c.card_words more (5 * (epoch - 1) + j) (omega arith)
