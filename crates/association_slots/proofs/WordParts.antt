-- A word's parts after each change. Nothing above this file opens a word.
use Rattle.std.proofs.Common.{◌≡◌, ℕ, zero, suc, ◌+◌, ◌/◌, ◌%◌, ◌^◌, ◌<◌, Bool, true, false, ◌==◌, refl, ap, ◌∙◌, arith, eqb, eq-eqb, ne_eqb}
use Rattle.std.specs.Prelude.{bit_or}
use Rattle.std.specs.Int.Bits.{or_zero_r}
use Rattle.std.proofs.lemmas.Nat.{or_shr, or_mod}
use Rattle.lan_base.specs.AssociationNumbers.{of_bits}
use Rattle.lan_base.specs.declared.association_number.AssociationNumber.{AssociationNumber}
use Rattle.lan_base.specs.declared.association_number.AssociationNumber.TheVariants.{An0, An1, An2, An3}
use Rattle.lan_base.proofs.Public.{number_of-few}
use Rattle.association_slots.specs.Words.{epoch_of, flag_of, next_of, an_of, shown_by, open_word, present_word, absent_word}

pub open_epoch : (e n : ℕ) → n < 2 ^ 39 → epoch_of (open_word e n) ≡ e
open_epoch e n small = omega arith

pub open_flag : (e n : ℕ) → n < 2 ^ 39 → flag_of (open_word e n) ≡ false
open_flag e n small = ne_eqb _ 1 (λ odd. omega arith)

pub open_next : (e n : ℕ) → n < 2 ^ 39 → next_of (open_word e n) ≡ n
open_next e n small = omega arith

same_current : (word e : ℕ) (an : AssociationNumber) (b : Bool) → epoch_of word ≡ e → flag_of word ≡ b → an_of word ≡ an → shown_by word ≡ record { epoch = e; present = b; an = an }
same_current word e an b epoch flag is_an = λ i. record { epoch = epoch i; present = flag i; an = is_an i }

an_by_bits : (w : ℕ) (high low : Bool) → (w / 2 % 2 == 1) ≡ high → (w % 2 == 1) ≡ low → an_of w ≡ of_bits high low
an_by_bits w high low h l = λ i. of_bits (h i) (l i)

present_an : (e : ℕ) (an : AssociationNumber) → an_of (present_word e an) ≡ an
present_an e An0 = an_by_bits (present_word e An0) false false (ne_eqb _ 1 (λ odd. omega arith)) (ne_eqb _ 1 (λ odd. omega arith))
present_an e An1 = an_by_bits (present_word e An1) false true (ne_eqb _ 1 (λ odd. omega arith)) (eq-eqb _ 1 (omega arith))
present_an e An2 = an_by_bits (present_word e An2) true false (eq-eqb _ 1 (omega arith)) (ne_eqb _ 1 (λ odd. omega arith))
present_an e An3 = an_by_bits (present_word e An3) true true (eq-eqb _ 1 (omega arith)) (eq-eqb _ 1 (omega arith))

pub present_shows : (e : ℕ) (an : AssociationNumber) → shown_by (present_word e an) ≡ record { epoch = e; present = true; an = an }
present_shows e an = let few = number_of-few an in same_current (present_word e an) e an true (omega arith) (eq-eqb _ 1 (omega arith)) (present_an e an)

pub absent_shows : (e : ℕ) → shown_by (absent_word e) ≡ record { epoch = e; present = false; an = An0 }
absent_shows e = same_current (absent_word e) e An0 false (omega arith) (ne_eqb _ 1 (λ odd. omega arith)) (an_by_bits (absent_word e) false false (ne_eqb _ 1 (λ odd. omega arith)) (ne_eqb _ 1 (λ odd. omega arith)))

-- The shut bit is set

pub shut_epoch : (w : ℕ) → epoch_of (bit_or w (2 ^ 39)) ≡ epoch_of w
shut_epoch w = or_shr w (2 ^ 39) 40 ∙ or_zero_r _

odd_or : (n : ℕ) → n < 2 → bit_or n 1 ≡ 1
odd_or zero h = refl
odd_or (suc zero) h = refl
odd_or (suc (suc n)) h = absurd (omega arith)

pub shut_flag : (w : ℕ) → flag_of (bit_or w (2 ^ 39)) ≡ true
shut_flag w = eq-eqb _ 1 (ap (λ (n : ℕ). n % 2) (or_shr w (2 ^ 39) 39) ∙ (or_mod (w / 2 ^ 39) 1 1 ∙ odd_or (w / 2 ^ 39 % 2) (omega arith)))

pub shut_next : (w : ℕ) → next_of (bit_or w (2 ^ 39)) ≡ next_of w
shut_next w = or_mod w (2 ^ 39) 39 ∙ or_zero_r _

-- One is added, and stays below bit 39

pub added_epoch : (w : ℕ) → w < 2 ^ 64 → next_of w + 1 < 2 ^ 39 → epoch_of ((w + 1) % 2 ^ 64) ≡ epoch_of w
added_epoch w fits h = omega arith

pub added_next : (w : ℕ) → w < 2 ^ 64 → next_of w + 1 < 2 ^ 39 → next_of ((w + 1) % 2 ^ 64) ≡ next_of w + 1
added_next w fits h = omega arith

pub added_flag : (w : ℕ) → w < 2 ^ 64 → next_of w + 1 < 2 ^ 39 → flag_of ((w + 1) % 2 ^ 64) ≡ flag_of w
added_flag w fits h = ap (λ (n : ℕ). eqb (n % 2) 1) (omega arith)
