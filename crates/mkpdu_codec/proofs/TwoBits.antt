-- Association numbers and confidentiality offsets are read again from their two bits.
use Rattle.std.proofs.Common.{◌≡◌, ℕ, zero, suc, ◌+◌, ◌*◌, ◌/◌, ◌%◌, ◌<◌, Bool, true, false, eqb, refl, ◌∙◌, arith}
use Rattle.lan_base.specs.declared.association_number.AssociationNumber.{AssociationNumber}
use Rattle.lan_base.specs.declared.association_number.AssociationNumber.TheVariants.{An0, An1, An2, An3}
use Rattle.lan_base.specs.AssociationNumbers.{number_of, of_bits}
use Rattle.mkpdu_codec.specs.declared.offset.ConfidentialityOffset.{ConfidentialityOffset}
use Rattle.mkpdu_codec.specs.declared.offset.ConfidentialityOffset.TheVariants as offsets
use Rattle.mkpdu_codec.specs.Offsets.{offset_bits, offset_of_bits}
use Rattle.mkpdu_codec.specs.Fields.{an_in, offset_in}

-- ---- the bits of what is read of bits

-- a value of two bits that counts them counts two places as their number
counted : (value : Bool → Bool → ℕ) → value false false ≡ 0 → value false true ≡ 1 → value true false ≡ 2 → value true true ≡ 3
    → (high low : ℕ) → high < 2 → low < 2 → value (eqb high 1) (eqb low 1) ≡ high * 2 + low
counted value a b c d zero zero h l = a
counted value a b c d zero (suc zero) h l = b
counted value a b c d (suc zero) zero h l = c
counted value a b c d (suc zero) (suc zero) h l = d
counted value a b c d zero (suc (suc low)) h l = absurd (omega (arith, l))
counted value a b c d (suc zero) (suc (suc low)) h l = absurd (omega (arith, l))
counted value a b c d (suc (suc high)) low h l = absurd (omega (arith, h))

two_lowest : (value : Bool → Bool → ℕ) → value false false ≡ 0 → value false true ≡ 1 → value true false ≡ 2 → value true true ≡ 3
    → (bits : ℕ) → value (eqb (bits / 2 % 2) 1) (eqb (bits % 2) 1) ≡ bits % 4
two_lowest value a b c d bits = counted value a b c d (bits / 2 % 2) (bits % 2) (omega arith) (omega arith) ∙ omega arith

pub number_of-an_in : (bits : ℕ) → number_of (an_in bits) ≡ bits % 4
number_of-an_in bits = two_lowest (λ high low. number_of (of_bits high low)) refl refl refl refl bits

pub offset_bits-offset_in : (bits : ℕ) → offset_bits (offset_in bits) ≡ bits % 4
offset_bits-offset_in bits = two_lowest (λ high low. offset_bits (offset_of_bits high low)) refl refl refl refl bits

-- ---- what is read of the bits of a value

made_of : {A : Type 0} (make : Bool → Bool → A) (bits high low : ℕ) → bits / 2 % 2 ≡ high → bits % 2 ≡ low
    → make (eqb (bits / 2 % 2) 1) (eqb (bits % 2) 1) ≡ make (eqb high 1) (eqb low 1)
made_of make bits high low h l = λ i. make (eqb (h i) 1) (eqb (l i) 1)

pub an_in-number_of : (bits : ℕ) (an : AssociationNumber) → bits % 4 ≡ number_of an → an_in bits ≡ an
an_in-number_of bits An0 e = made_of of_bits bits 0 0 (omega (arith, e)) (omega (arith, e))
an_in-number_of bits An1 e = made_of of_bits bits 0 1 (omega (arith, e)) (omega (arith, e))
an_in-number_of bits An2 e = made_of of_bits bits 1 0 (omega (arith, e)) (omega (arith, e))
an_in-number_of bits An3 e = made_of of_bits bits 1 1 (omega (arith, e)) (omega (arith, e))

pub offset_in-offset_bits : (bits : ℕ) (offset : ConfidentialityOffset) → bits % 4 ≡ offset_bits offset → offset_in bits ≡ offset
offset_in-offset_bits bits offsets.None e = made_of offset_of_bits bits 0 0 (omega (arith, e)) (omega (arith, e))
offset_in-offset_bits bits offsets.Octets0 e = made_of offset_of_bits bits 0 1 (omega (arith, e)) (omega (arith, e))
offset_in-offset_bits bits offsets.Octets30 e = made_of offset_of_bits bits 1 0 (omega (arith, e)) (omega (arith, e))
offset_in-offset_bits bits offsets.Octets50 e = made_of offset_of_bits bits 1 1 (omega (arith, e)) (omega (arith, e))

-- ---- the bits are two

pub offset_bits-few : (offset : ConfidentialityOffset) → offset_bits offset < 4
offset_bits-few offsets.None = omega arith
offset_bits-few offsets.Octets0 = omega arith
offset_bits-few offsets.Octets30 = omega arith
offset_bits-few offsets.Octets50 = omega arith
