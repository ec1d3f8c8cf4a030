-- The products of a block with every four bits.
use Rattle.std.proofs.Common.{◌≡◌, ℕ, zero, suc, ◌<◌, Bool, true, false, List, [], ◌∷◌, length, sym, ap, ◌∙◌, arith, bit_xor}
use Rattle.std.specs.Prelude.{slice_index}
use Rattle.std.specs.Int.Bits.{xor_zero_r}
use Rattle.aes_block.specs.Product.{sum_of, times_x, product}
use Rattle.gcm_core.specs.Blocks.{block_bits}
use Rattle.gcm_core.specs.Ghash.{four_places, reduction}
use Rattle.gcm_core.specs.inside.Tables.{AreProducts}
use Rattle.gcm_core.proofs.Products.{block_bits-xor, block_bits-zero, length-block_bits, length-reduction, length-times_x, sum_of-zeros}
use Rattle.gcm_core.proofs.Powers.{product-padded}

-- ---- rows

skip : (v s p : ℕ) (us : List Bool) → block_bits s ≡ times_x reduction (block_bits v)
    → block_bits p ≡ product reduction us (block_bits s) → block_bits p ≡ product reduction (false ∷ us) (block_bits v)
skip v s p us e h = h ∙ ap (product reduction us) e

taken : (v s p : ℕ) (us : List Bool) → block_bits s ≡ times_x reduction (block_bits v)
    → block_bits p ≡ product reduction us (block_bits s) → block_bits (bit_xor v p) ≡ product reduction (true ∷ us) (block_bits v)
taken v s p us e h = block_bits-xor v p ∙ ap (sum_of (block_bits v)) (h ∙ ap (product reduction us) e)

alone : (v s : ℕ) (us : List Bool) → block_bits s ≡ times_x reduction (block_bits v)
    → block_bits 0 ≡ product reduction us (block_bits s) → block_bits v ≡ product reduction (true ∷ us) (block_bits v)
alone v s us e h = ap block_bits (sym (xor_zero_r v)) ∙ taken v s 0 us e h

length-next : (v : ℕ) → length (times_x reduction (block_bits v)) ≡ 128
length-next v = length-times_x reduction (block_bits v) (length-reduction ∙ sym (length-block_bits v)) ∙ length-block_bits v

last0 : (v : ℕ) → block_bits 0 ≡ product reduction (false ∷ []) (block_bits v)
last0 v = block_bits-zero (times_x reduction (block_bits v)) (length-next v)

last1 : (v : ℕ) → block_bits v ≡ product reduction (true ∷ []) (block_bits v)
last1 v = sym (sum_of-zeros (block_bits v) (times_x reduction (block_bits v)) (length-block_bits v ∙ sym (length-next v)))

pub rows_of : (v s t f : ℕ) → block_bits s ≡ times_x reduction (block_bits v) → block_bits t ≡ times_x reduction (block_bits s)
    → block_bits f ≡ times_x reduction (block_bits t)
    → AreProducts (block_bits v) (0 ∷ f ∷ t ∷ (bit_xor t f) ∷ s ∷ (bit_xor s f) ∷ (bit_xor s t) ∷ (bit_xor s (bit_xor t f)) ∷ v ∷ (bit_xor v f) ∷ (bit_xor v t) ∷ (bit_xor v (bit_xor t f)) ∷ (bit_xor v s) ∷ (bit_xor v (bit_xor s f)) ∷ (bit_xor v (bit_xor s t)) ∷ (bit_xor v (bit_xor s (bit_xor t f))) ∷ [])
unfolding AreProducts
rows_of v s t f es et ef =
    at
  where
    r0 : block_bits 0 ≡ product reduction (false ∷ []) (block_bits f)
    r0 = last0 f

    r1 : block_bits f ≡ product reduction (true ∷ []) (block_bits f)
    r1 = last1 f

    r00 : block_bits 0 ≡ product reduction (false ∷ false ∷ []) (block_bits t)
    r00 = skip t f 0 (false ∷ []) ef r0

    r01 : block_bits f ≡ product reduction (false ∷ true ∷ []) (block_bits t)
    r01 = skip t f f (true ∷ []) ef r1

    r10 : block_bits t ≡ product reduction (true ∷ false ∷ []) (block_bits t)
    r10 = alone t f (false ∷ []) ef r0

    r11 : block_bits (bit_xor t f) ≡ product reduction (true ∷ true ∷ []) (block_bits t)
    r11 = taken t f f (true ∷ []) ef r1

    r000 : block_bits 0 ≡ product reduction (false ∷ false ∷ false ∷ []) (block_bits s)
    r000 = skip s t 0 (false ∷ false ∷ []) et r00

    r001 : block_bits f ≡ product reduction (false ∷ false ∷ true ∷ []) (block_bits s)
    r001 = skip s t f (false ∷ true ∷ []) et r01

    r010 : block_bits t ≡ product reduction (false ∷ true ∷ false ∷ []) (block_bits s)
    r010 = skip s t t (true ∷ false ∷ []) et r10

    r011 : block_bits (bit_xor t f) ≡ product reduction (false ∷ true ∷ true ∷ []) (block_bits s)
    r011 = skip s t (bit_xor t f) (true ∷ true ∷ []) et r11

    r100 : block_bits s ≡ product reduction (true ∷ false ∷ false ∷ []) (block_bits s)
    r100 = alone s t (false ∷ false ∷ []) et r00

    r101 : block_bits (bit_xor s f) ≡ product reduction (true ∷ false ∷ true ∷ []) (block_bits s)
    r101 = taken s t f (false ∷ true ∷ []) et r01

    r110 : block_bits (bit_xor s t) ≡ product reduction (true ∷ true ∷ false ∷ []) (block_bits s)
    r110 = taken s t t (true ∷ false ∷ []) et r10

    r111 : block_bits (bit_xor s (bit_xor t f)) ≡ product reduction (true ∷ true ∷ true ∷ []) (block_bits s)
    r111 = taken s t (bit_xor t f) (true ∷ true ∷ []) et r11

    r0000 : block_bits 0 ≡ product reduction (false ∷ false ∷ false ∷ false ∷ []) (block_bits v)
    r0000 = skip v s 0 (false ∷ false ∷ false ∷ []) es r000

    r0001 : block_bits f ≡ product reduction (false ∷ false ∷ false ∷ true ∷ []) (block_bits v)
    r0001 = skip v s f (false ∷ false ∷ true ∷ []) es r001

    r0010 : block_bits t ≡ product reduction (false ∷ false ∷ true ∷ false ∷ []) (block_bits v)
    r0010 = skip v s t (false ∷ true ∷ false ∷ []) es r010

    r0011 : block_bits (bit_xor t f) ≡ product reduction (false ∷ false ∷ true ∷ true ∷ []) (block_bits v)
    r0011 = skip v s (bit_xor t f) (false ∷ true ∷ true ∷ []) es r011

    r0100 : block_bits s ≡ product reduction (false ∷ true ∷ false ∷ false ∷ []) (block_bits v)
    r0100 = skip v s s (true ∷ false ∷ false ∷ []) es r100

    r0101 : block_bits (bit_xor s f) ≡ product reduction (false ∷ true ∷ false ∷ true ∷ []) (block_bits v)
    r0101 = skip v s (bit_xor s f) (true ∷ false ∷ true ∷ []) es r101

    r0110 : block_bits (bit_xor s t) ≡ product reduction (false ∷ true ∷ true ∷ false ∷ []) (block_bits v)
    r0110 = skip v s (bit_xor s t) (true ∷ true ∷ false ∷ []) es r110

    r0111 : block_bits (bit_xor s (bit_xor t f)) ≡ product reduction (false ∷ true ∷ true ∷ true ∷ []) (block_bits v)
    r0111 = skip v s (bit_xor s (bit_xor t f)) (true ∷ true ∷ true ∷ []) es r111

    r1000 : block_bits v ≡ product reduction (true ∷ false ∷ false ∷ false ∷ []) (block_bits v)
    r1000 = alone v s (false ∷ false ∷ false ∷ []) es r000

    r1001 : block_bits (bit_xor v f) ≡ product reduction (true ∷ false ∷ false ∷ true ∷ []) (block_bits v)
    r1001 = taken v s f (false ∷ false ∷ true ∷ []) es r001

    r1010 : block_bits (bit_xor v t) ≡ product reduction (true ∷ false ∷ true ∷ false ∷ []) (block_bits v)
    r1010 = taken v s t (false ∷ true ∷ false ∷ []) es r010

    r1011 : block_bits (bit_xor v (bit_xor t f)) ≡ product reduction (true ∷ false ∷ true ∷ true ∷ []) (block_bits v)
    r1011 = taken v s (bit_xor t f) (false ∷ true ∷ true ∷ []) es r011

    r1100 : block_bits (bit_xor v s) ≡ product reduction (true ∷ true ∷ false ∷ false ∷ []) (block_bits v)
    r1100 = taken v s s (true ∷ false ∷ false ∷ []) es r100

    r1101 : block_bits (bit_xor v (bit_xor s f)) ≡ product reduction (true ∷ true ∷ false ∷ true ∷ []) (block_bits v)
    r1101 = taken v s (bit_xor s f) (true ∷ false ∷ true ∷ []) es r101

    r1110 : block_bits (bit_xor v (bit_xor s t)) ≡ product reduction (true ∷ true ∷ true ∷ false ∷ []) (block_bits v)
    r1110 = taken v s (bit_xor s t) (true ∷ true ∷ false ∷ []) es r110

    r1111 : block_bits (bit_xor v (bit_xor s (bit_xor t f))) ≡ product reduction (true ∷ true ∷ true ∷ true ∷ []) (block_bits v)
    r1111 = taken v s (bit_xor s (bit_xor t f)) (true ∷ true ∷ true ∷ []) es r111

    at : (n : ℕ) → n < 16 → block_bits (slice_index (0 ∷ f ∷ t ∷ (bit_xor t f) ∷ s ∷ (bit_xor s f) ∷ (bit_xor s t) ∷ (bit_xor s (bit_xor t f)) ∷ v ∷ (bit_xor v f) ∷ (bit_xor v t) ∷ (bit_xor v (bit_xor t f)) ∷ (bit_xor v s) ∷ (bit_xor v (bit_xor s f)) ∷ (bit_xor v (bit_xor s t)) ∷ (bit_xor v (bit_xor s (bit_xor t f))) ∷ []) n) ≡ product reduction (four_places n) (block_bits v)
    at zero h = r0000 ∙ sym (product-padded (false ∷ false ∷ false ∷ false ∷ []) (block_bits v) 124 (length-block_bits v))
    at (suc zero) h = r0001 ∙ sym (product-padded (false ∷ false ∷ false ∷ true ∷ []) (block_bits v) 124 (length-block_bits v))
    at (suc (suc zero)) h = r0010 ∙ sym (product-padded (false ∷ false ∷ true ∷ false ∷ []) (block_bits v) 124 (length-block_bits v))
    at (suc (suc (suc zero))) h = r0011 ∙ sym (product-padded (false ∷ false ∷ true ∷ true ∷ []) (block_bits v) 124 (length-block_bits v))
    at (suc (suc (suc (suc zero)))) h = r0100 ∙ sym (product-padded (false ∷ true ∷ false ∷ false ∷ []) (block_bits v) 124 (length-block_bits v))
    at (suc (suc (suc (suc (suc zero))))) h = r0101 ∙ sym (product-padded (false ∷ true ∷ false ∷ true ∷ []) (block_bits v) 124 (length-block_bits v))
    at (suc (suc (suc (suc (suc (suc zero)))))) h = r0110 ∙ sym (product-padded (false ∷ true ∷ true ∷ false ∷ []) (block_bits v) 124 (length-block_bits v))
    at (suc (suc (suc (suc (suc (suc (suc zero))))))) h = r0111 ∙ sym (product-padded (false ∷ true ∷ true ∷ true ∷ []) (block_bits v) 124 (length-block_bits v))
    at (suc (suc (suc (suc (suc (suc (suc (suc zero)))))))) h = r1000 ∙ sym (product-padded (true ∷ false ∷ false ∷ false ∷ []) (block_bits v) 124 (length-block_bits v))
    at (suc (suc (suc (suc (suc (suc (suc (suc (suc zero))))))))) h = r1001 ∙ sym (product-padded (true ∷ false ∷ false ∷ true ∷ []) (block_bits v) 124 (length-block_bits v))
    at (suc (suc (suc (suc (suc (suc (suc (suc (suc (suc zero)))))))))) h = r1010 ∙ sym (product-padded (true ∷ false ∷ true ∷ false ∷ []) (block_bits v) 124 (length-block_bits v))
    at (suc (suc (suc (suc (suc (suc (suc (suc (suc (suc (suc zero))))))))))) h = r1011 ∙ sym (product-padded (true ∷ false ∷ true ∷ true ∷ []) (block_bits v) 124 (length-block_bits v))
    at (suc (suc (suc (suc (suc (suc (suc (suc (suc (suc (suc (suc zero)))))))))))) h = r1100 ∙ sym (product-padded (true ∷ true ∷ false ∷ false ∷ []) (block_bits v) 124 (length-block_bits v))
    at (suc (suc (suc (suc (suc (suc (suc (suc (suc (suc (suc (suc (suc zero))))))))))))) h = r1101 ∙ sym (product-padded (true ∷ true ∷ false ∷ true ∷ []) (block_bits v) 124 (length-block_bits v))
    at (suc (suc (suc (suc (suc (suc (suc (suc (suc (suc (suc (suc (suc (suc zero)))))))))))))) h = r1110 ∙ sym (product-padded (true ∷ true ∷ true ∷ false ∷ []) (block_bits v) 124 (length-block_bits v))
    at (suc (suc (suc (suc (suc (suc (suc (suc (suc (suc (suc (suc (suc (suc (suc zero))))))))))))))) h = r1111 ∙ sym (product-padded (true ∷ true ∷ true ∷ true ∷ []) (block_bits v) 124 (length-block_bits v))
    at (suc (suc (suc (suc (suc (suc (suc (suc (suc (suc (suc (suc (suc (suc (suc (suc m)))))))))))))))) h = absurd (omega arith)
