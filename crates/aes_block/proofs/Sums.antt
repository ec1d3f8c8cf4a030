-- the sum of two blocks, place by place
use Rattle.std.proofs.Common.{◌≡◌, ℕ, ◌<◌, List, length, get_or, bit_xor, arith}
use Rattle.std.proofs.lemmas.List.{ext_get_or}
use Rattle.std.proofs.lemmas.Simd.{length-zip2, get_or-zip2}
use Rattle.aes_block.specs.Octet.{octets_sum}

-- the list that has the sum at each place
pub same_sum : (s a b : List ℕ) → length s ≡ length a → length a ≡ length b
    → ((k : ℕ) → k < length a → get_or s k 0 ≡ bit_xor (get_or a k 0) (get_or b k 0)) → s ≡ octets_sum a b
same_sum s a b e f at =
    ext_get_or 0 s (octets_sum a b) (omega (arith, length-zip2 bit_xor a b f))
    (λ k h.
    let t = get_or-zip2 bit_xor a b k 0 0 0 (omega arith) (omega arith) in
    let u = at k (omega arith) in
    cc)
