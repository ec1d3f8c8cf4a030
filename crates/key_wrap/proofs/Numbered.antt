-- a number that is added twice is gone
use Rattle.std.proofs.Common.{◌≡◌, ℕ, zero, suc, ◌+◌, List, [], ◌∷◌, ◌++◌, length, take, drop, replicate, bit_xor, refl, ap, ◌∙◌, arith}
use Rattle.std.specs.Int.Bits.{xor_zero_r}
use Rattle.std.specs.Int.{w64, to_be_bytes}
use Rattle.std.proofs.lemmas.List.{length-append, length-take-le, length-drop, take_at, drop_at, take-append-drop}
use Rattle.std.proofs.lemmas.Simd.{length-zip2}
use Rattle.aes_block.specs.Octet.{octets_sum}
use Rattle.aes_block.proofs.Public.{octets_sum-twice}
use Rattle.key_wrap.specs.Wrap.{numbered}

pub length-first : (block : List ℕ) (number : ℕ) → length block ≡ 16 → length (octets_sum (take 8 block) (to_be_bytes w64 number)) ≡ 8
length-first block number h =
    let e : length (take 8 block) ≡ 8 = length-take-le 8 block (omega arith) in
    length-zip2 bit_xor (take 8 block) (to_be_bytes w64 number) e ∙ e

pub length-numbered : (block : List ℕ) (number : ℕ) → length block ≡ 16 → length (numbered block number) ≡ 16
length-numbered block number h =
    rw length-append (omega (arith, length-first block number h, length-drop 8 block))

pub numbered-numbered : (block : List ℕ) (number : ℕ) → length block ≡ 16 → numbered (numbered block number) number ≡ block
numbered-numbered block number h =
    let octets = to_be_bytes w64 number in
    let first : take 8 (numbered block number) ≡ octets_sum (take 8 block) octets =
    take_at (octets_sum (take 8 block) octets) (drop 8 block) 8 (length-first block number h) in
    let second : drop 8 (numbered block number) ≡ drop 8 block =
    drop_at (octets_sum (take 8 block) octets) (drop 8 block) 8 (length-first block number h) in
    let back : octets_sum (octets_sum (take 8 block) octets) octets ≡ take 8 block =
    octets_sum-twice (take 8 block) octets (length-take-le 8 block (omega arith)) in
    rw (first, second, back) (take-append-drop 8 block)

-- zeros add nothing
zeros_added : (block : List ℕ) (n : ℕ) → length block ≡ n → octets_sum block (replicate n 0) ≡ block
zeros_added [] n h = refl
zeros_added (x ∷ block) zero h = absurd (omega (arith, h))
zeros_added (x ∷ block) (suc n) h = λ i. xor_zero_r x i ∷ zeros_added block n (omega (arith, h)) i

-- octets and zeros, added to a block, are added to the front of it
pub front_added : (block octets : List ℕ) (n : ℕ) → length block ≡ length octets + n
    → octets_sum block (octets ++ replicate n 0) ≡ octets_sum (take (length octets) block) octets ++ drop (length octets) block
front_added block [] n h = zeros_added block n (omega (arith, h))
front_added [] (y ∷ octets) n h = absurd (omega (arith, h))
front_added (x ∷ block) (y ∷ octets) n h = ap (λ sum. bit_xor x y ∷ sum) (front_added block octets n (omega (arith, h)))
