-- The octets of words, of their sums and of a rotation.
use Rattle.std.proofs.Common.{◌≡◌, ℕ, zero, suc, ◌+◌, ◌*◌, ◌/◌, ◌%◌, ◌^◌, ◌<◌, [], ◌∷◌, ◌++◌, take, drop, get_or, refl, sym, ap, ◌∙◌, arith, bit_or, bit_xor}
use Rattle.std.specs.Int.{w32, from_be_bytes, rotate_left}
use Rattle.std.proofs.lemmas.Nat.{be_bytes_4, or_shifted, xor_mod, xor_shr}
use Rattle.aes_block.specs.Octet.{octets_sum}
use Rattle.aes_block.specs.Column.{octets_of}
use Rattle.aes_block.proofs.Octets.{AreOctets}

-- the word with these octets
abbrev pub word : ℕ → ℕ → ℕ → ℕ → ℕ
word a b c d = ((a * 2 ^ 8 + b) * 2 ^ 8 + c) * 2 ^ 8 + d

each_fits : (a b c d : ℕ) → a < 256 → b < 256 → c < 256 → d < 256 → (i : ℕ) → get_or (a ∷ b ∷ c ∷ d ∷ []) i 0 < 256
each_fits a b c d fa fb fc fd zero = fa
each_fits a b c d fa fb fc fd (suc zero) = fb
each_fits a b c d fa fb fc fd (suc (suc zero)) = fc
each_fits a b c d fa fb fc fd (suc (suc (suc zero))) = fd
each_fits a b c d fa fb fc fd (suc (suc (suc (suc i)))) = omega arith

pub octets_of-word : (a b c d : ℕ) → a < 256 → b < 256 → c < 256 → d < 256 → octets_of (word a b c d) ≡ a ∷ b ∷ c ∷ d ∷ []
unfolding octets_of
octets_of-word a b c d fa fb fc fd =
    be_bytes_4 (a ∷ b ∷ c ∷ d ∷ []) (word a b c d) refl (each_fits a b c d fa fb fc fd) (omega arith)

-- the octets of a word that was made from octets
pub octets_of-from_bytes : (n a b c d : ℕ) → a < 256 → b < 256 → c < 256 → d < 256
    → n ≡ from_be_bytes w32 (a ∷ b ∷ c ∷ d ∷ []) → octets_of n ≡ a ∷ b ∷ c ∷ d ∷ []
unfolding octets_of
octets_of-from_bytes n a b c d fa fb fc fd is = be_bytes_4 (a ∷ b ∷ c ∷ d ∷ []) n refl (each_fits a b c d fa fb fc fd) is

-- the octets of a number of 32 bits, and the number as their word
pub record Reads (n a b c d : ℕ) : Type 0 where
  pub is : n ≡ word a b c d
  pub octets : octets_of n ≡ a ∷ b ∷ c ∷ d ∷ []
  pub a_fits : a < 256
  pub b_fits : b < 256
  pub c_fits : c < 256
  pub d_fits : d < 256

pub reads : (n : ℕ) → n < 2 ^ 32 → Reads n (n / 16777216 % 256) (n / 65536 % 256) (n / 256 % 256) (n % 256)
unfolding octets_of
reads n fits = record {
  is = omega arith;
  octets = refl;
  a_fits = omega arith;
  b_fits = omega arith;
  c_fits = omega arith;
  d_fits = omega arith;
}

-- any number's octets are octets
pub octets_of-AreOctets : (n : ℕ) → AreOctets (octets_of n)
unfolding octets_of
octets_of-AreOctets n = (omega arith, (omega arith, (omega arith, (omega arith, tt))))

xor_octet : (m n k : ℕ) → bit_xor m n / 2 ^ k % 2 ^ 8 ≡ bit_xor (m / 2 ^ k % 2 ^ 8) (n / 2 ^ k % 2 ^ 8)
xor_octet m n k = ap (λ x. x % 2 ^ 8) (xor_shr m n k) ∙ xor_mod (m / 2 ^ k) (n / 2 ^ k) 8

-- the octets of a sum are the sums of the octets
pub octets_of-xor : (m n : ℕ) → octets_of (bit_xor m n) ≡ octets_sum (octets_of m) (octets_of n)
unfolding octets_of
octets_of-xor m n = λ i. xor_octet m n 24 i ∷ xor_octet m n 16 i ∷ xor_octet m n 8 i ∷ xor_mod m n 8 i ∷ []

-- a rotation by one octet
module _ (a b c d : ℕ) (fa : a < 256) (fb : b < 256) (fc : c < 256) (fd : d < 256) where
  rotated_8 : rotate_left w32 (word a b c d) 8 ≡ word b c d a
  rotated_8 =
      let low : word a b c d * 256 % 4294967296 ≡ word 0 b c d * 2 ^ 8 = omega arith in
      let high : word a b c d / 16777216 ≡ a = omega arith in
      (λ i. bit_or (low i) (high i)) ∙ or_shifted (word 0 b c d) 8 a fa ∙ omega arith

-- the octets of a rotation by one octet
pub octets_of-rotate_8 : (n : ℕ) → n < 2 ^ 32 → octets_of (rotate_left w32 n 8) ≡ drop 1 (octets_of n) ++ take 1 (octets_of n)
octets_of-rotate_8 n fits =
    let r = reads n fits in
    ap (λ m. octets_of (rotate_left w32 m 8)) r.is ∙ ap octets_of (rotated_8 _ _ _ _ r.a_fits r.b_fits r.c_fits r.d_fits)
    ∙ octets_of-word _ _ _ _ r.b_fits r.c_fits r.d_fits r.a_fits ∙ sym (ap (λ xs. drop 1 xs ++ take 1 xs) r.octets)
