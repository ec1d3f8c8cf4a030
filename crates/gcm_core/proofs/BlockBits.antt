-- The bits of numbers, the highest first, at any width: what `^`, `>>` and the lowest bit are on them.
use Rattle.std.proofs.Common.{◌≡◌, ℕ, zero, suc, ◌+◌, ◌*◌, ◌/◌, ◌%◌, ◌^◌, ◌<◌, ◌≤◌, zero-add, Bool, true, false, cond, eqb, List, [], ◌∷◌, ◌++◌, length, refl, sym, ap, ◌∙◌, arith, bit_xor}
use Rattle.std.proofs.lemmas.Nat.{shr-shr, shr_split, pow-add, mod-pow-add}
use Rattle.std.proofs.Math.Nat.{pow-suc, two-pow-succ}
use Rattle.std.proofs.lemmas.Nat.Bits.{bit_at_xor, bit_at-lt, bit_at_cat_low, bit_at_above, bit_at-suc}
use Rattle.std.specs.Int.{bit_at, byte_at, bytes_high_first}
use Rattle.aes_block.specs.Bits.{has_bit, octet_bits, bits}
use Rattle.aes_block.specs.Product.{bit_sum, sum_of, moved, last_bit}
use Rattle.gcm_core.specs.Blocks.{number_from}

-- the lowest k bits of n, the highest of them first
unfoldable pub bits_high_first : ℕ → ℕ → List Bool
bits_high_first zero n = []
bits_high_first (suc k) n = has_bit n k ∷ bits_high_first k n

-- the sum of two bits
sum_bit : (p q : ℕ) → p < 2 → q < 2 → eqb ((p + q) % 2) 1 ≡ bit_sum (eqb p 1) (eqb q 1)
sum_bit zero zero hp hq = refl
sum_bit zero (suc zero) hp hq = refl
sum_bit (suc zero) zero hp hq = refl
sum_bit (suc zero) (suc zero) hp hq = refl
sum_bit (suc (suc p)) q hp hq = absurd (omega arith)
sum_bit zero (suc (suc q)) hp hq = absurd (omega arith)
sum_bit (suc zero) (suc (suc q)) hp hq = absurd (omega arith)

pub has_bit-xor : (a b k : ℕ) → has_bit (bit_xor a b) k ≡ bit_sum (has_bit a k) (has_bit b k)
has_bit-xor a b k = ap (λ m. eqb m 1) (bit_at_xor a b k) ∙ sum_bit (bit_at a k) (bit_at b k) (bit_at-lt a k) (bit_at-lt b k)

-- `a ^ b` is the sum of the strings
pub bits-xor : (w a b : ℕ) → bits_high_first w (bit_xor a b) ≡ sum_of (bits_high_first w a) (bits_high_first w b)
unfolding bits_high_first
bits-xor zero a b = refl
bits-xor (suc w) a b = λ i. has_bit-xor a b w i ∷ bits-xor w a b i

has_bit-half : (n k : ℕ) → has_bit (n / 2) k ≡ has_bit n (suc k)
has_bit-half n k = ap (λ m. eqb m 1) (sym (bit_at-suc n k))

-- `n >> 1` is the string moved on
moved_half : (w n : ℕ) → moved (has_bit n w) (bits_high_first w n) ≡ bits_high_first w (n / 2)
unfolding bits_high_first
moved_half zero n = refl
moved_half (suc w) n = λ i. sym (has_bit-half n w) i ∷ moved_half w n i

pub bits-half : (w n : ℕ) → n < 2 ^ w → moved false (bits_high_first w n) ≡ bits_high_first w (n / 2)
bits-half w n h =
    let above : has_bit n w ≡ false = ap (λ m. eqb m 1) (bit_at_above n w w h (omega arith)) in
    rw (above) at (moved_half w n)

-- the lowest bit is the last one
pub last_bit-bits : (w n : ℕ) (first : Bool) → last_bit first (bits_high_first (suc w) n) ≡ has_bit n 0
unfolding bits_high_first
last_bit-bits zero n first = refl
last_bit-bits (suc w) n first = last_bit-bits w n (has_bit n (suc w))

pub length-bits : (w n : ℕ) → length (bits_high_first w n) ≡ w
unfolding bits_high_first
length-bits zero n = refl
length-bits (suc w) n = ap suc (length-bits w n)

pub pow-octets : (k : ℕ) → 256 ^ k ≡ 2 ^ (8 * k)
pow-octets zero = refl
pow-octets (suc k) =
    let e : 8 * suc k ≡ 8 * k + 8 = omega arith in
    rw (pow-suc, pow-octets k, e, pow-add) refl

-- byte k of n, as eight bits of it
pub byte_at-is : (k n : ℕ) → byte_at k n ≡ n / 2 ^ (8 * k) % 2 ^ 8
byte_at-is zero n = omega arith
byte_at-is (suc k) n = ap (λ (p : ℕ). n / p % 256) (pow-octets (suc k))

-- bit j of the w bits above the lowest a
has_bit-part : (n a w j p : ℕ) → j < w → p ≡ a + j → has_bit (n / 2 ^ a % 2 ^ w) j ≡ has_bit n p
has_bit-part n a w j p h e =
    let m : ℕ = n / 2 ^ a in
    let split : m / 2 ^ w * 2 ^ w + m % 2 ^ w ≡ m = shr_split m w in
    let low : bit_at (m / 2 ^ w * 2 ^ w + m % 2 ^ w) j ≡ bit_at (m % 2 ^ w) j = bit_at_cat_low (m / 2 ^ w) w (m % 2 ^ w) j h in
    let whole : bit_at m j ≡ bit_at (m % 2 ^ w) j = rw split at low in
    let deep : n / 2 ^ a / 2 ^ j ≡ n / 2 ^ p = shr-shr n a j ∙ ap (λ (k : ℕ). n / 2 ^ k) (sym e) in
    ap (λ (v : ℕ). eqb v 1) (sym whole ∙ ap (λ (v : ℕ). v % 2) deep)

-- the lowest bits, and k of the w bits above them
pub bits-split : (k a w n : ℕ) → k ≤ w → bits_high_first (k + a) n ≡ bits_high_first k (n / 2 ^ a % 2 ^ w) ++ bits_high_first a n
unfolding bits_high_first
bits-split zero a w n h = rw zero-add refl
bits-split (suc k) a w n h =
    let e : suc k + a ≡ suc (k + a) = omega arith in
    rw e (λ i. sym (has_bit-part n a w k (k + a) (omega arith) (omega arith)) i ∷ bits-split k a w n (omega arith) i)

octet_bits-byte : (n a : ℕ) → octet_bits (n / 2 ^ a % 2 ^ 8) ++ bits_high_first a n
    ≡ bits_high_first (suc (suc (suc (suc (suc (suc (suc (suc a)))))))) n
unfolding bits_high_first
octet_bits-byte n a = λ i.
    has_bit-part n a 8 7 (suc (suc (suc (suc (suc (suc (suc a))))))) (omega arith) (omega arith) i
    ∷ has_bit-part n a 8 6 (suc (suc (suc (suc (suc (suc a)))))) (omega arith) (omega arith) i
    ∷ has_bit-part n a 8 5 (suc (suc (suc (suc (suc a))))) (omega arith) (omega arith) i
    ∷ has_bit-part n a 8 4 (suc (suc (suc (suc a)))) (omega arith) (omega arith) i
    ∷ has_bit-part n a 8 3 (suc (suc (suc a))) (omega arith) (omega arith) i
    ∷ has_bit-part n a 8 2 (suc (suc a)) (omega arith) (omega arith) i
    ∷ has_bit-part n a 8 1 (suc a) (omega arith) (omega arith) i
    ∷ has_bit-part n a 8 0 a (omega arith) (omega arith) i
    ∷ bits_high_first a n

-- the bits of the octets of a number are its bits
pub bits-bytes : (k n : ℕ) → bits (bytes_high_first k n) ≡ bits_high_first (8 * k) n
unfolding bits_high_first
bits-bytes zero n = refl
bits-bytes (suc k) n =
    let e : 8 * suc k ≡ suc (suc (suc (suc (suc (suc (suc (suc (8 * k)))))))) = omega arith in
    rw e (ap (λ (m : ℕ). octet_bits m ++ bits (bytes_high_first k n)) (byte_at-is k n)
    ∙ ap (λ (bs : List Bool). octet_bits (n / 2 ^ (8 * k) % 2 ^ 8) ++ bs) (bits-bytes k n)
    ∙ octet_bits-byte n (8 * k))

-- and the bits write the number again
number_bit : (b : Bool) (m : ℕ) (bs : List Bool) → number_from m (b ∷ bs) ≡ number_from (2 * m + cond b 1 0) bs
number_bit true m bs = refl
number_bit false m bs = ap (λ (k : ℕ). number_from k bs) (omega arith)

bit_worth : (p : ℕ) → p < 2 → cond (eqb p 1) 1 0 ≡ p
bit_worth zero h = refl
bit_worth (suc zero) h = refl
bit_worth (suc (suc p)) h = absurd (omega arith)

join : (m top p q low n : ℕ) → q ≡ p + p → n ≡ top * p + low → (2 * m + top) * p + low ≡ m * q + n
join m top p q low n double split = rw (double, split) (omega arith)

pub number_from-bits : (w n m : ℕ) → number_from m (bits_high_first w n) ≡ m * 2 ^ w + n % 2 ^ w
unfolding bits_high_first
number_from-bits zero n m = omega arith
number_from-bits (suc w) n m =
    let top : ℕ = bit_at n w in
    let split : n % 2 ^ (1 + w) ≡ (n / 2 ^ w % 2 ^ 1) * 2 ^ w + n % 2 ^ w = mod-pow-add n 1 w in
    let e : number_from m (has_bit n w ∷ bits_high_first w n) ≡ (2 * m + top) * 2 ^ w + n % 2 ^ w =
    number_bit (has_bit n w) m (bits_high_first w n)
    ∙ ap (λ (k : ℕ). number_from (2 * m + k) (bits_high_first w n)) (bit_worth top (bit_at-lt n w))
    ∙ number_from-bits w n (2 * m + top) in
    e ∙ join m top (2 ^ w) (2 ^ suc w) (n % 2 ^ w) (n % 2 ^ suc w) (two-pow-succ w) (ap (λ (k : ℕ). n % 2 ^ k) (omega arith) ∙ split)
