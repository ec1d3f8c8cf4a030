-- Octets of numbers: what is written highest first is read back, and two halves are written one after the other.
use Rattle.std.proofs.Common.{◌≡◌, ℕ, zero, suc, ◌+◌, ◌-◌, ◌*◌, ◌/◌, ◌%◌, ◌^◌, ◌<◌, ◌≤◌, List, [], ◌∷◌, ◌++◌, length, replicate, refl, sym, ap, ◌∙◌, arith, get_or}
use Rattle.std.proofs.Math.Nat.{pow-suc}
use Rattle.std.proofs.lemmas.Nat.{div-mul-add, mod-mul-add, mul-add-lt, mod-pow-add, mod_below, pow-add}
use Rattle.std.proofs.lemmas.List.{length-append, length-replicate}
use Rattle.std.proofs.lemmas.List.Elements.{All-nil, All-cons, All-head, All-tail, All-append, All-same, All-from_get_or, All-replicate}
use Rattle.std.specs.List.{All}
use Rattle.std.specs.Int.{w64, w128, byte_at, bytes_high_first, to_be_bytes, from_be_bytes}
use Rattle.gcm_core.specs.Blocks.{number_from, block_octets, block_bits, octets_of_bits}
use Rattle.gcm_core.proofs.BlockBits.{number_from-bits, byte_at-is, pow-octets}
use Rattle.gcm_core.proofs.Products.{block_bits-are}

abbrev pub IsOctet : ℕ → Type 0
IsOctet n = n < 256

-- the number that octets write, the highest first
unfoldable pub number_of : List ℕ → ℕ
number_of [] = 0
number_of (b ∷ bs) = b * 256 ^ length bs + number_of bs

number_of-lt : (bs : List ℕ) → All IsOctet bs → number_of bs < 256 ^ length bs
unfolding number_of
number_of-lt [] h = omega arith
number_of-lt (b ∷ bs) h =
    rw pow-suc (mul-add-lt b (256 ^ length bs) (number_of bs) 256 (All-head IsOctet b bs h) (number_of-lt bs (All-tail IsOctet b bs h)))

byte_at-div : (k n : ℕ) → byte_at k n ≡ n / 256 ^ k % 256
byte_at-div zero n = omega arith
byte_at-div (suc k) n = refl

-- written and read back, whatever stands above
bytes-number_of : (bs : List ℕ) (above : ℕ) → All IsOctet bs
    → bytes_high_first (length bs) (above * 256 ^ length bs + number_of bs) ≡ bs
unfolding number_of
bytes-number_of [] above h = refl
bytes-number_of (b ∷ bs) above h =
    let k : ℕ = length bs in
    let p : ℕ = 256 ^ k in
    let split : above * 256 ^ suc k + (b * p + number_of bs) ≡ (above * 256 + b) * p + number_of bs = rw pow-suc (omega arith) in
    let head : byte_at k ((above * 256 + b) * p + number_of bs) ≡ b =
    byte_at-div k ((above * 256 + b) * p + number_of bs)
    ∙ ap (λ (n : ℕ). n % 256) (div-mul-add (above * 256 + b) p (number_of bs) (number_of-lt bs (All-tail IsOctet b bs h)))
    ∙ mod-mul-add above 256 b (All-head IsOctet b bs h) in
    let tail : bytes_high_first k ((above * 256 + b) * p + number_of bs) ≡ bs = bytes-number_of bs (above * 256 + b) (All-tail IsOctet b bs h) in
    rw split (λ i. head i ∷ tail i)

-- and the other way round
pub length-bytes : (k n : ℕ) → length (bytes_high_first k n) ≡ k
length-bytes zero n = refl
length-bytes (suc k) n = ap suc (length-bytes k n)

number_of-bytes : (k n : ℕ) → number_of (bytes_high_first k n) ≡ n % 2 ^ (8 * k)
unfolding number_of
number_of-bytes zero n = omega arith
number_of-bytes (suc k) n =
    let e : 8 * suc k ≡ 8 + 8 * k = omega arith in
    let split : n % 2 ^ (8 + 8 * k) ≡ (n / 2 ^ (8 * k) % 2 ^ 8) * 2 ^ (8 * k) + n % 2 ^ (8 * k) = mod-pow-add n 8 (8 * k) in
    rw (e, split, length-bytes k n, pow-octets k, byte_at-is k n, number_of-bytes k n) refl

pub All-bytes : (k n : ℕ) → All IsOctet (bytes_high_first k n)
All-bytes zero n = All-nil IsOctet
All-bytes (suc k) n =
    All-cons IsOctet (byte_at k n) (bytes_high_first k n) (rw byte_at-div (mod_below (n / 256 ^ k) 256 (omega arith))) (All-bytes k n)

number_of-append : (xs ys : List ℕ) → number_of (xs ++ ys) ≡ number_of xs * 256 ^ length ys + number_of ys
unfolding number_of
number_of-append [] ys = omega arith
number_of-append (x ∷ xs) ys =
    let e : x * 256 ^ length (xs ++ ys) + number_of (xs ++ ys) ≡ (x * 256 ^ length xs + number_of xs) * 256 ^ length ys + number_of ys =
    rw (length-append, pow-add, number_of-append xs ys) (omega arith) in
    e

-- sixteen octets, read as a number and written again
number_of-read : (bs : List ℕ) → length bs ≡ 16 → from_be_bytes w128 bs ≡ number_of bs
unfolding number_of
number_of-read [] l = absurd (omega arith)
number_of-read (b0 ∷ []) l = absurd (omega arith)
number_of-read (b0 ∷ b1 ∷ []) l = absurd (omega arith)
number_of-read (b0 ∷ b1 ∷ b2 ∷ []) l = absurd (omega arith)
number_of-read (b0 ∷ b1 ∷ b2 ∷ b3 ∷ []) l = absurd (omega arith)
number_of-read (b0 ∷ b1 ∷ b2 ∷ b3 ∷ b4 ∷ []) l = absurd (omega arith)
number_of-read (b0 ∷ b1 ∷ b2 ∷ b3 ∷ b4 ∷ b5 ∷ []) l = absurd (omega arith)
number_of-read (b0 ∷ b1 ∷ b2 ∷ b3 ∷ b4 ∷ b5 ∷ b6 ∷ []) l = absurd (omega arith)
number_of-read (b0 ∷ b1 ∷ b2 ∷ b3 ∷ b4 ∷ b5 ∷ b6 ∷ b7 ∷ []) l = absurd (omega arith)
number_of-read (b0 ∷ b1 ∷ b2 ∷ b3 ∷ b4 ∷ b5 ∷ b6 ∷ b7 ∷ b8 ∷ []) l = absurd (omega arith)
number_of-read (b0 ∷ b1 ∷ b2 ∷ b3 ∷ b4 ∷ b5 ∷ b6 ∷ b7 ∷ b8 ∷ b9 ∷ []) l = absurd (omega arith)
number_of-read (b0 ∷ b1 ∷ b2 ∷ b3 ∷ b4 ∷ b5 ∷ b6 ∷ b7 ∷ b8 ∷ b9 ∷ b10 ∷ []) l = absurd (omega arith)
number_of-read (b0 ∷ b1 ∷ b2 ∷ b3 ∷ b4 ∷ b5 ∷ b6 ∷ b7 ∷ b8 ∷ b9 ∷ b10 ∷ b11 ∷ []) l = absurd (omega arith)
number_of-read (b0 ∷ b1 ∷ b2 ∷ b3 ∷ b4 ∷ b5 ∷ b6 ∷ b7 ∷ b8 ∷ b9 ∷ b10 ∷ b11 ∷ b12 ∷ []) l = absurd (omega arith)
number_of-read (b0 ∷ b1 ∷ b2 ∷ b3 ∷ b4 ∷ b5 ∷ b6 ∷ b7 ∷ b8 ∷ b9 ∷ b10 ∷ b11 ∷ b12 ∷ b13 ∷ []) l = absurd (omega arith)
number_of-read (b0 ∷ b1 ∷ b2 ∷ b3 ∷ b4 ∷ b5 ∷ b6 ∷ b7 ∷ b8 ∷ b9 ∷ b10 ∷ b11 ∷ b12 ∷ b13 ∷ b14 ∷ []) l = absurd (omega arith)
number_of-read (b0 ∷ b1 ∷ b2 ∷ b3 ∷ b4 ∷ b5 ∷ b6 ∷ b7 ∷ b8 ∷ b9 ∷ b10 ∷ b11 ∷ b12 ∷ b13 ∷ b14 ∷ b15 ∷ []) l = omega arith
number_of-read (b0 ∷ b1 ∷ b2 ∷ b3 ∷ b4 ∷ b5 ∷ b6 ∷ b7 ∷ b8 ∷ b9 ∷ b10 ∷ b11 ∷ b12 ∷ b13 ∷ b14 ∷ b15 ∷ b16 ∷ bs) l = absurd (omega arith)

block_octets-number_of : (bs : List ℕ) → length bs ≡ 16 → All IsOctet bs → block_octets (number_of bs) ≡ bs
unfolding block_octets
block_octets-number_of bs l h =
    let e : 0 * 256 ^ length bs + number_of bs ≡ number_of bs = omega arith in
    rw (e, l) at (bytes-number_of bs 0 h)

pub block_octets-read : (bs : List ℕ) → length bs ≡ 16 → All IsOctet bs → block_octets (from_be_bytes w128 bs) ≡ bs
block_octets-read bs l h = ap block_octets (number_of-read bs l) ∙ block_octets-number_of bs l h

halves : (m n a b : ℕ) → a < 2 ^ 64 → b < 2 ^ 64 → m ≡ a % 2 ^ 64 → n ≡ b % 2 ^ 64 → m * 2 ^ 64 + n ≡ a * 2 ^ 64 + b
halves m n a b ha hb em en = omega arith

-- a number of 128 bits is written as its upper and its lower half
pub block_octets-halves : (a b : ℕ) → a < 2 ^ 64 → b < 2 ^ 64 → block_octets (a * 2 ^ 64 + b) ≡ to_be_bytes w64 a ++ to_be_bytes w64 b
block_octets-halves a b ha hb =
    let xs : List ℕ = bytes_high_first 8 a in
    let ys : List ℕ = bytes_high_first 8 b in
    let n : number_of (xs ++ ys) ≡ a * 2 ^ 64 + b =
    number_of-append xs ys ∙ halves (number_of xs) (number_of ys) a b ha hb (number_of-bytes 8 a) (number_of-bytes 8 b) in
    ap block_octets (sym n) ∙ block_octets-number_of (xs ++ ys) refl (All-append IsOctet xs ys (All-bytes 8 a) (All-bytes 8 b))

pub octets_of_bits-block_bits : (n : ℕ) → n < 2 ^ 128 → octets_of_bits (block_bits n) ≡ block_octets n
octets_of_bits-block_bits n h =
    ap block_octets (ap (number_from 0) (block_bits-are n) ∙ number_from-bits 128 n 0 ∙ omega arith)

-- octets and zeros up to 16, read as a number
pub block_octets-padded : (octets array : List ℕ) (n : ℕ) → n ≡ from_be_bytes w128 array → array ≡ octets ++ replicate (16 - length octets) 0
    → length octets ≤ 16 → ((i : ℕ) → get_or octets i 0 < 256) → block_octets n ≡ octets ++ replicate (16 - length octets) 0
block_octets-padded octets array n en ea short small =
    let zeros : List ℕ = replicate (16 - length octets) 0 in
    let len : length array ≡ 16 = ap length ea ∙ simp (length-append, length-replicate) (omega arith) in
    let fits : All IsOctet array =
    All-same IsOctet array (octets ++ zeros) ea
    (All-append IsOctet octets zeros (All-from_get_or IsOctet octets 0 (λ i h. small i)) (All-replicate IsOctet (16 - length octets) 0 (omega arith))) in
    ap block_octets en ∙ block_octets-read array len fits ∙ ea

pub block_octets-is : (n : ℕ) → to_be_bytes w128 n ≡ block_octets n
unfolding block_octets
block_octets-is n = refl
