-- a step leaves octets
use Rattle.std.proofs.Common.{◌≡◌, ℕ, zero, suc, ◌<◌, ◌≤◌, List, [], ◌∷◌, ◌++◌, length, take, drop, bit_xor, ◌∙◌, arith, All}
use Rattle.std.specs.Int.{w64, to_be_bytes, bytes_high_first, byte_at}
use Rattle.std.proofs.lemmas.Nat.{xor_of_8}
use Rattle.std.proofs.lemmas.List.{length-append, length-take-le, length-drop}
use Rattle.std.proofs.lemmas.List.Elements.{All-nil, All-cons, All-head, All-tail, All-append, All-take, All-drop}
use Rattle.aes_block.specs.Octet.{octets_sum}
use Rattle.aes_block.specs.Aes.{aes, IsBlock, IsOctets}
use Rattle.key_wrap.specs.Wrap.{numbered, step, steps}
use Rattle.key_wrap.proofs.Numbered.{length-numbered}

abbrev IsOctet : ℕ → Type 0
IsOctet octet = octet < 256

Octets-sum : (xs ys : List ℕ) → All IsOctet xs → All IsOctet ys → All IsOctet (octets_sum xs ys)
Octets-sum [] ys p q = All-nil IsOctet
Octets-sum (x ∷ xs) [] p q = All-nil IsOctet
Octets-sum (x ∷ xs) (y ∷ ys) p q =
    All-cons IsOctet (bit_xor x y) (octets_sum xs ys) (xor_of_8 x y (All-head IsOctet x xs p) (All-head IsOctet y ys q))
    (Octets-sum xs ys (All-tail IsOctet x xs p) (All-tail IsOctet y ys q))

byte_at-lt : (k n : ℕ) → byte_at k n < 256
byte_at-lt zero n = omega arith
byte_at-lt (suc k) n = omega arith

Octets-bytes : (k n : ℕ) → All IsOctet (bytes_high_first k n)
Octets-bytes zero n = All-nil IsOctet
Octets-bytes (suc k) n = All-cons IsOctet (byte_at k n) (bytes_high_first k n) (byte_at-lt k n) (Octets-bytes k n)

Octets-numbered : (block : List ℕ) (number : ℕ) → All IsOctet block → All IsOctet (numbered block number)
Octets-numbered block number p =
    All-append IsOctet (octets_sum (take 8 block) (to_be_bytes w64 number)) (drop 8 block)
    (Octets-sum (take 8 block) (to_be_bytes w64 number) (All-take IsOctet 8 block p) (Octets-bytes 8 number))
    (All-drop IsOctet 8 block p)

pub IsOctets-step : (kek state : List ℕ) (n number : ℕ) → 16 ≤ n → ((text : List ℕ) → IsBlock text → IsBlock (aes kek text))
    → IsOctets n state → IsOctets n (step kek state number)
unfolding step
IsOctets-step kek state n number room blocks h =
    let count = h.count in
    let ahead : IsBlock (take 16 state) = record { count = length-take-le 16 state (omega arith); octets = All-take IsOctet 16 state h.octets } in
    let ciphertext = blocks (take 16 state) ahead in
    let block = numbered (aes kek (take 16 state)) number in
    let e : length block ≡ 16 = length-numbered (aes kek (take 16 state)) number ciphertext.count in
    let p : All IsOctet block = Octets-numbered (aes kek (take 16 state)) number ciphertext.octets in
    record {
      count =
          let l : length (take 8 block) ≡ 8 = length-take-le 8 block (omega arith) in
          let m : length (drop 8 block) ≡ 8 = length-drop 8 block ∙ (omega arith) in
          length-append (take 8 block ++ drop 16 state) (drop 8 block) ∙ (omega (arith, length-append (take 8 block) (drop 16 state), length-drop 16 state));
      octets = All-append IsOctet (take 8 block ++ drop 16 state) (drop 8 block)
          (All-append IsOctet (take 8 block) (drop 16 state) (All-take IsOctet 8 block p) (All-drop IsOctet 16 state h.octets))
          (All-drop IsOctet 8 block p);
    }

pub IsOctets-steps : (kek state : List ℕ) (n count : ℕ) → 16 ≤ n → ((text : List ℕ) → IsBlock text → IsBlock (aes kek text))
    → IsOctets n state → IsOctets n (steps kek state count)
unfolding steps
IsOctets-steps kek state n zero room blocks h = h
IsOctets-steps kek state n (suc count) room blocks h =
    IsOctets-step kek (steps kek state count) n (suc count) room blocks (IsOctets-steps kek state n count room blocks h)
