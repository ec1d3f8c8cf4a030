-- The rounds undone, lane by lane.
use Rattle.std.proofs.Common.{◌≡◌, ℕ, ◌/◌, ◌<◌, List, [], ◌∷◌, map, refl, sym, ap, ◌∙◌, bit_and, bit_xor}
use Rattle.std.specs.Prelude.{slice_index}
use lib.Lanes.{zip2}
use Rattle.aes_block.specs.Aes.{IsBlock}
use Rattle.aes_block.specs.LookUp.{entry_at}
use Rattle.aes_block.specs.Octet.{times}
use Rattle.aes_block.specs.State.{mix_columns, mixed_column}
use Rattle.aes_block.specs.declared.tables.TheConstants.{DOUBLED_LOW, DOUBLED_HIGH}
use Rattle.aes_block.specs.declared.inverse_rounds.TheConstants.{ACROSS, SHIFTED_BACK}
use Rattle.aes_block.specs.declared.forward_rounds.TheConstants.{NEXT, BEFORE}
use Rattle.aes_block.proofs.Doubled.{times_3}
use Rattle.aes_block.proofs.EachOctet.{equal_at_octet}
use Rattle.aes_block.proofs.RoundLanes.{anywhere, block, picked}
use Rattle.aes_block.proofs.Steps.{inv_mix_columns, inv_shift_rows, written_out}

-- an octet times x, by halves
pub is_doubled : (n : ℕ) → n < 256 → bit_xor (entry_at DOUBLED_LOW (bit_and n 15)) (entry_at DOUBLED_HIGH (n / 16)) ≡ times 2 n
unfolding times
is_doubled = equal_at_octet (λ n. bit_xor (entry_at DOUBLED_LOW (bit_and n 15)) (entry_at DOUBLED_HIGH (n / 16))) (times 2) refl

-- ShiftRows after the octets were taken back
pub shifted_back_is : (s : List ℕ) → IsBlock s → picked SHIFTED_BACK s ≡ inv_shift_rows s
unfolding inv_shift_rows
shifted_back_is s h = ap (picked SHIFTED_BACK) (sym (written_out s h.count))

-- ---- MixColumns

abbrev pub mixed_of : List ℕ → List ℕ → List ℕ
mixed_of octets twice =
    zip2 bit_xor (zip2 bit_xor (zip2 bit_xor twice (picked NEXT (zip2 bit_xor octets twice))) (picked ACROSS octets)) (picked BEFORE octets)

module _ (o : ℕ → ℕ) (fits : (n : ℕ) → o n < 256) where
  thrice : (n : ℕ) → bit_xor (o n) (times 2 (o n)) ≡ times 3 (o n)
  thrice n = sym (times_3 (o n) (fits n))

  lane : (a b c d : ℕ) → bit_xor (bit_xor (bit_xor (times 2 (o a)) (bit_xor (o b) (times 2 (o b)))) (o c)) (o d)
      ≡ bit_xor (bit_xor (bit_xor (times 2 (o a)) (times 3 (o b))) (o c)) (o d)
  lane a b c d = ap (λ x. bit_xor (bit_xor (bit_xor (times 2 (o a)) x) (o c)) (o d)) (thrice b)

  mixed_of_block : mixed_of (block o) (map (times 2) (block o)) ≡ mix_columns (block o)
  unfolding mix_columns mixed_column
  mixed_of_block = λ i.
      lane 0 1 2 3 i ∷ lane 1 2 3 0 i ∷ lane 2 3 0 1 i ∷ lane 3 0 1 2 i
      ∷ lane 4 5 6 7 i ∷ lane 5 6 7 4 i ∷ lane 6 7 4 5 i ∷ lane 7 4 5 6 i
      ∷ lane 8 9 10 11 i ∷ lane 9 10 11 8 i ∷ lane 10 11 8 9 i ∷ lane 11 8 9 10 i
      ∷ lane 12 13 14 15 i ∷ lane 13 14 15 12 i ∷ lane 14 15 12 13 i ∷ lane 15 12 13 14 i ∷ []

pub mixed_is : (s : List ℕ) → IsBlock s → mixed_of s (map (times 2) s) ≡ mix_columns s
mixed_is s h =
    (λ i. mixed_of (sym (written_out s h.count) i) (map (times 2) (sym (written_out s h.count) i)))
    ∙ mixed_of_block (slice_index s) (anywhere s h)
    ∙ ap mix_columns (written_out s h.count)

-- and before it
abbrev pub squared_of : List ℕ → List ℕ
squared_of s = zip2 bit_xor s (map (times 2) (map (times 2) (zip2 bit_xor s (picked ACROSS s))))

pub inv_mixed_is : (s : List ℕ) → IsBlock s → mix_columns (squared_of s) ≡ inv_mix_columns s
unfolding mix_columns inv_mix_columns mixed_column
inv_mixed_is s h = ap (λ v. mix_columns (squared_of v)) (sym (written_out s h.count))
