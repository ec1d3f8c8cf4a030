-- A round on a state in the other basis, lane by lane.
use Rattle.std.proofs.Common.{◌≡◌, ℕ, ◌<◌, List, [], ◌∷◌, ◌++◌, map, refl, sym, ap, subst, ◌∙◌, bit_xor}
use Rattle.std.specs.Prelude.{slice_index}
use Rattle.std.specs.Int.Bits.{xor_zero_r}
use Rattle.std.proofs.lemmas.Nat.{xor_comm, xor_of_8}
use lib.Bits.{xor_assoc}
use lib.Lanes.{pick_l, zip2}
use Rattle.aes_block.specs.Aes.{IsBlock}
use Rattle.aes_block.specs.Octet.{sub_octet, times}
use Rattle.aes_block.specs.State.{last_round, mix_columns, mixed_column, round, shift_rows, sub_bytes}
use Rattle.aes_block.proofs.Doubled.{times_2-lt, times_3}
use Rattle.aes_block.proofs.EachOctet.{equal_at_octet, equal_at_octets}
use Rattle.aes_block.proofs.Mixing.{xor_swap}
use Rattle.aes_block.proofs.Octets.{AreOctets-anywhere, AreOctets-from_All}
use Rattle.aes_block.proofs.SBox.{sub_octet-lt}
use Rattle.aes_block.proofs.Steps.{written_out}
use Rattle.aes_block.specs.LookUp.{entry_at}
use Rattle.aes_block.specs.inside.Halves.{changed, first_half, masked, masked_last, second_half}
use Rattle.aes_block.specs.declared.tables.TheConstants.{ONCE_FIRST, ONCE_SECOND, TWICE_FIRST, TWICE_SECOND, SUB_FIRST, SUB_SECOND}
use Rattle.aes_block.specs.declared.forward_rounds.TheConstants.{SHIFTED, NEXT, BEFORE}
use Rattle.aes_block.proofs.SBox.{is_sub_octet, put_together}

-- what the look-ups make of an octet in the other basis
abbrev pub one_of : ℕ → ℕ
one_of x = bit_xor (entry_at ONCE_FIRST (first_half x)) (entry_at ONCE_SECOND (second_half x))

abbrev pub two_of : ℕ → ℕ
two_of x = bit_xor (entry_at TWICE_FIRST (first_half x)) (entry_at TWICE_SECOND (second_half x))

abbrev pub out_of : ℕ → ℕ
out_of x = bit_xor (entry_at SUB_FIRST (first_half x)) (entry_at SUB_SECOND (second_half x))

is_one : (x : ℕ) → x < 256 → one_of (changed x) ≡ bit_xor (changed (sub_octet x)) 0x5b
is_one x fits =
    equal_at_octet (λ n. one_of (changed n)) (λ n. bit_xor (changed (put_together n)) 0x5b) refl x fits
    ∙ ap (λ s. bit_xor (changed s) 0x5b) (is_sub_octet x fits)

is_two : (x : ℕ) → x < 256 → two_of (changed x) ≡ bit_xor (changed (times 2 (sub_octet x))) (changed 0xc6)
unfolding times
is_two x fits =
    equal_at_octet (λ n. two_of (changed n)) (λ n. bit_xor (changed (times 2 (put_together n))) (changed 0xc6)) refl x fits
    ∙ ap (λ s. bit_xor (changed (times 2 s)) (changed 0xc6)) (is_sub_octet x fits)

pub linear : (a b : ℕ) → a < 256 → b < 256 → changed (bit_xor a b) ≡ bit_xor (changed a) (changed b)
linear = equal_at_octets (λ a b. changed (bit_xor a b)) (λ a b. bit_xor (changed a) (changed b)) refl

-- the sums without the constants, which cancel
cancelled : (a b q v w k : ℕ)
    → bit_xor (bit_xor (bit_xor (bit_xor (bit_xor v 0x5b) (bit_xor b (changed 0xc6))) (bit_xor w 0x5b)) (bit_xor (bit_xor q 0x5b) (bit_xor a (changed 0xc6)))) (bit_xor k 0x5b)
    ≡ bit_xor (bit_xor (bit_xor (bit_xor v b) w) (bit_xor q a)) k
cancelled a b q v w k =
    (λ i. bit_xor (bit_xor (bit_xor (xor_swap v 0x5b b (changed 0xc6) i) (bit_xor w 0x5b)) (xor_swap q 0x5b a (changed 0xc6) i)) (bit_xor k 0x5b))
    ∙ (λ i. bit_xor (bit_xor (xor_swap (bit_xor v b) (bit_xor 0x5b (changed 0xc6)) w 0x5b i) (bit_xor (bit_xor q a) (bit_xor 0x5b (changed 0xc6)))) (bit_xor k 0x5b))
    ∙ (λ i. bit_xor (xor_swap (bit_xor (bit_xor v b) w) (bit_xor (bit_xor 0x5b (changed 0xc6)) 0x5b) (bit_xor q a) (bit_xor 0x5b (changed 0xc6)) i) (bit_xor k 0x5b))
    ∙ xor_swap (bit_xor (bit_xor (bit_xor v b) w) (bit_xor q a)) (bit_xor (bit_xor (bit_xor 0x5b (changed 0xc6)) 0x5b) (bit_xor 0x5b (changed 0xc6))) k 0x5b
    ∙ xor_zero_r _

-- and in the order of the definition
ordered : (a b q v w : ℕ) → bit_xor (bit_xor (bit_xor v b) w) (bit_xor q a) ≡ bit_xor (bit_xor (bit_xor a (bit_xor q b)) v) w
ordered a b q v w =
    xor_comm (bit_xor (bit_xor v b) w) (bit_xor q a)
    ∙ sym (xor_assoc (bit_xor q a) (bit_xor v b) w)
    ∙ ap (λ x. bit_xor x w) ((λ i. bit_xor (xor_comm q a i) (xor_comm v b i)) ∙ sym (xor_assoc (bit_xor a q) b v) ∙ ap (λ x. bit_xor x v) (xor_assoc a q b))

module _ (p q v w k : ℕ) (fp : p < 256) (fq : q < 256) (fv : v < 256) (fw : w < 256) (fk : k < 256) where
  three : changed (times 3 (sub_octet q)) ≡ bit_xor (changed (sub_octet q)) (changed (times 2 (sub_octet q)))
  three =
      let small = sub_octet-lt q fq in
      ap changed (times_3 (sub_octet q) small) ∙ linear _ _ small (times_2-lt _ small)

  times_3-lt : times 3 (sub_octet q) < 256
  times_3-lt =
      let small = sub_octet-lt q fq in
      subst (λ x. x < 256) (sym (times_3 (sub_octet q) small)) (xor_of_8 _ _ small (times_2-lt _ small))

  parts : changed (bit_xor (bit_xor (bit_xor (bit_xor (times 2 (sub_octet p)) (times 3 (sub_octet q))) (sub_octet v)) (sub_octet w)) k)
      ≡ bit_xor (bit_xor (bit_xor (bit_xor (changed (times 2 (sub_octet p))) (bit_xor (changed (sub_octet q)) (changed (times 2 (sub_octet q))))) (changed (sub_octet v))) (changed (sub_octet w))) (changed k)
  parts =
      let f2 = times_2-lt (sub_octet p) (sub_octet-lt p fp) in
      let f23 = xor_of_8 _ _ f2 times_3-lt in
      let f23v = xor_of_8 _ _ f23 (sub_octet-lt v fv) in
      let f23vw = xor_of_8 _ _ f23v (sub_octet-lt w fw) in
      linear _ _ f23vw fk
      ∙ ap (λ x. bit_xor x (changed k)) (linear _ _ f23v (sub_octet-lt w fw)
      ∙ ap (λ x. bit_xor x (changed (sub_octet w))) (linear _ _ f23 (sub_octet-lt v fv)
      ∙ ap (λ x. bit_xor x (changed (sub_octet v))) (linear _ _ f2 times_3-lt ∙ ap (bit_xor (changed (times 2 (sub_octet p)))) three)))

  lane : bit_xor (bit_xor (bit_xor (bit_xor (one_of (changed v)) (two_of (changed q))) (one_of (changed w))) (bit_xor (one_of (changed q)) (two_of (changed p)))) (masked k)
      ≡ changed (bit_xor (bit_xor (bit_xor (bit_xor (times 2 (sub_octet p)) (times 3 (sub_octet q))) (sub_octet v)) (sub_octet w)) k)
  lane =
      (λ i. bit_xor (bit_xor (bit_xor (bit_xor (is_one v fv i) (is_two q fq i)) (is_one w fw i)) (bit_xor (is_one q fq i) (is_two p fp i))) (masked k))
      ∙ cancelled (changed (times 2 (sub_octet p))) (changed (times 2 (sub_octet q))) (changed (sub_octet q)) (changed (sub_octet v)) (changed (sub_octet w)) (changed k)
      ∙ ap (λ x. bit_xor x (changed k)) (ordered (changed (times 2 (sub_octet p))) (changed (times 2 (sub_octet q))) (changed (sub_octet q)) (changed (sub_octet v)) (changed (sub_octet w)))
      ∙ sym parts

last_lane : (p k : ℕ) → p < 256 → bit_xor (out_of (changed p)) (masked_last k) ≡ bit_xor (sub_octet p) k
last_lane p k fp =
    ap (bit_xor (out_of (changed p))) (xor_comm k 0x63) ∙ sym (xor_assoc (out_of (changed p)) 0x63 k) ∙ ap (λ x. bit_xor x k) (is_sub_octet p fp)

-- 16 octets by their number
abbrev pub block : (ℕ → ℕ) → List ℕ
block o = o 0 ∷ o 1 ∷ o 2 ∷ o 3 ∷ o 4 ∷ o 5 ∷ o 6 ∷ o 7 ∷ o 8 ∷ o 9 ∷ o 10 ∷ o 11 ∷ o 12 ∷ o 13 ∷ o 14 ∷ o 15 ∷ []

abbrev pub picked : List ℕ → List ℕ → List ℕ
picked ks v = pick_l 0 (v ++ v) ks

abbrev pub mixed_lanes : List ℕ → List ℕ → List ℕ → List ℕ
mixed_lanes one two key =
    let sum = zip2 bit_xor (picked NEXT one) two in
    zip2 bit_xor (zip2 bit_xor (zip2 bit_xor (picked NEXT sum) (picked BEFORE one)) sum) key

module _ (o k : ℕ → ℕ) (fo : (n : ℕ) → o n < 256) (fk : (n : ℕ) → k n < 256) where
  round_of_block : mixed_lanes (map one_of (picked SHIFTED (map changed (block o)))) (map two_of (picked SHIFTED (map changed (block o)))) (map masked (block k))
      ≡ map changed (round (block o) (block k))
  unfolding round mix_columns mixed_column shift_rows sub_bytes
  round_of_block = λ i. lane (o 0) (o 5) (o 10) (o 15) (k 0) (fo 0) (fo 5) (fo 10) (fo 15) (fk 0) i
      ∷ lane (o 5) (o 10) (o 15) (o 0) (k 1) (fo 5) (fo 10) (fo 15) (fo 0) (fk 1) i
      ∷ lane (o 10) (o 15) (o 0) (o 5) (k 2) (fo 10) (fo 15) (fo 0) (fo 5) (fk 2) i
      ∷ lane (o 15) (o 0) (o 5) (o 10) (k 3) (fo 15) (fo 0) (fo 5) (fo 10) (fk 3) i
      ∷ lane (o 4) (o 9) (o 14) (o 3) (k 4) (fo 4) (fo 9) (fo 14) (fo 3) (fk 4) i
      ∷ lane (o 9) (o 14) (o 3) (o 4) (k 5) (fo 9) (fo 14) (fo 3) (fo 4) (fk 5) i
      ∷ lane (o 14) (o 3) (o 4) (o 9) (k 6) (fo 14) (fo 3) (fo 4) (fo 9) (fk 6) i
      ∷ lane (o 3) (o 4) (o 9) (o 14) (k 7) (fo 3) (fo 4) (fo 9) (fo 14) (fk 7) i
      ∷ lane (o 8) (o 13) (o 2) (o 7) (k 8) (fo 8) (fo 13) (fo 2) (fo 7) (fk 8) i
      ∷ lane (o 13) (o 2) (o 7) (o 8) (k 9) (fo 13) (fo 2) (fo 7) (fo 8) (fk 9) i
      ∷ lane (o 2) (o 7) (o 8) (o 13) (k 10) (fo 2) (fo 7) (fo 8) (fo 13) (fk 10) i
      ∷ lane (o 7) (o 8) (o 13) (o 2) (k 11) (fo 7) (fo 8) (fo 13) (fo 2) (fk 11) i
      ∷ lane (o 12) (o 1) (o 6) (o 11) (k 12) (fo 12) (fo 1) (fo 6) (fo 11) (fk 12) i
      ∷ lane (o 1) (o 6) (o 11) (o 12) (k 13) (fo 1) (fo 6) (fo 11) (fo 12) (fk 13) i
      ∷ lane (o 6) (o 11) (o 12) (o 1) (k 14) (fo 6) (fo 11) (fo 12) (fo 1) (fk 14) i
      ∷ lane (o 11) (o 12) (o 1) (o 6) (k 15) (fo 11) (fo 12) (fo 1) (fo 6) (fk 15) i ∷ []

  last_round_of_block : zip2 bit_xor (map out_of (picked SHIFTED (map changed (block o)))) (map masked_last (block k)) ≡ last_round (block o) (block k)
  unfolding last_round shift_rows sub_bytes
  last_round_of_block = λ i. last_lane (o 0) (k 0) (fo 0) i
      ∷ last_lane (o 5) (k 1) (fo 5) i
      ∷ last_lane (o 10) (k 2) (fo 10) i
      ∷ last_lane (o 15) (k 3) (fo 15) i
      ∷ last_lane (o 4) (k 4) (fo 4) i
      ∷ last_lane (o 9) (k 5) (fo 9) i
      ∷ last_lane (o 14) (k 6) (fo 14) i
      ∷ last_lane (o 3) (k 7) (fo 3) i
      ∷ last_lane (o 8) (k 8) (fo 8) i
      ∷ last_lane (o 13) (k 9) (fo 13) i
      ∷ last_lane (o 2) (k 10) (fo 2) i
      ∷ last_lane (o 7) (k 11) (fo 7) i
      ∷ last_lane (o 12) (k 12) (fo 12) i
      ∷ last_lane (o 1) (k 13) (fo 1) i
      ∷ last_lane (o 6) (k 14) (fo 6) i
      ∷ last_lane (o 11) (k 15) (fo 11) i ∷ []

pub anywhere : (s : List ℕ) → IsBlock s → (n : ℕ) → slice_index s n < 256
anywhere s h n = AreOctets-anywhere s (AreOctets-from_All s h.octets) n

module _ (octets words : List ℕ) (ho : IsBlock octets) (hw : IsBlock words) where
  same : block (slice_index octets) ≡ octets
  same = written_out octets ho.count

  same_words : block (slice_index words) ≡ words
  same_words = written_out words hw.count

  pub round_of_lanes : mixed_lanes (map one_of (picked SHIFTED (map changed octets))) (map two_of (picked SHIFTED (map changed octets))) (map masked words)
      ≡ map changed (round octets words)
  round_of_lanes =
      (λ i. mixed_lanes (map one_of (picked SHIFTED (map changed (sym same i)))) (map two_of (picked SHIFTED (map changed (sym same i)))) (map masked (sym same_words i)))
      ∙ round_of_block (slice_index octets) (slice_index words) (anywhere octets ho) (anywhere words hw)
      ∙ (λ i. map changed (round (same i) (same_words i)))

  pub last_round_of_lanes : zip2 bit_xor (map out_of (picked SHIFTED (map changed octets))) (map masked_last words) ≡ last_round octets words
  last_round_of_lanes =
      (λ i. zip2 bit_xor (map out_of (picked SHIFTED (map changed (sym same i)))) (map masked_last (sym same_words i)))
      ∙ last_round_of_block (slice_index octets) (slice_index words) (anywhere octets ho) (anywhere words hw)
      ∙ (λ i. last_round (same i) (same_words i))
