-- Each step of a round keeps blocks, and another step undoes it.
use Rattle.std.proofs.Common.{◌≡◌, ℕ, ◌+◌, ◌-◌, ◌%◌, ◌<◌, List, [], ◌∷◌, ◌++◌, length, map, suc, get_or, refl, sym, ap, ◌∙◌, arith, bit_xor}
use Rattle.std.specs.Prelude.{slice_index}
use Rattle.std.specs.Int.Bits.{xor_self, xor_zero_r}
use Rattle.std.proofs.lemmas.List.{length-map}
use Rattle.std.proofs.lemmas.List.FromFn.{fill_by_all}
use lib.Bits.{xor_assoc}
use Rattle.aes_block.specs.Octet.{octets_sum, sub_octet}
use Rattle.aes_block.specs.State.{octet_at, column_of, state_of, sub_bytes, shift_rows, mixed_column, mix_columns}
use Rattle.aes_block.specs.Aes.{IsBlock}
use Rattle.aes_block.specs.inside.Halves.{inv_sub_octet}
use Rattle.aes_block.proofs.Octets.{AreOctets, All-from_AreOctets, AreOctets-from_All, AreOctets-map, AreOctets-octets_sum}
use Rattle.aes_block.proofs.SBox.{sub_octet-lt, inv_sub_octet-lt, sub_octet-inv_sub_octet, inv_sub_octet-sub_octet}
use Rattle.aes_block.proofs.Mixing.{IsFour, four, linear-mixed_column, linear-inv_mixed_column, inv_mixed_column, mixed_column-inv_mixed_column, inv_mixed_column-mixed_column}

-- f and g keep blocks, and each undoes the other on them
pub record AreInverse (f g : List ℕ → List ℕ) : Type 0 where
  pub keeps : (s : List ℕ) → IsBlock s → IsBlock (f s)
  pub keeps_back : (s : List ℕ) → IsBlock s → IsBlock (g s)
  pub undone : (s : List ℕ) → IsBlock s → g (f s) ≡ s
  pub made : (s : List ℕ) → IsBlock s → f (g s) ≡ s

pub AreInverse-after : (f g f' g' : List ℕ → List ℕ) → AreInverse f g → AreInverse f' g' → AreInverse (λ s. f (f' s)) (λ s. g' (g s))
AreInverse-after f g f' g' outer inner = record {
  keeps = λ s h. outer.keeps (f' s) (inner.keeps s h);
  keeps_back = λ s h. inner.keeps_back (g s) (outer.keeps_back s h);
  undone = λ s h. ap g' (outer.undone (f' s) (inner.keeps s h)) ∙ inner.undone s h;
  made = λ s h. ap f (inner.made (g s) (outer.keeps_back s h)) ∙ outer.made s h;
}

-- two blocks with one image are one
pub same_source : (f g : List ℕ → List ℕ) → AreInverse f g → (s t : List ℕ) → IsBlock s → IsBlock t → f s ≡ f t → s ≡ t
same_source f g inverse s t hs ht e = sym (inverse.undone s hs) ∙ ap g e ∙ inverse.undone t ht

-- ---- blocks

IsBlock-from : (s : List ℕ) → length s ≡ 16 → AreOctets s → IsBlock s
IsBlock-from s count octets = record { count = count; octets = All-from_AreOctets s octets }

octet_fits : (s : List ℕ) → IsBlock s → (k : ℕ) → k < 16 → slice_index s k < 256
octet_fits s h k lt = h.octets k 0 (omega (arith, h.count))

-- a list of 16 numbers, written out
pub written_out : (s : List ℕ) → length s ≡ 16
    → slice_index s 0 ∷ slice_index s 1 ∷ slice_index s 2 ∷ slice_index s 3
    ∷ slice_index s 4 ∷ slice_index s 5 ∷ slice_index s 6 ∷ slice_index s 7
    ∷ slice_index s 8 ∷ slice_index s 9 ∷ slice_index s 10 ∷ slice_index s 11
    ∷ slice_index s 12 ∷ slice_index s 13 ∷ slice_index s 14 ∷ slice_index s 15 ∷ []
    ≡ s
written_out s count = sym (fill_by_all (λ k. get_or s k 0) s 16 0 count (λ k lt. refl))

-- four columns are a block
pub columns-IsBlock : {u v w z : List ℕ} → IsFour u → IsFour v → IsFour w → IsFour z → IsBlock (u ++ v ++ w ++ z)
columns-IsBlock (four a0 a1 a2 a3) (four b0 b1 b2 b3) (four c0 c1 c2 c3) (four d0 d1 d2 d3) =
    IsBlock-from _ refl (a0, (a1, (a2, (a3, (b0, (b1, (b2, (b3, (c0, (c1, (c2, (c3, (d0, (d1, (d2, (d3, tt))))))))))))))))

-- ---- SubBytes

map-undone : (f g : ℕ → ℕ) → ((n : ℕ) → n < 256 → g (f n) ≡ n) → (xs : List ℕ) → AreOctets xs → map g (map f xs) ≡ xs
map-undone f g undone [] h = refl
map-undone f g undone (x ∷ xs) h = λ i. undone x h.0 i ∷ map-undone f g undone xs h.1 i

map-IsBlock : (f : ℕ → ℕ) → ((n : ℕ) → n < 256 → f n < 256) → (s : List ℕ) → IsBlock s → IsBlock (map f s)
map-IsBlock f fits s h =
    IsBlock-from (map f s) (length-map s f ∙ h.count) (AreOctets-map f fits s (AreOctets-from_All s h.octets))

pub inv_sub_bytes : List ℕ → List ℕ
inv_sub_bytes s = map inv_sub_octet s

pub sub_bytes-inverse : AreInverse sub_bytes inv_sub_bytes
unfolding sub_bytes inv_sub_bytes
sub_bytes-inverse = record {
  keeps = map-IsBlock sub_octet sub_octet-lt;
  keeps_back = map-IsBlock inv_sub_octet inv_sub_octet-lt;
  undone = λ s h. map-undone sub_octet inv_sub_octet inv_sub_octet-sub_octet s (AreOctets-from_All s h.octets);
  made = λ s h. map-undone inv_sub_octet sub_octet sub_octet-inv_sub_octet s (AreOctets-from_All s h.octets);
}

-- the S-box on octets after its inverse
pub sub_octets_undone : (s : List ℕ) → IsBlock s → map sub_octet (map inv_sub_octet s) ≡ s
sub_octets_undone s h = map-undone inv_sub_octet sub_octet sub_octet-inv_sub_octet s (AreOctets-from_All s h.octets)

-- ---- ShiftRows

unfoldable pub inv_shift_rows : List ℕ → List ℕ
inv_shift_rows s = state_of (λ column. column_of (λ row. octet_at s row ((column + 4 - row) % 4)))

shift_rows-IsBlock : (s : List ℕ) → IsBlock s → IsBlock (shift_rows s)
unfolding shift_rows
shift_rows-IsBlock s h =
    let fits = octet_fits s h in
    columns-IsBlock
    (four (fits 0 (omega arith)) (fits 5 (omega arith)) (fits 10 (omega arith)) (fits 15 (omega arith)))
    (four (fits 4 (omega arith)) (fits 9 (omega arith)) (fits 14 (omega arith)) (fits 3 (omega arith)))
    (four (fits 8 (omega arith)) (fits 13 (omega arith)) (fits 2 (omega arith)) (fits 7 (omega arith)))
    (four (fits 12 (omega arith)) (fits 1 (omega arith)) (fits 6 (omega arith)) (fits 11 (omega arith)))

inv_shift_rows-IsBlock : (s : List ℕ) → IsBlock s → IsBlock (inv_shift_rows s)
unfolding inv_shift_rows
inv_shift_rows-IsBlock s h =
    let fits = octet_fits s h in
    columns-IsBlock
    (four (fits 0 (omega arith)) (fits 13 (omega arith)) (fits 10 (omega arith)) (fits 7 (omega arith)))
    (four (fits 4 (omega arith)) (fits 1 (omega arith)) (fits 14 (omega arith)) (fits 11 (omega arith)))
    (four (fits 8 (omega arith)) (fits 5 (omega arith)) (fits 2 (omega arith)) (fits 15 (omega arith)))
    (four (fits 12 (omega arith)) (fits 9 (omega arith)) (fits 6 (omega arith)) (fits 3 (omega arith)))

pub shift_rows-inverse : AreInverse shift_rows inv_shift_rows
unfolding shift_rows inv_shift_rows
shift_rows-inverse = record {
  keeps = shift_rows-IsBlock;
  keeps_back = inv_shift_rows-IsBlock;
  undone = λ s h. written_out s h.count;
  made = λ s h. written_out s h.count;
}

-- ---- MixColumns

unfoldable pub inv_mix_columns : List ℕ → List ℕ
inv_mix_columns s = state_of (λ column. inv_mixed_column (column_of (λ row. octet_at s row column)))

-- a block's columns
module _ (s : List ℕ) (h : IsBlock s) where
  column_0-IsFour : IsFour (slice_index s 0 ∷ slice_index s 1 ∷ slice_index s 2 ∷ slice_index s 3 ∷ [])
  column_0-IsFour = four (octet_fits s h 0 (omega arith)) (octet_fits s h 1 (omega arith)) (octet_fits s h 2 (omega arith)) (octet_fits s h 3 (omega arith))

  column_1-IsFour : IsFour (slice_index s 4 ∷ slice_index s 5 ∷ slice_index s 6 ∷ slice_index s 7 ∷ [])
  column_1-IsFour = four (octet_fits s h 4 (omega arith)) (octet_fits s h 5 (omega arith)) (octet_fits s h 6 (omega arith)) (octet_fits s h 7 (omega arith))

  column_2-IsFour : IsFour (slice_index s 8 ∷ slice_index s 9 ∷ slice_index s 10 ∷ slice_index s 11 ∷ [])
  column_2-IsFour = four (octet_fits s h 8 (omega arith)) (octet_fits s h 9 (omega arith)) (octet_fits s h 10 (omega arith)) (octet_fits s h 11 (omega arith))

  column_3-IsFour : IsFour (slice_index s 12 ∷ slice_index s 13 ∷ slice_index s 14 ∷ slice_index s 15 ∷ [])
  column_3-IsFour = four (octet_fits s h 12 (omega arith)) (octet_fits s h 13 (omega arith)) (octet_fits s h 14 (omega arith)) (octet_fits s h 15 (omega arith))

pub mix_columns-inverse : AreInverse mix_columns inv_mix_columns
unfolding mixed_column mix_columns inv_mix_columns
mix_columns-inverse = record {
  keeps = λ s h. columns-IsBlock
      (linear-mixed_column.keeps _ (column_0-IsFour s h))
      (linear-mixed_column.keeps _ (column_1-IsFour s h))
      (linear-mixed_column.keeps _ (column_2-IsFour s h))
      (linear-mixed_column.keeps _ (column_3-IsFour s h));
  keeps_back = λ s h. columns-IsBlock
      (linear-inv_mixed_column.keeps _ (column_0-IsFour s h))
      (linear-inv_mixed_column.keeps _ (column_1-IsFour s h))
      (linear-inv_mixed_column.keeps _ (column_2-IsFour s h))
      (linear-inv_mixed_column.keeps _ (column_3-IsFour s h));
  undone = λ s h. (λ i.
      inv_mixed_column-mixed_column _ (column_0-IsFour s h) i
      ++ inv_mixed_column-mixed_column _ (column_1-IsFour s h) i
      ++ inv_mixed_column-mixed_column _ (column_2-IsFour s h) i
      ++ inv_mixed_column-mixed_column _ (column_3-IsFour s h) i)
      ∙ written_out s h.count;
  made = λ s h. (λ i.
      mixed_column-inv_mixed_column _ (column_0-IsFour s h) i
      ++ mixed_column-inv_mixed_column _ (column_1-IsFour s h) i
      ++ mixed_column-inv_mixed_column _ (column_2-IsFour s h) i
      ++ mixed_column-inv_mixed_column _ (column_3-IsFour s h) i)
      ∙ written_out s h.count;
}

-- ---- AddRoundKey

pub octets_sum-twice : (xs ys : List ℕ) → length xs ≡ length ys → octets_sum (octets_sum xs ys) ys ≡ xs
octets_sum-twice [] ys e = refl
octets_sum-twice (x ∷ xs) [] e = absurd (omega arith)
octets_sum-twice (x ∷ xs) (y ∷ ys) e =
    λ i. (xor_assoc x y y ∙ ap (bit_xor x) (xor_self y) ∙ xor_zero_r x) i ∷ octets_sum-twice xs ys (omega arith) i

length-octets_sum : (xs ys : List ℕ) → length xs ≡ length ys → length (octets_sum xs ys) ≡ length xs
length-octets_sum [] ys e = refl
length-octets_sum (x ∷ xs) [] e = absurd (omega arith)
length-octets_sum (x ∷ xs) (y ∷ ys) e = ap suc (length-octets_sum xs ys (omega arith))

pub octets_sum-inverse : (key : List ℕ) → IsBlock key → AreInverse (λ s. octets_sum s key) (λ s. octets_sum s key)
octets_sum-inverse key k = record { keeps = keeps; keeps_back = keeps; undone = twice; made = twice }
  where
    keeps : (s : List ℕ) → IsBlock s → IsBlock (octets_sum s key)
    keeps s h = IsBlock-from (octets_sum s key) (length-octets_sum s key (h.count ∙ sym k.count) ∙ h.count)
        (AreOctets-octets_sum s key (AreOctets-from_All s h.octets) (AreOctets-from_All key k.octets))

    twice : (s : List ℕ) → IsBlock s → octets_sum (octets_sum s key) key ≡ s
    twice s h = octets_sum-twice s key (h.count ∙ sym k.count)
