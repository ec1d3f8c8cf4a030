-- MixColumns is undone by the product with the inverse polynomial.
use Rattle.std.proofs.Common.{◌≡◌, ℕ, ◌<◌, Bool, true, false, ◌&&◌, eqb, List, [], ◌∷◌, ◌++◌, take, drop, map, length, refl, sym, ap, subst, ◌∙◌, arith, bit_xor}
use Rattle.std.specs.Prelude.{slice_index}
use Rattle.std.specs.List.{list_all}
use Rattle.std.specs.Int.Bits.{xor_zero_r}
use Rattle.std.proofs.lemmas.Bool.{and_parts, eqb-true, false≢true}
use Rattle.std.proofs.lemmas.Nat.{xor_comm, xor_of_8}
use lib.Bits.{xor_assoc}
use Rattle.aes_block.specs.Octet.{octets_sum, octets, times}
use Rattle.aes_block.specs.State.{mixed_column}
use Rattle.aes_block.proofs.EachOctet.{at_octet}
use Rattle.aes_block.proofs.Octets.{AreOctets}
use Rattle.aes_block.proofs.Doubled.{shifted, times_2, times_2-lt, times_2-xor, times_3}

-- ---- sums

-- two sums of two, summed the other way
pub xor_swap : (a b c d : ℕ) → bit_xor (bit_xor a b) (bit_xor c d) ≡ bit_xor (bit_xor a c) (bit_xor b d)
xor_swap a b c d =
    xor_assoc a b (bit_xor c d) ∙ ap (bit_xor a) (sym (xor_assoc b c d) ∙ ap (λ x. bit_xor x d) (xor_comm b c) ∙ xor_assoc c b d)
    ∙ sym (xor_assoc a c (bit_xor b d))

-- four sums of two are two sums of four
xor_four : (a b c d p q r s : ℕ) → bit_xor (bit_xor (bit_xor (bit_xor a p) (bit_xor b q)) (bit_xor c r)) (bit_xor d s)
    ≡ bit_xor (bit_xor (bit_xor (bit_xor a b) c) d) (bit_xor (bit_xor (bit_xor p q) r) s)
xor_four a b c d p q r s =
    ap (λ x. bit_xor (bit_xor x (bit_xor c r)) (bit_xor d s)) (xor_swap a p b q)
    ∙ ap (λ x. bit_xor x (bit_xor d s)) (xor_swap (bit_xor a b) (bit_xor p q) c r)
    ∙ xor_swap (bit_xor (bit_xor a b) c) (bit_xor (bit_xor p q) r) d s

times_3-xor : (a b : ℕ) → a < 256 → b < 256 → times 3 (bit_xor a b) ≡ bit_xor (times 3 a) (times 3 b)
times_3-xor a b fa fb =
    times_3 (bit_xor a b) (xor_of_8 a b fa fb) ∙ ap (bit_xor (bit_xor a b)) (times_2-xor a b fa fb) ∙ xor_swap a b (times 2 a) (times 2 b)
    ∙ sym (λ i. bit_xor (times_3 a fa i) (times_3 b fb i))

-- ---- columns

-- four octets
pub data IsFour : List ℕ → Type 0 where
  four : {a b c d : ℕ} → a < 256 → b < 256 → c < 256 → d < 256 → IsFour (a ∷ b ∷ c ∷ d ∷ [])

pub IsFour-from : (column : List ℕ) → length column ≡ 4 → AreOctets column → IsFour column
IsFour-from [] l h = absurd (omega arith)
IsFour-from (a ∷ []) l h = absurd (omega arith)
IsFour-from (a ∷ b ∷ []) l h = absurd (omega arith)
IsFour-from (a ∷ b ∷ c ∷ []) l h = absurd (omega arith)
IsFour-from (a ∷ b ∷ c ∷ d ∷ []) l h = four h.0 h.1.0 h.1.1.0 h.1.1.1.0
IsFour-from (a ∷ b ∷ c ∷ d ∷ e ∷ more) l h = absurd (omega arith)

pub IsFour-sum : {u v : List ℕ} → IsFour u → IsFour v → IsFour (octets_sum u v)
IsFour-sum (four {a} {b} {c} {d} fa fb fc fd) (four {a = p} {b = q} {c = r} {d = s} fp fq fr fs) =
    four (xor_of_8 a p fa fp) (xor_of_8 b q fb fq) (xor_of_8 c r fc fr) (xor_of_8 d s fd fs)

sum_swap : {u v w z : List ℕ} → IsFour u → IsFour v → IsFour w → IsFour z
    → octets_sum (octets_sum u v) (octets_sum w z) ≡ octets_sum (octets_sum u w) (octets_sum v z)
sum_swap (four {a} {b} {c} {d} _ _ _ _) (four {a = e} {b = f} {c = g} {d = h} _ _ _ _) (four {a = j} {b = k} {c = l} {d = m} _ _ _ _) (four {a = n} {b = o} {c = p} {d = q} _ _ _ _) =
    λ i. xor_swap a e j n i ∷ xor_swap b f k o i ∷ xor_swap c g l p i ∷ xor_swap d h m q i ∷ []

-- a function on columns that keeps octets and goes through sums
pub record IsLinear (f : List ℕ → List ℕ) : Type 0 where
  pub keeps : (u : List ℕ) → IsFour u → IsFour (f u)
  pub adds : (u v : List ℕ) → IsFour u → IsFour v → f (octets_sum u v) ≡ octets_sum (f u) (f v)

linear-after : (f g : List ℕ → List ℕ) → IsLinear f → IsLinear g → IsLinear (λ u. f (g u))
linear-after f g lf lg = record {
  keeps = λ u h. lf.keeps (g u) (lg.keeps u h);
  adds = λ u v h k. ap f (lg.adds u v h k) ∙ lf.adds (g u) (g v) (lg.keeps u h) (lg.keeps v k);
}

linear-sum : (f g : List ℕ → List ℕ) → IsLinear f → IsLinear g → IsLinear (λ u. octets_sum (f u) (g u))
linear-sum f g lf lg = record {
  keeps = λ u h. IsFour-sum (lf.keeps u h) (lg.keeps u h);
  adds = λ u v h k. (λ i. octets_sum (lf.adds u v h k i) (lg.adds u v h k i))
      ∙ sum_swap (lf.keeps u h) (lf.keeps v k) (lg.keeps u h) (lg.keeps v k);
}

linear-itself : IsLinear (λ u. u)
linear-itself = record { keeps = λ u h. h; adds = λ u v h k. refl }

linear-doubled : IsLinear (map (times 2))
linear-doubled = record { keeps = keeps; adds = adds }
  where
    keeps : (u : List ℕ) → IsFour u → IsFour (map (times 2) u)
    keeps u (four fa fb fc fd) = four (times_2-lt _ fa) (times_2-lt _ fb) (times_2-lt _ fc) (times_2-lt _ fd)

    adds : (u v : List ℕ) → IsFour u → IsFour v → map (times 2) (octets_sum u v) ≡ octets_sum (map (times 2) u) (map (times 2) v)
    adds u v (four fa fb fc fd) (four fp fq fr fs) =
        λ i. times_2-xor _ _ fa fp i ∷ times_2-xor _ _ fb fq i ∷ times_2-xor _ _ fc fr i ∷ times_2-xor _ _ fd fs i ∷ []

-- half of a column round
abbrev pub turned : List ℕ → List ℕ
turned u = drop 2 u ++ take 2 u

linear-turned : IsLinear turned
linear-turned = record { keeps = keeps; adds = adds }
  where
    keeps : (u : List ℕ) → IsFour u → IsFour (turned u)
    keeps u (four fa fb fc fd) = four fc fd fa fb

    adds : (u v : List ℕ) → IsFour u → IsFour v → turned (octets_sum u v) ≡ octets_sum (turned u) (turned v)
    adds u v (four _ _ _ _) (four _ _ _ _) = refl

row_lt : (a b c d : ℕ) → a < 256 → b < 256 → c < 256 → d < 256 → bit_xor (bit_xor (bit_xor (times 2 a) (times 3 b)) c) d < 256
row_lt a b c d fa fb fc fd =
    let thrice : times 3 b < 256 = subst (λ x. x < 256) (sym (times_3 b fb)) (xor_of_8 b (times 2 b) fb (times_2-lt b fb)) in
    xor_of_8 _ d (xor_of_8 _ c (xor_of_8 _ _ (times_2-lt a fa) thrice) fc) fd

row-sum : (a b c d p q r s : ℕ) → a < 256 → b < 256 → p < 256 → q < 256
    → bit_xor (bit_xor (bit_xor (times 2 (bit_xor a p)) (times 3 (bit_xor b q))) (bit_xor c r)) (bit_xor d s)
    ≡ bit_xor (bit_xor (bit_xor (bit_xor (times 2 a) (times 3 b)) c) d) (bit_xor (bit_xor (bit_xor (times 2 p) (times 3 q)) r) s)
row-sum a b c d p q r s fa fb fp fq =
    (λ i. bit_xor (bit_xor (bit_xor (times_2-xor a p fa fp i) (times_3-xor b q fb fq i)) (bit_xor c r)) (bit_xor d s))
    ∙ xor_four (times 2 a) (times 3 b) c d (times 2 p) (times 3 q) r s

-- MixColumns
pub linear-mixed_column : IsLinear mixed_column
unfolding mixed_column
linear-mixed_column = record { keeps = keeps; adds = adds }
  where
    keeps : (u : List ℕ) → IsFour u → IsFour (mixed_column u)
    keeps u (four fa fb fc fd) =
        four (row_lt _ _ _ _ fa fb fc fd) (row_lt _ _ _ _ fb fc fd fa) (row_lt _ _ _ _ fc fd fa fb) (row_lt _ _ _ _ fd fa fb fc)

    adds : (u v : List ℕ) → IsFour u → IsFour v → mixed_column (octets_sum u v) ≡ octets_sum (mixed_column u) (mixed_column v)
    adds u v (four {a} {b} {c} {d} fa fb fc fd) (four {a = p} {b = q} {c = r} {d = s} fp fq fr fs) =
        λ i. row-sum a b c d p q r s fa fb fp fq i ∷ row-sum b c d a q r s p fb fc fq fr i
        ∷ row-sum c d a b r s p q fc fd fr fs i ∷ row-sum d a b c s p q r fd fa fs fp i ∷ []

-- ---- the inverse

-- the product with 4 x ^ 2 + 5, the square of the polynomial of a mixed column
abbrev by_square : List ℕ → List ℕ
by_square u = octets_sum u (map (times 2) (map (times 2) (octets_sum u (turned u))))

linear-by_square : IsLinear by_square
linear-by_square =
    linear-sum _ _ linear-itself
    (linear-after (map (times 2)) _ linear-doubled (linear-after (map (times 2)) _ linear-doubled (linear-sum _ _ linear-itself linear-turned)))

-- a column before it is mixed: the product with 4 x ^ 2 + 5, and then with the polynomial of a mixed column (5.3.3)
abbrev pub inv_mixed_column : List ℕ → List ℕ
inv_mixed_column u = mixed_column (by_square u)

pub linear-inv_mixed_column : IsLinear inv_mixed_column
linear-inv_mixed_column =
    linear-after mixed_column by_square linear-mixed_column linear-by_square

-- ---- the same by shifts, which is quicker to compute than products

-- a column times a polynomial of degree 3, octet by octet, from the octets' doubles
abbrev mixed_row : ℕ → ℕ → ℕ → ℕ → ℕ
mixed_row a b c d = bit_xor (bit_xor (bit_xor (shifted a) (bit_xor b (shifted b))) c) d

abbrev mixed_octets : ℕ → ℕ → ℕ → ℕ → List ℕ
mixed_octets a b c d = mixed_row a b c d ∷ mixed_row b c d a ∷ mixed_row c d a b ∷ mixed_row d a b c ∷ []

mixed_by_shifts : List ℕ → List ℕ
mixed_by_shifts u = mixed_octets (slice_index u 0) (slice_index u 1) (slice_index u 2) (slice_index u 3)

is_mixed_by_shifts : (u : List ℕ) → IsFour u → mixed_column u ≡ mixed_by_shifts u
unfolding mixed_column mixed_by_shifts
is_mixed_by_shifts u (four {a} {b} {c} {d} fa fb fc fd) =
    let two_a = times_2 a fa in
    let two_b = times_2 b fb in
    let two_c = times_2 c fc in
    let two_d = times_2 d fd in
    let three_a = times_3 a fa ∙ ap (bit_xor a) two_a in
    let three_b = times_3 b fb ∙ ap (bit_xor b) two_b in
    let three_c = times_3 c fc ∙ ap (bit_xor c) two_c in
    let three_d = times_3 d fd ∙ ap (bit_xor d) two_d in
    λ i. bit_xor (bit_xor (bit_xor (two_a i) (three_b i)) c) d ∷ bit_xor (bit_xor (bit_xor (two_b i) (three_c i)) d) a
    ∷ bit_xor (bit_xor (bit_xor (two_c i) (three_d i)) a) b ∷ bit_xor (bit_xor (bit_xor (two_d i) (three_a i)) b) c ∷ []

doubled_by_shifts : (u : List ℕ) → IsFour u → map (times 2) u ≡ map shifted u
doubled_by_shifts u (four fa fb fc fd) = λ i. times_2 _ fa i ∷ times_2 _ fb i ∷ times_2 _ fc i ∷ times_2 _ fd i ∷ []

square_by_shifts : List ℕ → List ℕ
square_by_shifts u = octets_sum u (map shifted (map shifted (octets_sum u (turned u))))

is_square_by_shifts : (u : List ℕ) → IsFour u → by_square u ≡ square_by_shifts u
unfolding square_by_shifts
is_square_by_shifts u h =
    let once = IsFour-sum h (linear-turned.keeps u h) in
    ap (octets_sum u) (doubled_by_shifts _ (linear-doubled.keeps _ once) ∙ ap (map shifted) (doubled_by_shifts _ once))

-- whether two lists are equal
abbrev same : List ℕ → List ℕ → Bool
same [] [] = true
same [] (y ∷ ys) = false
same (x ∷ xs) [] = false
same (x ∷ xs) (y ∷ ys) = eqb x y && same xs ys

same-true : (xs ys : List ℕ) → same xs ys ≡ true → xs ≡ ys
same-true [] [] e = refl
same-true [] (y ∷ ys) e = absurd (false≢true e)
same-true (x ∷ xs) [] e = absurd (false≢true e)
same-true (x ∷ xs) (y ∷ ys) e =
    let parts = and_parts (eqb x y) (same xs ys) e in
    λ i. eqb-true x y parts.0 i ∷ same-true xs ys parts.1 i

-- a column in which an octet stands alone, in each row
abbrev in_row_0 : ℕ → List ℕ
in_row_0 n = n ∷ 0 ∷ 0 ∷ 0 ∷ []

abbrev in_row_1 : ℕ → List ℕ
in_row_1 n = 0 ∷ n ∷ 0 ∷ 0 ∷ []

abbrev in_row_2 : ℕ → List ℕ
in_row_2 n = 0 ∷ 0 ∷ n ∷ 0 ∷ []

abbrev in_row_3 : ℕ → List ℕ
in_row_3 n = 0 ∷ 0 ∷ 0 ∷ n ∷ []

-- whether a function gives back each octet that stands alone
abbrev GivesBack : (List ℕ → List ℕ) → (ℕ → List ℕ) → Type 0
GivesBack f place = list_all (λ n. same (f (place n)) (place n)) octets ≡ true

given_back : (f : List ℕ → List ℕ) (place : ℕ → List ℕ) → GivesBack f place → (n : ℕ) → n < 256 → f (place n) ≡ place n
given_back f place tests n fits = same-true (f (place n)) (place n) (at_octet (λ k. same (f (place k)) (place k)) tests n fits)

apart : (a b c d : ℕ) → octets_sum (octets_sum (in_row_0 a) (in_row_1 b)) (octets_sum (in_row_2 c) (in_row_3 d)) ≡ a ∷ b ∷ c ∷ d ∷ []
apart a b c d = λ i. (ap (λ x. bit_xor x 0) (xor_zero_r a) ∙ xor_zero_r a) i ∷ xor_zero_r b i ∷ xor_zero_r c i ∷ d ∷ []

-- a linear function gives back every column if what it is equal to gives back each octet alone
identity : (f g : List ℕ → List ℕ) → IsLinear f → ((u : List ℕ) → IsFour u → f u ≡ g u)
    → GivesBack g in_row_0 → GivesBack g in_row_1 → GivesBack g in_row_2 → GivesBack g in_row_3
    → (u : List ℕ) → IsFour u → f u ≡ u
identity f g linear is tests_0 tests_1 tests_2 tests_3 u (four {a} {b} {c} {d} fa fb fc fd) =
    let none : 0 < 256 = omega arith in
    let alone_a = four fa none none none in
    let alone_b = four none fb none none in
    let alone_c = four none none fc none in
    let alone_d = four none none none fd in
    let back_a = is (in_row_0 a) alone_a ∙ given_back g in_row_0 tests_0 a fa in
    let back_b = is (in_row_1 b) alone_b ∙ given_back g in_row_1 tests_1 b fb in
    let back_c = is (in_row_2 c) alone_c ∙ given_back g in_row_2 tests_2 c fc in
    let back_d = is (in_row_3 d) alone_d ∙ given_back g in_row_3 tests_3 d fd in
    ap f (sym (apart a b c d))
    ∙ linear.adds (octets_sum (in_row_0 a) (in_row_1 b)) (octets_sum (in_row_2 c) (in_row_3 d)) (IsFour-sum alone_a alone_b) (IsFour-sum alone_c alone_d)
    ∙ (λ i. octets_sum (linear.adds (in_row_0 a) (in_row_1 b) alone_a alone_b i) (linear.adds (in_row_2 c) (in_row_3 d) alone_c alone_d i))
    ∙ (λ i. octets_sum (octets_sum (back_a i) (back_b i)) (octets_sum (back_c i) (back_d i)))
    ∙ apart a b c d

pub mixed_column-inv_mixed_column : (u : List ℕ) → IsFour u → mixed_column (inv_mixed_column u) ≡ u
unfolding mixed_by_shifts square_by_shifts
mixed_column-inv_mixed_column =
    identity (λ u. mixed_column (inv_mixed_column u)) (λ u. mixed_by_shifts (mixed_by_shifts (square_by_shifts u)))
    (linear-after mixed_column inv_mixed_column linear-mixed_column linear-inv_mixed_column)
    (λ u h. is_mixed_by_shifts _ (linear-inv_mixed_column.keeps u h)
    ∙ ap mixed_by_shifts (is_mixed_by_shifts _ (linear-by_square.keeps u h) ∙ ap mixed_by_shifts (is_square_by_shifts u h)))
    refl refl refl refl

pub inv_mixed_column-mixed_column : (u : List ℕ) → IsFour u → inv_mixed_column (mixed_column u) ≡ u
unfolding mixed_by_shifts square_by_shifts
inv_mixed_column-mixed_column =
    identity (λ u. inv_mixed_column (mixed_column u)) (λ u. mixed_by_shifts (square_by_shifts (mixed_by_shifts u)))
    (linear-after inv_mixed_column mixed_column linear-inv_mixed_column linear-mixed_column)
    (λ u h. is_mixed_by_shifts _ (linear-by_square.keeps _ (linear-mixed_column.keeps u h))
    ∙ ap mixed_by_shifts (is_square_by_shifts _ (linear-mixed_column.keeps u h) ∙ ap square_by_shifts (is_mixed_by_shifts u h)))
    refl refl refl refl
