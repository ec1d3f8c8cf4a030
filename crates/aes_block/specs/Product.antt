-- Products in a field of 2 ^ n elements. A string of n bits is a polynomial over two elements, and
-- the bit at place i is the coefficient of x ^ i. A product is reduced modulo x ^ n + r, where the
-- string r has the lower terms.
-- FIPS 197, section 4.2, has n = 8; SP 800-38D, section 6.3, has n = 128 and calls the steps Z and
-- V.
use Rattle.std.specs.Prelude.{Bool, true, false, if◌then◌else◌, List, [], ◌∷◌, map}

-- one or the other, not both
abbrev pub bit_sum : Bool → Bool → Bool
bit_sum true true = false
bit_sum true false = true
bit_sum false b = b

-- the sum of two strings, place by place
abbrev pub sum_of : List Bool → List Bool → List Bool
sum_of [] _ = []
sum_of (a ∷ us) [] = []
sum_of (a ∷ us) (b ∷ vs) = bit_sum a b ∷ sum_of us vs

-- the string moved on by one place: first this bit, and the last one falls out
abbrev pub moved : Bool → List Bool → List Bool
moved first [] = []
moved first (b ∷ bs) = first ∷ moved b bs

-- the last bit of a string, and this one where it is empty
abbrev pub last_bit : Bool → List Bool → Bool
last_bit otherwise [] = otherwise
last_bit otherwise (b ∷ bs) = last_bit b bs

-- the string times x
abbrev pub times_x : List Bool → List Bool → List Bool
times_x r v = if last_bit false v then sum_of r (moved false v) else moved false v

-- the product: the sum of v times x ^ i over the places i at which the first string has a bit
abbrev pub product : List Bool → List Bool → List Bool → List Bool
product r [] v = map (λ _. false) v
product r (true ∷ us) v = sum_of v (product r us (times_x r v))
product r (false ∷ us) v = product r us (times_x r v)
