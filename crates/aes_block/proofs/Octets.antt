-- Lists of octets, element by element.
use Rattle.std.proofs.Common.{ℕ, zero, suc, ◌<◌, List, [], ◌∷◌, ◌++◌, length, take, drop, get_or, map, arith}
use Rattle.std.specs.List.{All}
use Rattle.std.proofs.lemmas.Nat.{xor_of_8}
use Rattle.aes_block.specs.Octet.{octets_sum}

-- each number of the list is an octet
abbrev pub AreOctets : List ℕ → Type 0
AreOctets [] = Unit {0}
AreOctets (x ∷ xs) = (x < 256) × AreOctets xs

AreOctets-at : (xs : List ℕ) → AreOctets xs → (k d : ℕ) → k < length xs → get_or xs k d < 256
AreOctets-at [] h k d lt = absurd (omega arith)
AreOctets-at (x ∷ xs) h zero d lt = h.0
AreOctets-at (x ∷ xs) h (suc k) d lt = AreOctets-at xs h.1 k d (omega arith)

-- and past the end there is none
pub AreOctets-anywhere : (xs : List ℕ) → AreOctets xs → (k : ℕ) → get_or xs k 0 < 256
AreOctets-anywhere [] h k = omega arith
AreOctets-anywhere (x ∷ xs) h zero = h.0
AreOctets-anywhere (x ∷ xs) h (suc k) = AreOctets-anywhere xs h.1 k

pub All-from_AreOctets : (xs : List ℕ) → AreOctets xs → All (λ x. x < 256) xs
All-from_AreOctets xs h = λ k d lt. AreOctets-at xs h k d lt

pub AreOctets-from_All : (xs : List ℕ) → All (λ x. x < 256) xs → AreOctets xs
AreOctets-from_All [] all = tt
AreOctets-from_All (x ∷ xs) all = (all 0 0 (omega arith), AreOctets-from_All xs (λ k d lt. all (suc k) d (omega arith)))

pub AreOctets-append : (xs ys : List ℕ) → AreOctets xs → AreOctets ys → AreOctets (xs ++ ys)
AreOctets-append [] ys a b = b
AreOctets-append (x ∷ xs) ys a b = (a.0, AreOctets-append xs ys a.1 b)

pub AreOctets-map : (f : ℕ → ℕ) → ((n : ℕ) → n < 256 → f n < 256) → (xs : List ℕ) → AreOctets xs → AreOctets (map f xs)
AreOctets-map f fits [] h = tt
AreOctets-map f fits (x ∷ xs) h = (fits x h.0, AreOctets-map f fits xs h.1)

pub AreOctets-octets_sum : (xs ys : List ℕ) → AreOctets xs → AreOctets ys → AreOctets (octets_sum xs ys)
AreOctets-octets_sum [] ys a b = tt
AreOctets-octets_sum (x ∷ xs) [] a b = tt
AreOctets-octets_sum (x ∷ xs) (y ∷ ys) a b = (xor_of_8 x y a.0 b.0, AreOctets-octets_sum xs ys a.1 b.1)

pub AreOctets-take : (n : ℕ) (xs : List ℕ) → AreOctets xs → AreOctets (take n xs)
AreOctets-take zero xs h = tt
AreOctets-take (suc n) [] h = tt
AreOctets-take (suc n) (x ∷ xs) h = (h.0, AreOctets-take n xs h.1)

pub AreOctets-drop : (n : ℕ) (xs : List ℕ) → AreOctets xs → AreOctets (drop n xs)
AreOctets-drop zero xs h = h
AreOctets-drop (suc n) [] h = tt
AreOctets-drop (suc n) (x ∷ xs) h = AreOctets-drop n xs h.1
