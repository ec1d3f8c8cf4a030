-- What is found among all keys is what an unwrapping answers.
use Rattle.std.proofs.Common.{◌≡◌, ◌≢◌, ◌⊎◌, inl, inr, ℕ, zero, suc, ◌<◌, Bool, true, false, List, [], ◌∷◌, ◌++◌, map, length, Option, Some, None, All, refl, ap, sym, ◌∙◌, subst, arith}
use Rattle.std.specs.Prelude.{nat_eq, IsNone, ◌↔◌, slice_index_or}
use Rattle.std.specs.List.{find, flat_map}
use Rattle.std.proofs.lemmas.Bool.{eqb-true, eqb-false}
use lib.Pointwise.{pointwise, bytes_decides}
use Rattle.aes_block.specs.Aes.{IsOctets}
use Rattle.key_wrap.specs.Wrap.{wrapped}
use Rattle.sak_exchange.specs.Unwrapping.{below, octet_lists, unwrapped}
use Rattle.sak_exchange.proofs.Cases.{by_test, by_option}

-- an element is among those of a list
pub Among : {A : Type 0} → A → List A → Type 0
Among x [] = ⊥
Among x (y ∷ ys) = (y ≡ x) ⊎ Among x ys

among-first : {A : Type 0} (x : A) (ys zs : List A) → Among x ys → Among x (ys ++ zs)
unfolding Among
among-first x [] zs is = absurd is
among-first x (y ∷ ys) zs (inl same) = inl same
among-first x (y ∷ ys) zs (inr rest) = inr (among-first x ys zs rest)

among-second : {A : Type 0} (x : A) (ys zs : List A) → Among x zs → Among x (ys ++ zs)
unfolding Among
among-second x [] zs is = is
among-second x (y ∷ ys) zs is = inr (among-second x ys zs is)

among-either : {A : Type 0} (x : A) (ys zs : List A) → Among x (ys ++ zs) → Among x ys ⊎ Among x zs
unfolding Among
among-either x [] zs is = inr is
among-either x (y ∷ ys) zs (inl same) = inl (inl same)
among-either x (y ∷ ys) zs (inr rest) = elim (among-either x ys zs rest) [ inl a ↦ inl (inr a) | inr b ↦ inr b ]

-- ---- every list of octets is there, and nothing else

among-below : (n x : ℕ) → x < n → Among x (below n)
unfolding Among below
among-below zero x less = absurd (omega arith)
among-below (suc n) x less = by_test (nat_eq n x) (λ t. inl (eqb-true n x t)) (λ t. inr (among-below n x (let other = eqb-false n x t in omega arith)))

below-less : (n x : ℕ) → Among x (below n) → x < n
unfolding Among below
below-less zero x is = absurd is
below-less (suc n) x (inl same) = omega arith
below-less (suc n) x (inr rest) = let less = below-less n x rest in omega arith

with-octets : List ℕ → List ℕ → List (List ℕ)
with-octets octets rest = map (λ octet. octet ∷ rest) octets

among-with : (octets : List ℕ) (x : ℕ) (rest : List ℕ) → Among x octets → Among (x ∷ rest) (with-octets octets rest)
unfolding Among with-octets
among-with [] x rest is = absurd is
among-with (o ∷ octets) x rest (inl same) = inl (ap (λ (n : ℕ). n ∷ rest) same)
among-with (o ∷ octets) x rest (inr is) = inr (among-with octets x rest is)

among-all : (octets : List ℕ) (x : ℕ) (rest : List ℕ) (rests : List (List ℕ)) → Among x octets → Among rest rests → Among (x ∷ rest) (flat_map (with-octets octets) rests)
unfolding Among
among-all octets x rest [] first is = absurd is
among-all octets x rest (r ∷ rests) first (inl same) =
    among-first (x ∷ rest) (with-octets octets r) (flat_map (with-octets octets) rests) (subst (λ (q : List ℕ). Among (x ∷ rest) (with-octets octets q)) (sym same) (among-with octets x rest first))
among-all octets x rest (r ∷ rests) first (inr is) =
    among-second (x ∷ rest) (with-octets octets r) (flat_map (with-octets octets) rests) (among-all octets x rest rests first is)

head-octet : (n x : ℕ) (xs : List ℕ) → IsOctets n (x ∷ xs) → x < 256
head-octet n x xs o = o.octets 0 0 (omega arith)

tail-octets : (n x : ℕ) (xs : List ℕ) → IsOctets (suc n) (x ∷ xs) → IsOctets n xs
tail-octets n x xs o = record { count = let c : suc (length xs) ≡ suc n = o.count in omega arith; octets = λ k d less. o.octets (suc k) d (omega arith) }

pub all-there : (n : ℕ) (xs : List ℕ) → IsOctets n xs → Among xs (octet_lists n)
unfolding Among octet_lists with-octets
all-there zero [] o = inl refl
all-there zero (x ∷ xs) o = absurd (let c : suc (length xs) ≡ zero = o.count in omega arith)
all-there (suc n) [] o = absurd (let c : zero ≡ suc n = o.count in omega arith)
all-there (suc n) (x ∷ xs) o = among-all (below 256) x xs (octet_lists n) (among-below 256 x (head-octet (suc n) x xs o)) (all-there n xs (tail-octets n x xs o))

octet-at : (x : ℕ) (xs : List ℕ) → x < 256 → All (λ octet. octet < 256) xs → (k d : ℕ) → k < length (x ∷ xs) → slice_index_or (x ∷ xs) k d < 256
octet-at x xs less below zero d there = less
octet-at x xs less below (suc k) d there = below k d (omega arith)

more-octets : (n x : ℕ) (xs : List ℕ) → x < 256 → IsOctets n xs → IsOctets (suc n) (x ∷ xs)
more-octets n x xs less o = record { count = let c = o.count in omega arith; octets = octet-at x xs less o.octets }

with-are : (octets : List ℕ) (rest : List ℕ) (n : ℕ) (xs : List ℕ) → ((x : ℕ) → Among x octets → x < 256) → IsOctets n rest → Among xs (with-octets octets rest) → IsOctets (suc n) xs
unfolding Among with-octets
with-are [] rest n xs less o is = absurd is
with-are (x ∷ octets) rest n xs less o (inl same) = subst (IsOctets (suc n)) same (more-octets n x rest (less x (inl refl)) o)
with-are (x ∷ octets) rest n xs less o (inr is) = with-are octets rest n xs (λ y a. less y (inr a)) o is

all-are : (octets : List ℕ) (rests : List (List ℕ)) (n : ℕ) (xs : List ℕ) → ((x : ℕ) → Among x octets → x < 256) → ((r : List ℕ) → Among r rests → IsOctets n r) → Among xs (flat_map (with-octets octets) rests) → IsOctets (suc n) xs
unfolding Among
all-are octets [] n xs less are is = absurd is
all-are octets (r ∷ rests) n xs less are is =
    elim (among-either xs (with-octets octets r) (flat_map (with-octets octets) rests) is) [
      | inl first ↦ with-are octets r n xs less (are r (inl refl)) first
      | inr rest ↦ all-are octets rests n xs less (λ q a. are q (inr a)) rest
    ]

none-octets : IsOctets 0 []
none-octets = record { count = refl; octets = λ k d less. absurd (omega arith) }

pub there-are : (n : ℕ) (xs : List ℕ) → Among xs (octet_lists n) → IsOctets n xs
unfolding Among octet_lists with-octets
there-are zero xs (inl same) = subst (IsOctets 0) same none-octets
there-are zero xs (inr is) = absurd is
there-are (suc n) xs is = all-are (below 256) (octet_lists n) n xs (below-less 256) (there-are n) is

-- ---- finding

found-among : (test : List ℕ → Bool) (xs : List (List ℕ)) (x : List ℕ) → find test xs ≡ Some x → Among x xs × (test x ≡ true)
unfolding Among
found-among test [] x is = absurd (cc (is))
found-among test (y ∷ ys) x is =
    by_test (test y)
    (λ t. let first = rw t at is in let same : y ≡ x = cc (first) in (inl same, rw (← same) t))
    (λ t. let rest = rw t at is in let found = found-among test ys x rest in (inr found.0, found.1))

none-found : (test : List ℕ → Bool) (xs : List (List ℕ)) (x : List ℕ) → find test xs ≡ None → Among x xs → test x ≡ false
unfolding Among
none-found test [] x is a = absurd a
none-found test (y ∷ ys) x is (inl same) = by_test (test y) (λ t. let never = rw t at is in absurd (cc (never))) (λ t. rw (← same) t)
none-found test (y ∷ ys) x is (inr a) = by_test (test y) (λ t. let never = rw t at is in absurd (cc (never))) (λ t. let rest = rw t at is in none-found test ys x rest a)

is-none : {A : Type 0} (o : Option A) → IsNone o → o ≡ None
is-none None n = refl
is-none (Some x) n = absurd (cc (n))

pub unwrapped-is : (n : ℕ) (kek octets : List ℕ) (answer : Option (List ℕ)) → ((key : List ℕ) → IsOctets n key → wrapped kek key ≡ octets → answer ≡ Some key)
    → (IsNone answer ↔ ((key : List ℕ) → IsOctets n key → wrapped kek key ≢ octets)) → answer ≡ unwrapped n kek octets
unfolding unwrapped
unwrapped-is n kek octets answer only none =
    let test : List ℕ → Bool = λ key. pointwise nat_eq (wrapped kek key) octets in
    by_option (find test (octet_lists n))
    (λ missed. is-none answer (none.1 (λ key o same. let t = (bytes_decides (wrapped kek key) octets).1 same in let f = none-found test (octet_lists n) key missed (all-there n key o) in absurd (cc (t, f)))) ∙ sym missed)
    (λ key found. let is = found-among test (octet_lists n) key found in only key (there-are n key is.0) ((bytes_decides (wrapped kek key) octets).0 is.1) ∙ sym found)

pub unwrapped-key : (n : ℕ) (kek octets key : List ℕ) → unwrapped n kek octets ≡ Some key → IsOctets n key × (wrapped kek key ≡ octets)
unfolding unwrapped
unwrapped-key n kek octets key is =
    let found = found-among (λ k. pointwise nat_eq (wrapped kek k) octets) (octet_lists n) key is in (there-are n key found.0, (bytes_decides (wrapped kek key) octets).0 found.1)

pub key-unwrapped : (n : ℕ) (kek octets key : List ℕ) → ((other : List ℕ) → IsOctets n other × (wrapped kek other ≡ octets) → other ≡ key) → IsOctets n key → wrapped kek key ≡ octets → unwrapped n kek octets ≡ Some key
unfolding unwrapped
key-unwrapped n kek octets key one o same =
    let test : List ℕ → Bool = λ k. pointwise nat_eq (wrapped kek k) octets in
    by_option (find test (octet_lists n))
    (λ missed. let no = none-found test (octet_lists n) key missed (all-there n key o) in absurd (cc ((bytes_decides (wrapped kek key) octets).1 same, no)))
    (λ other found. let is = unwrapped-key n kek octets other found in found ∙ ap Some (one other is))
