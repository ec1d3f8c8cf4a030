-- A carriage return at the end of octets.
use Rattle.std.proofs.Common.{◌≡◌, ◌≢◌, ℕ, zero, suc, ◌-◌, ◌<◌, List, [], ◌∷◌, length, take, slice_index_or, refl, ap, arith}
use Rattle.std.proofs.lemmas.Bool.{ne_eqb}
use Rattle.text_lines.specs.Texts.{without_return}

-- by the place of the last octet
kept : (xs : List ℕ) (n : ℕ) → length xs ≡ suc n → slice_index_or xs n 0 ≡ 13 → take n xs ≡ without_return xs
kept [] n long last = absurd (omega (arith, long))
kept (x ∷ []) zero long last = rw last refl
kept (x ∷ []) (suc n) long last = absurd (omega (arith, long))
kept (x ∷ y ∷ more) zero long last = absurd (omega (arith, long))
kept (x ∷ y ∷ more) (suc n) long last = ap (λ ys. x ∷ ys) (kept (y ∷ more) n (omega (arith, long)) last)

stays : (xs : List ℕ) (n : ℕ) → length xs ≡ suc n → slice_index_or xs n 0 ≢ 13 → xs ≡ without_return xs
stays [] n long other = refl
stays (x ∷ []) zero long other = rw (ne_eqb x 13 other) refl
stays (x ∷ []) (suc n) long other = absurd (omega (arith, long))
stays (x ∷ y ∷ more) zero long other = absurd (omega (arith, long))
stays (x ∷ y ∷ more) (suc n) long other = ap (λ ys. x ∷ ys) (stays (y ∷ more) n (omega (arith, long)) other)

pub returned : (xs : List ℕ) → 0 < length xs → slice_index_or xs (length xs - 1) 0 ≡ 13
    → take (length xs - 1) xs ≡ without_return xs
returned xs some last = kept xs (length xs - 1) (omega (arith, some)) last

pub unreturned : (xs : List ℕ) → 0 < length xs → slice_index_or xs (length xs - 1) 0 ≢ 13 → xs ≡ without_return xs
unreturned xs some other = stays xs (length xs - 1) (omega (arith, some)) other
