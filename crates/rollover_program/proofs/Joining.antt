-- A key text is given piece by piece, and then what stands between it and the capture.
use Rattle.std.proofs.Common.{◌≡◌, ◌∙◌, ◌==◌, ◌<◌, ◌≤◌, ◌-◌, ℕ, zero, suc, Bool, List, [], ◌∷◌, ◌++◌, length, take, slice_index}
use Rattle.std.proofs.Common.{Option, None, Some, option_map, refl, sym, ap, arith, append_assoc}
use Rattle.lan_base.specs.Told.{before}
use Rattle.rollover_program.specs.Joined.{ends_line, seam}

-- what ends with the last of two parts
ends_behind : (ends : Bool) (xs ys : List ℕ) → ends_line ends (xs ++ ys) ≡ ends_line (ends_line ends xs) ys
ends_behind ends [] ys = refl
ends_behind ends (x ∷ xs) ys = ends_behind (x == 10) xs ys

-- whether a front ends with a line feed says its last octet
last_ends : (n : ℕ) (ends : Bool) (xs : List ℕ) → n < length xs
    → ends_line ends (take (suc n) xs) ≡ (slice_index xs n == 10)
last_ends n ends [] within = absurd (omega (arith, within))
last_ends zero ends (x ∷ xs) within = refl
last_ends (suc n) ends (x ∷ xs) within = last_ends n (x == 10) xs (omega (arith, within))

pub front_ends : (n : ℕ) (ends : Bool) (xs : List ℕ) → 0 < n → n ≤ length xs
    → ends_line ends (take n xs) ≡ (slice_index xs (n - 1) == 10)
front_ends zero ends xs some within = absurd (omega (arith, some))
front_ends (suc n) ends xs some within =
    let e : suc n - 1 ≡ n = omega arith in
    rw e (last_ends n ends xs (omega (arith, within)))

-- some octets of a key text go, and then the rest of it is left
pub goes_on : (ends now : Bool) (moved : List ℕ) (old new : Option (List ℕ)) → old ≡ before moved new
    → ends_line ends moved ≡ now
    → option_map (λ octets. octets ++ seam (ends_line ends octets)) old
    ≡ before moved (option_map (λ octets. octets ++ seam (ends_line now octets)) new)
goes_on ends now moved old None is by = rw is refl
goes_on ends now moved old (Some rest) is by =
    let behind : ends_line ends (moved ++ rest) ≡ ends_line now rest =
    ends_behind ends moved rest ∙ ap (λ b. ends_line b rest) by in
    rw (is, behind) (ap (λ xs. Some xs) (append_assoc moved rest (seam (ends_line now rest))))
