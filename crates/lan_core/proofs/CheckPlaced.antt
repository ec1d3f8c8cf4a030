-- Frames are found by their check values.
use Rattle.std.proofs.Common.{◌≡◌, ◌∙◌, ◌⊎◌, inl, inr, ℕ, zero, suc, Bool, true, false, ◌||◌, cond, List, [], ◌∷◌, ◌++◌, length, Option, Some, None, refl, sym, ap, subst}
use Rattle.std.proofs.lemmas.List.Folds.{Any-from_list_any, list_any_at}
use Rattle.std.proofs.lemmas.Option.{get_or_from_slice_get, slice_get_read, slice_get_within}
use Rattle.std.specs.Prelude.{nat_eq, slice_get, is_some, ◌&&◌, if◌then◌else◌, IfSome}
use Rattle.std.specs.List.{list_any}
use lib.Pointwise.{pointwise, bytes_decides}
use Rattle.mkpdu_codec.specs.Reading.{check_value}
use Rattle.lan_core.specs.inside.Repeats.{begins, begins_at, first_with, is_so, Checks, IsFound}
use Rattle.lan_core.proofs.DrawsLookedUp.{here, number_at, Keeps}

-- ---- a place is kept by its check value

abbrev checks_of : List (List ℕ × ℕ) → List ℕ → Checks
checks_of firsts others = record { firsts = firsts; others = others }

pub none_of : (o : Option ℕ) → is_some o ≡ false → o ≡ None
none_of None e = refl
none_of (Some n) e = absurd cc

-- a first place with a check value takes the place of no other
pub kept_first : (place : ℕ) (check : List ℕ) (old new : List (List ℕ × ℕ)) (others : List ℕ) → number_at old check ≡ None → Keeps place check old new
    → (c : List ℕ) (p : ℕ) → IsFound (checks_of old others) c p → IsFound (checks_of new others) c p
kept_first place check old new others none keeps c p (inl there) = inl (go (pointwise nat_eq c check) refl)
  where
    go : (same : Bool) → pointwise nat_eq c check ≡ same → number_at new c ≡ Some p
    go true e =
        let is : c ≡ check = (bytes_decides c check).0 e in
        let gone : None ≡ Some p = sym none ∙ ap (number_at old) (sym is) ∙ there in
        absurd (cc gone)
    go false e = here place check old new keeps c ∙ ap (λ b. cond b (Some place) (number_at old c)) e ∙ there
kept_first place check old new others none keeps c p (inr more) = inr more

-- ---- a frame more

last_or : {A : Type 0} (xs : List A) (y z : A) (i : ℕ) → slice_get (xs ++ y ∷ []) i ≡ Some z → (slice_get xs i ≡ Some z) ⊎ ((i ≡ length xs) × (y ≡ z))
last_or [] y z zero e = inr (refl, cc e)
last_or [] y z (suc i) e = absurd (cc e)
last_or (x ∷ xs) y z zero e = inl e
last_or (x ∷ xs) y z (suc i) e = go (last_or xs y z i e)
  where
    go : (slice_get xs i ≡ Some z) ⊎ ((i ≡ length xs) × (y ≡ z)) → (slice_get xs i ≡ Some z) ⊎ ((suc i ≡ suc (length xs)) × (y ≡ z))
    go (inl before) = inl before
    go (inr last) = inr (ap suc last.0, last.1)

-- what was found stays found, and the last frame is
pub found_more : (frames : List (List ℕ)) (frame : List ℕ) (old new : Checks)
    → ((place : ℕ) (f c : List ℕ) → slice_get frames place ≡ Some f → check_value f ≡ Some c → IsFound old c place)
    → ((c : List ℕ) (p : ℕ) → IsFound old c p → IsFound new c p)
    → ((c : List ℕ) → check_value frame ≡ Some c → IsFound new c (length frames))
    → (place : ℕ) (f c : List ℕ) → slice_get (frames ++ frame ∷ []) place ≡ Some f → check_value f ≡ Some c → IsFound new c place
found_more frames frame old new before kept last place f c there valued = go (last_or frames frame f place there)
  where
    go : (slice_get frames place ≡ Some f) ⊎ ((place ≡ length frames) × (frame ≡ f)) → IsFound new c place
    go (inl earlier) = kept c place (before place f c earlier valued)
    go (inr is) = subst (λ p. IsFound new c p) (sym is.0) (last c (ap check_value is.1 ∙ valued))

pub last_found : (given : Option (List ℕ)) (frame : List ℕ) (new : Checks) (place n : ℕ) → given ≡ check_value frame → IfSome given (λ c. IsFound new c place) → place ≡ n
    → (c : List ℕ) → check_value frame ≡ Some c → IsFound new c n
last_found given frame new place n is found at c valued =
    subst (λ p. IsFound new c p) at (subst (λ (o : Option (List ℕ)). IfSome o (λ d. IsFound new d place)) (is ∙ valued) found)

-- ---- frames are looked up

any_at : (p : List ℕ → Bool) (frames : List (List ℕ)) (k : ℕ) (o : Option (List ℕ)) → slice_get frames k ≡ o → is_so p o ≡ true → list_any p frames ≡ true
any_at p frames k None there e = absurd cc
any_at p frames k (Some f) there e = list_any_at p frames k f (slice_get_within frames k f there) (ap p (get_or_from_slice_get frames k f f there) ∙ e)

any_begins : (frames : List (List ℕ)) (octets : List ℕ) (place : Option ℕ) → begins_at frames octets place ≡ true → list_any (begins octets) frames ≡ true
any_begins frames octets None e = absurd cc
any_begins frames octets (Some k) e = any_at (begins octets) frames k (slice_get frames k) refl e

or_is : (a b c : Bool) → (a ≡ true → c ≡ true) → (b ≡ true → c ≡ true) → (c ≡ true → (a ≡ true) ⊎ (b ≡ true)) → (a || b) ≡ c
or_is true b c f g h = sym (f refl)
or_is false true c f g h = sym (g refl)
or_is false false true f g h = go (h refl)
  where
    go : (false ≡ true) ⊎ (false ≡ true) → false ≡ true
    go (inl e) = e
    go (inr e) = e
or_is false false false f g h = refl

-- the frames that begin with octets are among those that are found by their check value
pub found_any : (frames : List (List ℕ)) (checks : Checks) (octets check : List ℕ)
    → ((place : ℕ) (f c : List ℕ) → slice_get frames place ≡ Some f → check_value f ≡ Some c → IsFound checks c place)
    → ((f : List ℕ) → begins octets f ≡ true → check_value f ≡ Some check)
    → (begins_at frames octets (first_with checks check) || list_any (λ place. begins_at frames octets (Some place)) checks.others) ≡ list_any (begins octets) frames
found_any frames checks octets check found only =
    or_is (begins_at frames octets (first_with checks check)) (list_any (λ place. begins_at frames octets (Some place)) checks.others) (list_any (begins octets) frames)
    (λ e. any_begins frames octets (first_with checks check) e)
    (λ e.
    let some = Any-from_list_any (λ place. begins_at frames octets (Some place)) checks.others e in
    any_begins frames octets (Some some.1) some.4)
    (λ e.
    let some = Any-from_list_any (begins octets) frames e in
    let k = some.0 in
    let f = some.1 in
    let there : slice_get frames k ≡ Some f = slice_get_read frames (length frames) k f refl some.2 (sym some.3) in
    let begun : begins_at frames octets (Some k) ≡ true = ap (is_so (begins octets)) there ∙ some.4 in
    go k begun (found k f check there (only f some.4)))
  where
    go : (k : ℕ) → begins_at frames octets (Some k) ≡ true → IsFound checks check k
        → (begins_at frames octets (first_with checks check) ≡ true) ⊎ (list_any (λ place. begins_at frames octets (Some place)) checks.others ≡ true)
    go k begun (inl first) = inl (ap (begins_at frames octets) first ∙ begun)
    go k begun (inr more) =
        inr (list_any_at (λ place. begins_at frames octets (Some place)) checks.others more.0 k more.1
        (ap (λ place. begins_at frames octets (Some place)) more.2 ∙ begun))

pub or_then : (a b c : Bool) → a ≡ true → (a || b) ≡ c → a ≡ c
or_then true b c e whole = whole
or_then false b c e whole = absurd cc

pub or_else : (a b c : Bool) → a ≡ false → (a || b) ≡ c → b ≡ c
or_else false b c e whole = whole
or_else true b c e whole = absurd cc
