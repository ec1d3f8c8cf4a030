-- What is told of names that no group has when one packet more comes.
use Rattle.std.proofs.Common.{◌≡◌, ◌∙◌, ◌<◌, ◌≤◌, ◌+◌, ◌-◌, ℕ, zero, suc, Bool, true, false, cond, not, List, [], ◌∷◌, length, map, drop, Option, Some, None, refl, sym, ap, arith}
use Rattle.std.specs.Prelude.{◌||◌, nat_le, nat_lt, if◌then◌else◌}
use Rattle.std.specs.Option.{unwrap_or}
use Rattle.std.specs.List.{insert, list_any, position_or_len}
use Rattle.std.specs.Cmp.Lexicographic.{slice_cmp, texts_ties}
use Rattle.std.specs.Ordering.{nat_cmp, is_eq, is_lt}
use Rattle.std.specs.declared.cmp.Ordering.{Ordering}
use Rattle.std.specs.declared.cmp.Ordering.TheVariants.{Less, Equal, Greater}
use Rattle.std.proofs.lemmas.Bool.{leb-true, leb-false}
use Rattle.std.proofs.lemmas.Bool.Decides.{nat_tests}
use Rattle.std.proofs.lemmas.Cmp.{nat_list_eq_equiv}
use Rattle.std.proofs.lemmas.List.{length-drop, length-map}
use Rattle.std.proofs.lemmas.Map.Lookups.{exact_bytes}
use Rattle.audit_report.specs.declared.unknown.UnknownName.{UnknownName}
use Rattle.audit_report.specs.Unknown.{ascending, first_counted, first_names, first_of, more, most_names, names, number, packets_of, put, same_name, unknown_name, unknown_of}
use Rattle.audit_report.specs.inside.Naming.{comes_before, counted, nobody, with_name}

-- ---- names

equal : (o : Ordering) → is_eq o ≡ true → o ≡ Equal
equal Less e = absurd (cc e)
equal Equal e = refl
equal Greater e = absurd (cc e)

same-lists : (a b : List ℕ) → same_name a b ≡ true → a ≡ b
same-lists a b e = exact_bytes a b (equal (slice_cmp nat_cmp a b) (sym (texts_ties a b) ∙ e))

turned : (a b : List ℕ) → same_name a b ≡ same_name b a
turned a b = nat_list_eq_equiv.symm a b

abbrev holds : List ℕ → List (List ℕ) → Bool
holds ckn xs = list_any (λ it. same_name it ckn) xs

-- a name that is not there has no packets
absent : (ckn : List ℕ) (h : List (Option (List ℕ))) → holds ckn (names h) ≡ false
    → (packets_of ckn h ≡ 0) × (first_of ckn h ≡ 0)
absent ckn [] none = (refl, refl)
absent ckn (None ∷ h) none = absent ckn h none
absent ckn (Some other ∷ h) none = go (holds other (names h)) refl none (λ old. absent ckn h old)
  where
    other_here : holds other (names h) ≡ true → holds ckn (names h) ≡ false → same_name ckn other ≡ false
    other_here there old = by_test (same_name ckn other) refl
      where
        by_test : (b : Bool) → same_name ckn other ≡ b → b ≡ false
        by_test false is = refl
        by_test true is =
            absurd (cc (sym old ∙ ap (λ (x : List ℕ). holds x (names h)) (same-lists ckn other is) ∙ there))

    past : same_name ckn other ≡ false → (packets_of ckn h ≡ 0) × (first_of ckn h ≡ 0)
        → (packets_of ckn (Some other ∷ h) ≡ 0) × (first_of ckn (Some other ∷ h) ≡ 0)
    past is old = (
      ap (λ b. cond b (more (packets_of ckn h)) (packets_of ckn h)) is ∙ old.0,
      ap (λ b. cond b (first_counted (packets_of ckn h) (first_of ckn h) (number (Some other ∷ h))) (first_of ckn h)) is ∙ old.1,
    )

    both : (a b : Bool) → (a || b) ≡ false → (a ≡ false) × (b ≡ false)
    both true b e = absurd (cc e)
    both false b e = (refl, e)

    go : (b : Bool) → holds other (names h) ≡ b → holds ckn (cond b (names h) (other ∷ names h)) ≡ false
        → (holds ckn (names h) ≡ false → (packets_of ckn h ≡ 0) × (first_of ckn h ≡ 0))
        → (packets_of ckn (Some other ∷ h) ≡ 0) × (first_of ckn (Some other ∷ h) ≡ 0)
    go true there old later = past (other_here there old) (later old)
    go false there old later =
        let parts = both (same_name other ckn) (holds ckn (names h)) old in
        past (turned ckn other ∙ parts.0) (later parts.1)

-- ---- in order

length-put : (ckn : List ℕ) (xs : List (List ℕ)) → length (put ckn xs) ≡ suc (length xs)
length-put ckn [] = refl
length-put ckn (x ∷ xs) = go (is_lt (slice_cmp nat_cmp ckn x)) (length-put ckn xs)
  where
    go : (b : Bool) → length (put ckn xs) ≡ suc (length xs)
        → length (cond b (ckn ∷ x ∷ xs) (x ∷ put ckn xs)) ≡ suc (suc (length xs))
    go true later = refl
    go false later = ap suc later

length-ascending : (xs : List (List ℕ)) → length (ascending xs) ≡ length xs
length-ascending [] = refl
length-ascending (x ∷ xs) = length-put x (ascending xs) ∙ ap suc (length-ascending xs)

any-put : (p : List ℕ → Bool) (ckn : List ℕ) (xs : List (List ℕ)) → list_any p (put ckn xs) ≡ (p ckn || list_any p xs)
any-put p ckn [] = refl
any-put p ckn (x ∷ xs) = go (is_lt (slice_cmp nat_cmp ckn x)) (any-put p ckn xs)
  where
    swap : (a b c : Bool) → (a || (b || c)) ≡ (b || (a || c))
    swap true true c = refl
    swap true false c = refl
    swap false b c = refl

    go : (b : Bool) → list_any p (put ckn xs) ≡ (p ckn || list_any p xs)
        → list_any p (cond b (ckn ∷ x ∷ xs) (x ∷ put ckn xs)) ≡ (p ckn || (p x || list_any p xs))
    go true later = refl
    go false later = ap (λ b. p x || b) later ∙ swap (p x) (p ckn) (list_any p xs)

any-ascending : (p : List ℕ → Bool) (xs : List (List ℕ)) → list_any p (ascending xs) ≡ list_any p xs
any-ascending p [] = refl
any-ascending p (x ∷ xs) = any-put p x (ascending xs) ∙ ap (λ b. p x || b) (any-ascending p xs)

any-drop : (p : List ℕ → Bool) (n : ℕ) (xs : List (List ℕ)) → list_any p (drop n xs) ≡ true → list_any p xs ≡ true
any-drop p n [] is = go n is
  where
    go : (n : ℕ) → list_any p (drop n []) ≡ true → false ≡ true
    go zero is = is
    go (suc n) is = is
any-drop p zero (x ∷ xs) is = is
any-drop p (suc n) (x ∷ xs) is = ap (λ b. p x || b) (any-drop p n xs is) ∙ last (p x)
  where
    last : (b : Bool) → (b || true) ≡ true
    last true = refl
    last false = refl

any-told : (h : List (Option (List ℕ))) (ckn : List ℕ) (xs : List (List ℕ))
    → list_any (λ (u : UnknownName). same_name u.ckn ckn) (map (unknown_name h) xs) ≡ holds ckn xs
any-told h ckn [] = refl
any-told h ckn (x ∷ xs) = ap (λ b. same_name x ckn || b) (any-told h ckn xs)

-- ---- a name is put at its place

one-more : (n : ℕ) → 1 + n ≡ suc n
one-more n = omega arith

put-told : (h : List (Option (List ℕ))) (ckn : List ℕ) (xs : List (List ℕ)) → map (unknown_name h) (put ckn xs)
    ≡ insert (map (unknown_name h) xs) (position_or_len (λ (u : UnknownName). comes_before ckn u.ckn) (map (unknown_name h) xs))
    (unknown_name h ckn)
put-told h ckn [] = refl
put-told h ckn (x ∷ xs) = go (comes_before ckn x) (put-told h ckn xs)
  where
    at-place : (us : List UnknownName) (at : ℕ) (b : Bool)
        → map (unknown_name h) (put ckn xs) ≡ insert us at (unknown_name h ckn) → us ≡ map (unknown_name h) xs
        → map (unknown_name h) (cond b (ckn ∷ x ∷ xs) (x ∷ put ckn xs))
        ≡ insert (unknown_name h x ∷ us) (cond (not b) (1 + at) 0) (unknown_name h ckn)
    at-place us at true later same =
        ap (λ (vs : List UnknownName). unknown_name h ckn ∷ unknown_name h x ∷ vs) (sym same)
    at-place us at false later same =
        ap (λ (vs : List UnknownName). unknown_name h x ∷ vs) later
        ∙ ap (λ n. insert (unknown_name h x ∷ us) n (unknown_name h ckn)) (sym (one-more at))

    go : (b : Bool) → map (unknown_name h) (put ckn xs)
        ≡ insert (map (unknown_name h) xs) (position_or_len (λ (u : UnknownName). comes_before ckn u.ckn) (map (unknown_name h) xs)) (unknown_name h ckn)
        → map (unknown_name h) (cond b (ckn ∷ x ∷ xs) (x ∷ put ckn xs))
        ≡ insert (unknown_name h x ∷ map (unknown_name h) xs)
        (cond (not b) (1 + position_or_len (λ (u : UnknownName). comes_before ckn u.ckn) (map (unknown_name h) xs)) 0) (unknown_name h ckn)
    go b later =
        at-place (map (unknown_name h) xs)
        (position_or_len (λ (u : UnknownName). comes_before ckn u.ckn) (map (unknown_name h) xs)) b later refl

-- ---- an MKPDU more

module _ (h : List (Option (List ℕ))) (ckn : List ℕ) where
  there-same : holds ckn (names h) ≡ true → first_names (Some ckn ∷ h) ≡ first_names h
  there-same is = ap (λ b. let xs : List (List ℕ) = cond b (names h) (ckn ∷ names h) in drop (length xs - most_names) xs) is

  apart-more : holds ckn (names h) ≡ false
      → first_names (Some ckn ∷ h) ≡ drop (suc (length (names h)) - most_names) (ckn ∷ names h)
  apart-more is = ap (λ b. let xs : List (List ℕ) = cond b (names h) (ckn ∷ names h) in drop (length xs - most_names) xs) is

  -- there is no room
  full-same : 16 ≤ length (names h) → first_names (Some ckn ∷ h) ≡ first_names h
  full-same full = go (holds ckn (names h)) refl
    where
      go : (b : Bool) → holds ckn (names h) ≡ b → first_names (Some ckn ∷ h) ≡ first_names h
      go true is = there-same is
      go false is =
          let less : suc (length (names h)) - 16 ≡ suc (length (names h) - 16) = omega (arith, full) in
          apart-more is ∙ ap (λ n. drop n (ckn ∷ names h)) less

  abbrev told : List UnknownName
  told = unknown_of h

  count-is : length told ≡ length (names h) - (length (names h) - 16)
  count-is =
      length-map (ascending (first_names h)) (unknown_name h) ∙ length-ascending (first_names h)
      ∙ length-drop (length (names h) - 16) (names h)

  has-is : list_any (λ (u : UnknownName). same_name u.ckn ckn) told ≡ holds ckn (first_names h)
  has-is = any-told h ckn (ascending (first_names h)) ∙ any-ascending (λ it. same_name it ckn) (first_names h)

  -- it is new, and there is room
  new-put : length (names h) < 16 → holds ckn (first_names h) ≡ false
      → insert told (position_or_len (λ (u : UnknownName). comes_before ckn u.ckn) told) (nobody ckn)
      ≡ map (unknown_name h) (ascending (first_names (Some ckn ∷ h)))
  new-put room apart =
      let none : length (names h) - 16 ≡ 0 = omega (arith, room) in
      let also : suc (length (names h)) - 16 ≡ 0 = omega (arith, room) in
      let all : first_names h ≡ names h = ap (λ n. drop n (names h)) none in
      let away : holds ckn (names h) ≡ false = ap (holds ckn) (sym all) ∙ apart in
      let nothing = absent ckn h away in
      let more : first_names (Some ckn ∷ h) ≡ ckn ∷ names h =
      apart-more away ∙ ap (λ n. drop n (ckn ∷ names h)) also in
      ap (λ (xs : List (List ℕ)). insert (map (unknown_name h) (ascending xs))
      (position_or_len (λ (u : UnknownName). comes_before ckn u.ckn) (map (unknown_name h) (ascending xs))) (nobody ckn)) all
      ∙ (λ t. insert (map (unknown_name h) (ascending (names h)))
      (position_or_len (λ (u : UnknownName). comes_before ckn u.ckn) (map (unknown_name h) (ascending (names h))))
      (record { ckn = ckn; packets = sym nothing.0 t; first = sym nothing.1 t }))
      ∙ sym (put-told h ckn (ascending (names h)))
      ∙ ap (λ xs. map (unknown_name h) (ascending xs)) (sym more)

  pub put-is : with_name ckn told ≡ map (unknown_name h) (ascending (first_names (Some ckn ∷ h)))
  put-is =
      go (nat_le 16 (length told)) refl (list_any (λ (u : UnknownName). same_name u.ckn ckn) told) refl
    where
      go : (full : Bool) → nat_le 16 (length told) ≡ full → (there : Bool)
          → list_any (λ (u : UnknownName). same_name u.ckn ckn) told ≡ there
          → cond (full || there) told
          (insert told (position_or_len (λ (u : UnknownName). comes_before ckn u.ckn) told) (nobody ckn))
          ≡ map (unknown_name h) (ascending (first_names (Some ckn ∷ h)))
      go true full there has =
          let less = leb-true 16 (length told) full in
          let count = count-is in
          ap (λ xs. map (unknown_name h) (ascending xs)) (sym (full-same (omega (arith, less, count))))
      go false full true has =
          ap (λ xs. map (unknown_name h) (ascending xs))
          (sym (there-same (any-drop (λ it. same_name it ckn) (length (names h) - 16) (names h) (sym has-is ∙ has))))
      go false full false has =
          let less = leb-false 16 (length told) full in
          let count = count-is in
          new-put (omega (arith, less, count)) (sym has-is ∙ has)

  pub counted-is : (xs : List (List ℕ)) → map (counted ckn (number (Some ckn ∷ h))) (map (unknown_name h) xs)
      ≡ map (unknown_name (Some ckn ∷ h)) xs
  counted-is [] = refl
  counted-is (x ∷ xs) = ap (λ (us : List UnknownName). unknown_name (Some ckn ∷ h) x ∷ us) (counted-is xs)

-- ---- the place of a name among those that are told

le-step : (p : UnknownName → Bool) (u : UnknownName) (us : List UnknownName) → position_or_len p us ≤ length us → (b : Bool) → p u ≡ b
    → position_or_len p (u ∷ us) ≤ length (u ∷ us)
le-step p u us h true e = rw e (omega arith)
le-step p u us h false e = rw e (omega (arith, h))

position_or_len-le : (p : UnknownName → Bool) (us : List UnknownName) → position_or_len p us ≤ length us
position_or_len-le p [] = omega arith
position_or_len-le p (u ∷ us) = le-step p u us (position_or_len-le p us) (p u) refl

pub place-is : (p : UnknownName → Bool) (us : List UnknownName)
    → unwrap_or (if nat_lt (position_or_len p us) (length us) then Some (position_or_len p us) else None) (length us) ≡ position_or_len p us
place-is p us = grind (arith, nat_tests, position_or_len-le p us)

pub place-within : (p : UnknownName → Bool) (us : List UnknownName) (n : ℕ) → n ≡ position_or_len p us → n ≤ length us
place-within p us n e = omega (arith, e, position_or_len-le p us)
