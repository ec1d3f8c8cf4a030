-- What says why a frame is undecided: identifiers, and lists of them with times.
use Rattle.std.proofs.Common.{◌≡◌, ◌∙◌, ◌+◌, ◌*◌, ◌≤◌, ◌⊎◌, inl, inr, ℕ, Bool, true, false, cond, List, [], ◌∷◌, Option, Some, None, refl, sym, ap, subst, arith}
use Rattle.std.specs.Prelude.{◌||◌, is_some}
use Rattle.std.specs.List.{list_any}
use Rattle.std.specs.Option.{option_or}
use Rattle.std.specs.Map.{lookup}
use Rattle.std.specs.BTreeMap.{insert_entry, is_at}
use Rattle.std.specs.Ordering.{is_eq, match_ordering}
use Rattle.std.specs.declared.cmp.Ordering.{Ordering}
use Rattle.std.specs.declared.cmp.Ordering.TheVariants.{Less, Equal, Greater}
use Rattle.std.proofs.lemmas.Bool.{or_cases, or_left, or_right, ltb-true, ltb-false, lt-ltb}
use Rattle.known_keys.specs.Undecided.{GroupId}
use Rattle.lan_base.specs.Instants.{is_recent, tick_nanos}
use Rattle.lan_base.specs.Timers.{life_time}
use Rattle.mkpdu_codec.specs.declared.offset.ConfidentialityOffset.{ConfidentialityOffset}
use Rattle.known_keys.specs.Maps.{IsCoveredBy, IsIn, Offsets, group_id_cmp, offset_at}
use Rattle.known_keys.specs.inside.Missing.{IsNamedMore, PutsFirst, is_later}
use Rattle.known_keys.proofs.Ties.{at-is, exact_group_id, same-bool}

-- ---- an identifier is named at a time

module _ (k : GroupId) (v : ℕ) where
  -- what was looked up is not above the time
  abbrev IsMost : List (GroupId × ℕ) → Type 0
  IsMost es = (w : ℕ) → lookup (is_at (group_id_cmp k)) es ≡ Some w → w ≤ v

  inserted-keeps : (es : List (GroupId × ℕ)) → IsMost es → IsCoveredBy es (insert_entry group_id_cmp es k v)
  inserted-keeps [] most x i = absurd i
  inserted-keeps (e ∷ es) most x i =
      go (group_id_cmp k e.0) refl (λ greater. inserted-keeps es (λ w found. most w
      (ap (λ (o : Ordering). cond (is_eq o) (Some e.1) (lookup (is_at (group_id_cmp k)) es)) greater ∙ found))) x i
    where
      go : (o : Ordering) → group_id_cmp k e.0 ≡ o
          → (group_id_cmp k e.0 ≡ Greater → IsCoveredBy es (insert_entry group_id_cmp es k v))
          → IsCoveredBy (e ∷ es)
          (match_ordering o ((k, v) ∷ e ∷ es) ((e.0, v) ∷ es) (e ∷ insert_entry group_id_cmp es k v))
      go Less is rest x i = (x, (inr i, (refl, omega arith)))
      go Equal is rest x (inl same) =
          let less = most e.1 (ap (λ (o : Ordering). cond (is_eq o) (Some e.1) (lookup (is_at (group_id_cmp k)) es)) is) in
          let time : x.1 ≡ e.1 = ap (λ (p : GroupId × ℕ). p.1) same in
          ((e.0, v), (inl refl, (ap (λ (p : GroupId × ℕ). p.0) (sym same), omega (arith, less, time))))
      go Equal is rest x (inr i) = (x, (inr i, (refl, omega arith)))
      go Greater is rest x (inl same) = (x, (inl same, (refl, omega arith)))
      go Greater is rest x (inr i) = let r = rest is x i in (r.0, (inr r.1.0, r.1.1))

  inserted-here : (es : List (GroupId × ℕ))
      → (y : GroupId × ℕ) × (IsIn (insert_entry group_id_cmp es k v) y × ((y.0 ≡ k) × (v ≤ y.1)))
  inserted-here [] = ((k, v), (inl refl, (refl, omega arith)))
  inserted-here (e ∷ es) = go (group_id_cmp k e.0) refl (inserted-here es)
    where
      go : (o : Ordering) → group_id_cmp k e.0 ≡ o
          → ((y : GroupId × ℕ) × (IsIn (insert_entry group_id_cmp es k v) y × ((y.0 ≡ k) × (v ≤ y.1))))
          → (y : GroupId × ℕ)
          × (IsIn (match_ordering o ((k, v) ∷ e ∷ es) ((e.0, v) ∷ es) (e ∷ insert_entry group_id_cmp es k v)) y
          × ((y.0 ≡ k) × (v ≤ y.1)))
      go Less is rest = ((k, v), (inl refl, (refl, omega arith)))
      go Equal is rest = ((e.0, v), (inl refl, (sym (exact_group_id k e.0 is), omega arith)))
      go Greater is rest = (rest.0, (inr rest.1.0, rest.1.1))

  inserted-only : (es : List (GroupId × ℕ)) (y : GroupId × ℕ) → IsIn (insert_entry group_id_cmp es k v) y
      → (y ≡ (k, v)) ⊎ IsIn es y
  inserted-only [] y (inl same) = inl same
  inserted-only [] y (inr i) = absurd i
  inserted-only (e ∷ es) y i = go (group_id_cmp k e.0) refl (inserted-only es y) i
    where
      timed : GroupId → GroupId × ℕ
      timed x = (x, v)

      later : (y ≡ (k, v)) ⊎ IsIn es y → (y ≡ (k, v)) ⊎ IsIn (e ∷ es) y
      later (inl same) = inl same
      later (inr i) = inr (inr i)

      go : (o : Ordering) → group_id_cmp k e.0 ≡ o
          → (IsIn (insert_entry group_id_cmp es k v) y → (y ≡ (k, v)) ⊎ IsIn es y)
          → IsIn (match_ordering o ((k, v) ∷ e ∷ es) ((e.0, v) ∷ es) (e ∷ insert_entry group_id_cmp es k v)) y
          → (y ≡ (k, v)) ⊎ IsIn (e ∷ es) y
      go Less is rest (inl same) = inl same
      go Less is rest (inr i) = inr i
      go Equal is rest (inl same) = inl (same ∙ ap (λ (x : GroupId). timed x) (sym (exact_group_id k e.0 is)))
      go Equal is rest (inr i) = inr (inr i)
      go Greater is rest (inl same) = inr (inl same)
      go Greater is rest (inr i) = later (rest i)

  -- a time that is later than the one before is put
  pub put-named : (old new : List (GroupId × ℕ))
      → is_later (lookup (is_at (group_id_cmp k)) old) v ≡ true
      → new ≡ insert_entry group_id_cmp old k v → IsNamedMore k v old new
  put-named old new later is =
      subst (λ (es : List (GroupId × ℕ)). IsNamedMore k v old es) (sym is)
      (record {
        kept = inserted-keeps old (λ w found.
            let less = ltb-true w v (ap (λ (o : Option ℕ). is_later o v) (sym found) ∙ later) in omega (arith, less));
        here = inserted-here old;
        only = inserted-only old;
      })

  found-in : (es : List (GroupId × ℕ)) (w : ℕ) → lookup (is_at (group_id_cmp k)) es ≡ Some w
      → (y : GroupId × ℕ) × (IsIn es y × ((y.0 ≡ k) × (y.1 ≡ w)))
  found-in [] w e = absurd (cc e)
  found-in (x ∷ xs) w e = go (is_at (group_id_cmp k) x.0) refl e (found-in xs w)
    where
      go : (b : Bool) → is_at (group_id_cmp k) x.0 ≡ b
          → cond b (Some x.1) (lookup (is_at (group_id_cmp k)) xs) ≡ Some w
          → (lookup (is_at (group_id_cmp k)) xs ≡ Some w → (y : GroupId × ℕ) × (IsIn xs y × ((y.0 ≡ k) × (y.1 ≡ w))))
          → (y : GroupId × ℕ) × (IsIn (x ∷ xs) y × ((y.0 ≡ k) × (y.1 ≡ w)))
      go true is found rest = (x, (inl refl, (sym (at-is k x.0 is), cc found)))
      go false is found rest = let r = rest found in (r.0, (inr r.1.0, r.1.1))

  -- one that is not later changes nothing
  pub still-named : (old : List (GroupId × ℕ)) → is_later (lookup (is_at (group_id_cmp k)) old) v ≡ false
      → IsNamedMore k v old old
  still-named old late = go (lookup (is_at (group_id_cmp k)) old) refl
    where
      go : (o : Option ℕ) → lookup (is_at (group_id_cmp k)) old ≡ o → IsNamedMore k v old old
      go None is = absurd (cc (ap (λ (o : Option ℕ). is_later o v) (sym is) ∙ late))
      go (Some w) is =
          let f = found-in old w is in
          let less = ltb-false w v (ap (λ (o : Option ℕ). is_later o v) (sym is) ∙ late) in
          let same = f.1.1.1 in
          record {
            kept = λ x i. (x, (i, (refl, omega arith)));
            here = (f.0, (f.1.0, (f.1.1.0, omega (arith, less, same))));
            only = λ y i. inr i;
          }

  -- what is kept covers what was named, and one more
  pub covers-more : (named old new : List (GroupId × ℕ)) → IsNamedMore k v old new
      → IsCoveredBy named old → IsCoveredBy ((k, v) ∷ named) new
  covers-more named old new more was x (inl same) =
      let here = more.here in
      let time : x.1 ≡ v = ap (λ (p : GroupId × ℕ). p.1) same in
      let less = here.1.1.1 in
      (here.0, (here.1.0, (here.1.1.0 ∙ ap (λ (p : GroupId × ℕ). p.0) (sym same), omega (arith, time, less))))
  covers-more named old new more was x (inr i) =
      let a = was x i in
      let b = more.kept a.0 a.1.0 in
      let one = a.1.1.1 in
      let other = b.1.1.1 in
      (b.0, (b.1.0, (b.1.1.0 ∙ a.1.1.0, omega (arith, one, other))))

  pub covered-more : (named old new : List (GroupId × ℕ)) → IsNamedMore k v old new
      → IsCoveredBy old named → IsCoveredBy new ((k, v) ∷ named)
  covered-more named old new more was y i = go (more.only y i)
    where
      go : (y ≡ (k, v)) ⊎ IsIn old y
          → (z : GroupId × ℕ) × (IsIn ((k, v) ∷ named) z × ((z.0 ≡ y.0) × (y.1 ≤ z.1)))
      go (inl same) = (y, (inl same, (refl, omega arith)))
      go (inr j) = let a = was y j in (a.0, (inr a.1.0, a.1.1))

-- ---- one of a list

module _ (f : GroupId × ℕ → Bool) where
  in-any : (ys : List (GroupId × ℕ)) (y : GroupId × ℕ) → IsIn ys y → f y ≡ true → list_any f ys ≡ true
  in-any [] y i passes = absurd i
  in-any (z ∷ ys) y (inl same) passes =
      or_left (f z) (list_any f ys) (ap (λ (x : GroupId × ℕ). f x) (sym same) ∙ passes)
  in-any (z ∷ ys) y (inr i) passes = or_right (f z) (list_any f ys) (in-any ys y i passes)

  any-in : (xs : List (GroupId × ℕ)) → list_any f xs ≡ true → (x : GroupId × ℕ) × (IsIn xs x × (f x ≡ true))
  any-in [] e = absurd (cc e)
  any-in (x ∷ xs) e = go (or_cases (f x) (list_any f xs) e) (any-in xs)
    where
      go : (f x ≡ true) ⊎ (list_any f xs ≡ true)
          → (list_any f xs ≡ true → (y : GroupId × ℕ) × (IsIn xs y × (f y ≡ true)))
          → (y : GroupId × ℕ) × (IsIn (x ∷ xs) y × (f y ≡ true))
      go (inl here) rest = (x, (inl refl, here))
      go (inr there) rest = let r = rest there in (r.0, (inr r.1.0, r.1.1))

  any-covered : ((x y : GroupId × ℕ) → y.0 ≡ x.0 → x.1 ≤ y.1 → f x ≡ true → f y ≡ true)
      → (xs ys : List (GroupId × ℕ)) → IsCoveredBy xs ys → list_any f xs ≡ true → list_any f ys ≡ true
  any-covered later xs ys covered e =
      let a = any-in xs e in
      let b = covered a.0 a.1.0 in
      in-any ys b.0 b.1.0 (later a.0 b.0 b.1.1.0 b.1.1.1 a.1.1)

  -- two lists that cover one another have one that passes, or neither has
  pub any-of-covered : ((x y : GroupId × ℕ) → y.0 ≡ x.0 → x.1 ≤ y.1 → f x ≡ true → f y ≡ true)
      → (xs ys : List (GroupId × ℕ)) → IsCoveredBy xs ys → IsCoveredBy ys xs → list_any f xs ≡ list_any f ys
  any-of-covered later xs ys there back =
      same-bool (list_any f xs) (list_any f ys) (any-covered later xs ys there) (any-covered later ys xs back)

pub any-same : (f g : GroupId × ℕ → Bool) → ((x : GroupId × ℕ) → f x ≡ g x) → (xs : List (GroupId × ℕ))
    → list_any f xs ≡ list_any g xs
any-same f g same [] = refl
any-same f g same (x ∷ xs) =
    ap (λ b. b || list_any f xs) (same x) ∙ ap (λ b. g x || b) (any-same f g same xs)

-- what is recent stays so at a later time
pub recent-later : (t u now : ℕ) → t ≤ u → is_recent t now ≡ true → is_recent u now ≡ true
recent-later t u now less e =
    let before = ltb-true now (t + life_time * tick_nanos) e in lt-ltb now (u + life_time * tick_nanos) (omega (arith, before, less))

-- ---- the offset of the first SAK

module _ (it : GroupId) (offset : ConfidentialityOffset) where
  -- none was there
  pub first-put : (old new : Offsets) → is_some (offset_at old it) ≡ false
      → ((q : GroupId) → offset_at new q ≡ cond (is_at (group_id_cmp it) q) (Some offset) (offset_at old q))
      → PutsFirst it offset old new
  first-put old new absent updates q = updates q ∙ go (is_at (group_id_cmp it) q) refl
    where
      no-offset : (o : Option ConfidentialityOffset) → is_some o ≡ false → o ≡ None
      no-offset None e = refl
      no-offset (Some x) e = absurd (cc e)

      or-none : (o : Option ConfidentialityOffset) → o ≡ option_or o None
      or-none None = refl
      or-none (Some x) = refl

      go : (b : Bool) → is_at (group_id_cmp it) q ≡ b
          → cond b (Some offset) (offset_at old q) ≡ option_or (offset_at old q) (cond b (Some offset) None)
      go true is =
          sym (ap (λ (o : Option ConfidentialityOffset). option_or o (Some offset))
          (ap (λ (x : GroupId). offset_at old x) (sym (at-is it q is)) ∙ no-offset (offset_at old it) absent))
      go false is = or-none (offset_at old q)

  -- one was there
  pub first-stays : (old : Offsets) → is_some (offset_at old it) ≡ true → PutsFirst it offset old old
  first-stays old there q = go (is_at (group_id_cmp it) q) refl (offset_at old q) refl
    where
      go : (b : Bool) → is_at (group_id_cmp it) q ≡ b → (o : Option ConfidentialityOffset) → offset_at old q ≡ o
          → o ≡ option_or o (cond b (Some offset) None)
      go b is (Some x) e = refl
      go false is None e = refl
      go true is None e =
          absurd (cc (sym there ∙ ap (λ (x : GroupId). is_some (offset_at old x)) (at-is it q is)
          ∙ ap (λ (o : Option ConfidentialityOffset). is_some o) e))
