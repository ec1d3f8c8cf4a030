-- First frames of keys, and their turns.
use Rattle.std.proofs.Common.{◌≡◌, ◌∙◌, ◌<◌, ◌≤◌, ℕ, suc, Bool, true, false, cond, not, List, [], ◌∷◌, length, Option, Some, None, refl, sym, ap, subst, arith}
use Rattle.std.specs.Prelude.{◌==◌, ◌||◌, filter, is_some, nat_lt}
use Rattle.std.specs.List.{list_any}
use Rattle.std.proofs.lemmas.Bool.{eqb-true, eq-eqb, ne_eqb, lt-ltb, le-ltb}
use Rattle.use_notes.specs.declared.frame.RightFrame.{RightFrame}
use Rattle.use_notes.specs.Frames.{IsBehind, AreInOrder}
use Rattle.use_notes.specs.changes.Changes.{under, earlier, later, is_first, firsts}
use Rattle.use_notes.specs.changes.Standing.{turn_of}

abbrev pub has_key : ℕ → List RightFrame → Bool
has_key key fs = list_any (λ f. f.key == key) fs

-- a key has a turn where some frame is under it
pub known-turn : (key : ℕ) (fs : List RightFrame) → is_some (turn_of key (firsts fs)) ≡ has_key key fs
known-turn key [] = refl
known-turn key (e ∷ fs) = go (is_first fs e) refl (e.key == key) refl (known-turn key fs)
  where
    go : (first : Bool) → is_first fs e ≡ first → (own : Bool) → (e.key == key) ≡ own
        → is_some (turn_of key (firsts fs)) ≡ has_key key fs
        → is_some (turn_of key (cond first (e ∷ firsts fs) (firsts fs))) ≡ ((e.key == key) || has_key key fs)
    go true is true own old = rw own refl
    go true is false own old = rw own old
    go false is true own old = rw own (old ∙ has)
      where
        not_first : (b : Bool) → not b ≡ false → b ≡ true
        not_first true e = refl
        not_first false e = absurd (cc e)

        has : has_key key fs ≡ true
        has = subst (λ k. has_key k fs ≡ true) (eqb-true e.key key own) (not_first (has_key e.key fs) is)
    go false is false own old = rw own old

pub none-of : {A : Type 0} (o : Option A) → is_some o ≡ false → o ≡ None
none-of None none = refl
none-of (Some x) none = absurd (cc none)

pub first-none : (fs : List RightFrame) (e : RightFrame) → is_first fs e ≡ true → turn_of e.key (firsts fs) ≡ None
first-none fs e is = none-of (turn_of e.key (firsts fs)) (known-turn e.key fs ∙ turned (has_key e.key fs) is)
  where
    turned : (b : Bool) → not b ≡ true → b ≡ false
    turned true e = absurd (cc e)
    turned false e = refl

pub is-first : (fs : List RightFrame) (e : RightFrame) → turn_of e.key (firsts fs) ≡ None → is_first fs e ≡ true
is-first fs e none = ap not (sym (known-turn e.key fs) ∙ ap (λ (o : Option ℕ). is_some o) none)

pub is-known : (fs : List RightFrame) (e : RightFrame) (turn : ℕ) → turn_of e.key (firsts fs) ≡ Some turn
    → is_first fs e ≡ false
is-known fs e turn some = ap not (sym (known-turn e.key fs) ∙ ap (λ (o : Option ℕ). is_some o) some)

-- the keys of these are different ones
abbrev pub AreApart : List RightFrame → Type 0
AreApart [] = Unit {0}
AreApart (e ∷ fs) = (turn_of e.key fs ≡ None) × AreApart fs

pub firsts-apart : (fs : List RightFrame) → AreApart (firsts fs)
firsts-apart [] = tt
firsts-apart (e ∷ fs) = go (is_first fs e) refl (firsts-apart fs)
  where
    go : (b : Bool) → is_first fs e ≡ b → AreApart (firsts fs) → AreApart (cond b (e ∷ firsts fs) (firsts fs))
    go true is apart = (first-none fs e is, apart)
    go false is apart = apart

pub firsts-behind : (packet : ℕ) (fs : List RightFrame) → IsBehind packet fs → IsBehind packet (firsts fs)
firsts-behind packet [] behind = behind
firsts-behind packet (e ∷ fs) behind = go (is_first fs e) (firsts-behind packet fs behind.1)
  where
    go : (b : Bool) → IsBehind packet (firsts fs) → IsBehind packet (cond b (e ∷ firsts fs) (firsts fs))
    go true rest = (behind.0, rest)
    go false rest = rest

-- ---- frames under a key

pub under-with : (key : ℕ) (e : RightFrame) (fs : List RightFrame) (b : Bool) → (e.key == key) ≡ b
    → under key (e ∷ fs) ≡ cond b (e ∷ under key fs) (under key fs)
under-with key e fs b is = ap (λ c. cond c (e ∷ under key fs) (under key fs)) is

pub under-own : (key : ℕ) (e : RightFrame) (fs : List RightFrame) → e.key ≡ key
    → under key (e ∷ fs) ≡ e ∷ under key fs
under-own key e fs is = under-with key e fs true (eq-eqb e.key key is)

pub under-other : (key : ℕ) (e : RightFrame) (fs : List RightFrame) → (e.key ≡ key → ⊥)
    → under key (e ∷ fs) ≡ under key fs
under-other key e fs apart = under-with key e fs false (ne_eqb e.key key apart)

pub under-behind : (key packet : ℕ) (fs : List RightFrame) → IsBehind packet fs → IsBehind packet (under key fs)
under-behind key packet [] behind = behind
under-behind key packet (e ∷ fs) behind = go (e.key == key) (under-behind key packet fs behind.1)
  where
    go : (b : Bool) → IsBehind packet (under key fs) → IsBehind packet (cond b (e ∷ under key fs) (under key fs))
    go true rest = (behind.0, rest)
    go false rest = rest

pub record Newest (key : ℕ) (fs : List RightFrame) : Type 0 where
  pub last : RightFrame
  pub rest : List RightFrame
  pub is : under key fs ≡ last ∷ rest
  pub own : last.key ≡ key

pub some-under : (key : ℕ) (fs : List RightFrame) → has_key key fs ≡ true → Newest key fs
some-under key [] has = absurd (cc has)
some-under key (e ∷ fs) has = go (e.key == key) refl (λ more. some-under key fs more)
  where
    go : (b : Bool) → (e.key == key) ≡ b → (has_key key fs ≡ true → Newest key fs) → Newest key (e ∷ fs)
    go true is old = record {
      last = e;
      rest = under key fs;
      is = under-with key e fs true is;
      own = eqb-true e.key key is;
    }
    go false is old =
        let more = old (ap (λ b. b || has_key key fs) (sym is) ∙ has) in record {
          last = more.last;
          rest = more.rest;
          is = under-with key e fs false is ∙ more.is;
          own = more.own;
        }

-- ---- frames before and behind a packet

pub all-earlier : (packet : ℕ) (fs : List RightFrame) → IsBehind packet fs → earlier packet fs ≡ fs
all-earlier packet [] behind = refl
all-earlier packet (e ∷ fs) behind =
    ap (λ b. cond b (e ∷ earlier packet fs) (earlier packet fs)) (lt-ltb e.packet packet behind.0)
    ∙ ap (λ (gs : List RightFrame). e ∷ gs) (all-earlier packet fs behind.1)

pub none-later : (packet : ℕ) (fs : List RightFrame) → IsBehind packet fs → later packet fs ≡ []
none-later packet [] behind = refl
none-later packet (e ∷ fs) behind =
    let before = behind.0 in
    ap (λ b. cond b (e ∷ later packet fs) (later packet fs)) (le-ltb packet e.packet (omega (arith, before)))
    ∙ none-later packet fs behind.1

pub not-earlier : (packet : ℕ) (e : RightFrame) (fs : List RightFrame) → packet < e.packet
    → earlier packet (e ∷ fs) ≡ earlier packet fs
not-earlier packet e fs before =
    ap (λ b. cond b (e ∷ earlier packet fs) (earlier packet fs)) (le-ltb e.packet packet (omega (arith, before)))

pub is-later : (packet : ℕ) (e : RightFrame) (fs : List RightFrame) → packet < e.packet
    → later packet (e ∷ fs) ≡ e ∷ later packet fs
is-later packet e fs before =
    ap (λ b. cond b (e ∷ later packet fs) (later packet fs)) (lt-ltb packet e.packet before)

-- ---- how many

filtered-few : (p : RightFrame → Bool) (fs : List RightFrame) → length (filter p fs) ≤ length fs
filtered-few p [] = omega arith
filtered-few p (e ∷ fs) = go (p e) (filtered-few p fs)
  where
    go : (b : Bool) → length (filter p fs) ≤ length fs
        → length (cond b (e ∷ filter p fs) (filter p fs)) ≤ suc (length fs)
    go true less = omega (arith, less)
    go false less = omega (arith, less)

few-before : (packet : ℕ) (fs : List RightFrame) → IsBehind packet fs → AreInOrder fs
    → suc (length fs) ≤ packet
few-before packet [] behind order = omega (arith, behind)
few-before packet (e ∷ fs) behind order =
    let more = few-before e.packet fs order.0 order.1 in
    let less = behind.0 in omega (arith, more, less)

-- those under a key behind a packet are fewer than there are packets
pub few-later : (key packet : ℕ) (e : RightFrame) (fs : List RightFrame) → AreInOrder (e ∷ fs)
    → suc (length (later packet (under key fs))) ≤ e.packet
few-later key packet e fs order =
    let all = few-before e.packet fs order.0 order.1 in
    let own = filtered-few (λ f. f.key == key) fs in
    let less = filtered-few (λ f. nat_lt packet f.packet) (under key fs) in omega (arith, all, own, less)
