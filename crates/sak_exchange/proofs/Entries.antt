-- The latest key, the old one and the one that transmits, an entry later.
use Rattle.std.proofs.Common.{◌≡◌, ℕ, ◌+◌, ◌<◌, ◌≤◌, Bool, true, false, cond, ◌&&◌, List, [], ◌∷◌, Option, Some, None, refl, ap, sym, ◌∙◌, arith}
use Rattle.std.proofs.lemmas.Bool.{eqb-true, eq-eqb, lt-ltb, ltb-true, ltb-false}
use Rattle.std.specs.Prelude.{nat_lt, ◌==◌}
use Rattle.std.specs.List.{list_any, find}
use Rattle.lan_base.specs.declared.address.Mi.{Mi}
use Rattle.lan_base.specs.AssociationNumbers.{same_an}
use Rattle.sak_exchange.specs.declared.held_key.Key.{Key}
use Rattle.sak_exchange.specs.Histories.{Keying, ticked, installed, began, clock, installs, last_key, begun_at, has_begun, last_begun}
use Rattle.sak_exchange.specs.Held.{is_retire_time_ago, ends, received, has_epoch, latest, old, transmitting, is_latest, KeepsRules}
use Rattle.sak_exchange.specs.Beginning.{retired}
use Rattle.sak_exchange.specs.Lives.{apart}
use Rattle.sak_exchange.proofs.Cases.{by_test, by_option}
use Rattle.sak_exchange.proofs.Epochs.{last-epoch, may-begin, latest-epoch, begun-upto}
use Rattle.sak_exchange.proofs.Shape.{IsBeside, none, one, two, shape, received-next, left-none, keeps-one, keeps-first, keeps-second, keeps-both, keeps-neither, keeps-none, latest-none, latest-one, latest-two, not-ended, all-dropped, ends-unbegun, unbegun-of}
use Rattle.sak_exchange.proofs.Stays.{retired-by, ago-begun}

-- whether the latest key began the retire time before the next tick
abbrev pub is_over : List Keying → Bool
is_over h = is_latest h (λ k. is_retire_time_ago (clock h + 1) (begun_at h k.epoch))

-- the latest key where it has begun, else the old one
abbrev pub current : List Keying → Option Key
current h = cond (is_latest h (λ k. has_begun h k.epoch)) (latest h) (old h)

pub record AreKeys (h : List Keying) (l o : Option Key) : Type 0 where
  pub latest : latest h ≡ l
  pub old : old h ≡ o

none-are : (h : List Keying) → received h ≡ [] → AreKeys h None None
none-are h r = let keys = latest-none h r in record { latest = keys.0; old = keys.1 }

one-are : (h : List Keying) (l : Key) → received h ≡ l ∷ [] → last_key h ≡ Some l → AreKeys h (Some l) None
one-are h l r last = let keys = latest-one h l r last in record { latest = keys.0; old = keys.1 }

two-are : (h : List Keying) (l o : Key) → received h ≡ l ∷ o ∷ [] → last_key h ≡ Some l → o.epoch < l.epoch → AreKeys h (Some l) (Some o)
two-are h l o r last less = let keys = latest-two h l o r last less in record { latest = keys.0; old = keys.1 }

-- what holds of the last key's epoch holds of one among the installs
any-last : (h : List Keying) (l : Key) (test : ℕ → Bool) → last_key h ≡ Some l → test l.epoch ≡ true → list_any (λ k. test k.epoch) (installs h) ≡ true
any-last [] l test last is = absurd (cc (last))
any-last (ticked s ∷ h) l test last is = any-last h l test last is
any-last (installed r k ∷ h) l test last is = let same : k ≡ l = cc (last) in let this : test k.epoch ≡ true = rw same is in rw this refl
any-last (began e ∷ h) l test last is = any-last h l test last is

-- a tick with an elected server ends the old key exactly where the latest one began the retire time ago
ends-old : (h : List Keying) (l o : Key) → last_key h ≡ Some l → IsBeside h l o → ends (ticked true) h o ≡ is_retire_time_ago (clock h + 1) (begun_at h l.epoch)
ends-old h l o last b =
    by_test (is_retire_time_ago (clock h + 1) (begun_at h l.epoch))
    (λ ago. let later : (nat_lt o.epoch l.epoch && is_retire_time_ago (clock h + 1) (begun_at h l.epoch)) ≡ true = rw (lt-ltb o.epoch l.epoch b.less, ago) refl in
    any-last h l (λ e. nat_lt o.epoch e && is_retire_time_ago (clock h + 1) (begun_at h e)) last later ∙ sym ago)
    (λ ago. by_test (ends (ticked true) h o)
    (λ t. let by = retired-by h o.epoch (installs h) t in
    let same = b.only by.later (ago-begun (clock h + 1) (begun_at h by.later) by.ago) by.less in
    let never : is_retire_time_ago (clock h + 1) (begun_at h by.later) ≡ false = rw same ago in absurd (cc (by.ago, never)))
    (λ t. t ∙ sym ago))

pub keys-ticked : (base : ℕ) (h : List Keying) → KeepsRules base h → AreKeys (ticked true ∷ h) (latest h) (cond (is_over h) None (old h))
keys-ticked base h kept =
    let x : Keying = ticked true in
    elim (shape base h kept) [
      | none r ↦ let keys = latest-none h r in rw (keys.0, keys.1) (none-are (x ∷ h) (received-next x h [] r ∙ left-none x h))
      | one l r last ↦ let keys = latest-one h l r last in
          let next = one-are (x ∷ h) l (received-next x h (l ∷ []) r ∙ keeps-one x h l (not-ended base h l kept last)) last in
          rw (keys.0, keys.1) (by_test (is_retire_time_ago (clock h + 1) (begun_at h l.epoch)) (λ ago. rw ago next) (λ ago. rw ago next))
      | two l o r last b ↦ let keys = latest-two h l o r last b.less in
          let on = not-ended base h l kept last in
          let same = ends-old h l o last b in
          rw (keys.0, keys.1) (by_test (is_retire_time_ago (clock h + 1) (begun_at h l.epoch))
          (λ ago. rw ago (one-are (x ∷ h) l (received-next x h (l ∷ o ∷ []) r ∙ keeps-first x h l o on (same ∙ ago)) last))
          (λ ago. rw ago (two-are (x ∷ h) l o (received-next x h (l ∷ o ∷ []) r ∙ keeps-both x h l o on (same ∙ ago)) last b.less)))
    ]

pub keys-dropped : (h : List Keying) → AreKeys (ticked false ∷ h) None None
keys-dropped h = none-are (ticked false ∷ h) (received-next (ticked false) h (received h) refl ∙ all-dropped h (received h))

pub keys-began : (base : ℕ) (h : List Keying) (e : ℕ) → KeepsRules base h → AreKeys (began e ∷ h) (latest h) (old h)
keys-began base h e kept =
    let x = began e in
    elim (shape base h kept) [
      | none r ↦ let keys = latest-none h r in rw (keys.0, keys.1) (none-are (x ∷ h) (received-next x h [] r ∙ left-none x h))
      | one l r last ↦ let keys = latest-one h l r last in rw (keys.0, keys.1) (one-are (x ∷ h) l (received-next x h (l ∷ []) r ∙ keeps-one x h l refl) last)
      | two l o r last b ↦ let keys = latest-two h l o r last b.less in
          rw (keys.0, keys.1) (two-are (x ∷ h) l o (received-next x h (l ∷ o ∷ []) r ∙ keeps-both x h l o refl refl) last b.less)
    ]

-- an install leaves the current key, if its association number is another
pub keys-installed : (base : ℕ) (h : List Keying) (r : Option (List Mi)) (k : Key) → KeepsRules base (installed r k ∷ h) → AreKeys (installed r k ∷ h) (Some k) (apart k.an (current h))
keys-installed base h r k kept =
    let x = installed r k in
    elim (shape base h kept.2) [
      | none is ↦ let keys = latest-none h is in rw (keys.0, keys.1) (one-are (x ∷ h) k (received-next x h [] is ∙ ap (λ ks. k ∷ ks) (left-none x h)) refl)
      | one l is last ↦ let keys = latest-one h l is last in
          let epoch = last-epoch base h l kept.2 last in
          let next = kept.0 in
          let whole = received-next x h (l ∷ []) is in
          rw (keys.0, keys.1) (by_test (has_begun h l.epoch)
          (λ t. by_test (same_an k.an l.an)
          (λ s. rw (t, s) (one-are (x ∷ h) k (whole ∙ ap (λ ks. k ∷ ks) (keeps-none x h l (rw s refl))) refl))
          (λ s. rw (t, s) (two-are (x ∷ h) k l (whole ∙ ap (λ ks. k ∷ ks) (keeps-one x h l (rw (s, t) refl))) refl (omega arith))))
          (λ t. rw t (one-are (x ∷ h) k (whole ∙ ap (λ ks. k ∷ ks) (keeps-none x h l (ends-unbegun r k h l t))) refl)))
      | two l o is last b ↦ let keys = latest-two h l o is last b.less in
          let epoch = last-epoch base h l kept.2 last in
          let next = kept.0 in
          let less = b.less in
          let unbegun = unbegun-of h l o keys.0 keys.1 (rw (keys.0, keys.1) at kept.1) in
          let gone = ends-unbegun r k h l unbegun in
          let whole = received-next x h (l ∷ o ∷ []) is in
          rw (keys.0, keys.1, unbegun) (by_test (same_an k.an o.an)
          (λ s. rw s (one-are (x ∷ h) k (whole ∙ ap (λ ks. k ∷ ks) (keeps-neither x h l o gone (rw s refl))) refl))
          (λ s. rw s (two-are (x ∷ h) k o (whole ∙ ap (λ ks. k ∷ ks) (keeps-second x h l o gone (rw (s, b.started) refl))) refl (omega arith))))
    ]

-- ---- the key that transmits

last-begun-has : (h : List Keying) (e : ℕ) → last_begun h ≡ Some e → has_begun h e ≡ true
last-begun-has [] e is = absurd (cc (is))
last-begun-has (ticked s ∷ h) e is = last-begun-has h e is
last-begun-has (installed r k ∷ h) e is = last-begun-has h e is
last-begun-has (began f ∷ h) e is = let same : f ≡ e = cc (is) in rw (eq-eqb f e same) refl

none-has-begun : (h : List Keying) (e : ℕ) → last_begun h ≡ None → has_begun h e ≡ false
none-has-begun [] e is = refl
none-has-begun (ticked s ∷ h) e is = none-has-begun h e is
none-has-begun (installed r k ∷ h) e is = none-has-begun h e is
none-has-begun (began f ∷ h) e is = absurd (cc (is))

-- no later epoch has begun than the one that began last
last-begun-most : (base : ℕ) (h : List Keying) (e f : ℕ) → KeepsRules base h → last_begun h ≡ Some e → has_begun h f ≡ true → f ≤ e
last-begun-most base [] e f kept is begun = absurd (cc (is))
last-begun-most base (ticked s ∷ h) e f kept is begun = last-begun-most base h e f kept is begun
last-begun-most base (installed r k ∷ h) e f kept is begun = last-begun-most base h e f kept.2 is begun
last-begun-most base (began n ∷ h) e f kept is begun =
    let same : n ≡ e = cc (is) in
    let may = may-begin h n kept.0 in
    let epoch = latest-epoch base h may.key kept.1 may.latest in
    let of = may.epoch in
    by_test (n == f)
    (λ t. let is_that = eqb-true n f t in omega arith)
    (λ t. let earlier = rw t at begun in let most = begun-upto base h f kept.1 earlier in omega arith)

-- the key that began last is the last one, where that has begun
last-began : (base : ℕ) (h : List Keying) (l : Key) (e : ℕ) → KeepsRules base h → last_key h ≡ Some l → last_begun h ≡ Some e → has_begun h l.epoch ≡ true → l.epoch ≡ e
last-began base h l e kept last is begun =
    let most = last-begun-most base h e l.epoch kept is begun in
    let epoch = last-epoch base h l kept last in
    let upto = begun-upto base h e kept (last-begun-has h e is) in
    omega arith

not-last : (h : List Keying) (l : Key) (e : ℕ) → last_begun h ≡ Some e → has_begun h l.epoch ≡ false → has_epoch e l ≡ false
not-last h l e is unbegun =
    by_test (l.epoch == e)
    (λ t. let same = eqb-true l.epoch e t in let has = last-begun-has h e is in let never : has_begun h e ≡ false = rw (← same) unbegun in absurd (cc (has, never)))
    (λ t. t)

-- the old key is the one that began last, where the latest one hasn't begun
old-began : (base : ℕ) (h : List Keying) (l o : Key) (e : ℕ) → KeepsRules base h → IsBeside h l o → last_begun h ≡ Some e → has_begun h l.epoch ≡ false → o.epoch ≡ e
old-began base h l o e kept b is unbegun =
    let most = last-begun-most base h e o.epoch kept is b.started in
    by_test (nat_lt o.epoch e)
    (λ t. let has = last-begun-has h e is in
    let same = b.only e has (ltb-true o.epoch e t) in
    let never : has_begun h e ≡ false = rw same unbegun in absurd (cc (has, never)))
    (λ t. let least = ltb-false o.epoch e t in omega arith)

transmits-after : (base : ℕ) (h : List Keying) (e : ℕ) → KeepsRules base h → last_begun h ≡ Some e → find (has_epoch e) (received h) ≡ current h
transmits-after base h e kept is =
    elim (shape base h kept) [
      | none r ↦ let keys = latest-none h r in rw (keys.0, keys.1, r) refl
      | one l r last ↦ let keys = latest-one h l r last in
          rw (keys.0, keys.1, r) (by_test (has_begun h l.epoch)
          (λ t. let this : has_epoch e l ≡ true = eq-eqb l.epoch e (last-began base h l e kept last is t) in rw (t, this) refl)
          (λ t. rw (t, not-last h l e is t) refl))
      | two l o r last b ↦ let keys = latest-two h l o r last b.less in
          rw (keys.0, keys.1, r) (by_test (has_begun h l.epoch)
          (λ t. let this : has_epoch e l ≡ true = eq-eqb l.epoch e (last-began base h l e kept last is t) in rw (t, this) refl)
          (λ t. let other : has_epoch e o ≡ true = eq-eqb o.epoch e (old-began base h l o e kept b is t) in rw (t, not-last h l e is t, other) refl))
    ]

pub transmitting-is : (base : ℕ) (h : List Keying) → KeepsRules base h → transmitting h ≡ current h
unfolding transmitting
transmitting-is base h kept =
    by_option (last_begun h)
    (λ never. elim (shape base h kept) [
      | none r ↦ let keys = latest-none h r in rw (never, keys.0, keys.1) refl
      | one l r last ↦ let keys = latest-one h l r last in rw (never, keys.0, keys.1, none-has-begun h l.epoch never) refl
      | two l o r last b ↦ absurd (cc (b.started, none-has-begun h o.epoch never))
    ])
    (λ e is. rw is (transmits-after base h e kept is))

pub current-begun : (h : List Keying) (l : Key) → latest h ≡ Some l → has_begun h l.epoch ≡ true → current h ≡ Some l
current-begun h l is begun = rw (is, begun) refl

pub current-unbegun : (h : List Keying) (l : Key) → latest h ≡ Some l → has_begun h l.epoch ≡ false → current h ≡ old h
current-unbegun h l is unbegun = rw (is, unbegun) refl

pub current-none : (base : ℕ) (h : List Keying) → KeepsRules base h → latest h ≡ None → current h ≡ None
current-none base h kept is =
    elim (shape base h kept) [
      | none r ↦ let keys = latest-none h r in rw (keys.0, keys.1) refl
      | one l r last ↦ let keys = latest-one h l r last in absurd (cc (keys.0, is))
      | two l o r last b ↦ let keys = latest-two h l o r last b.less in absurd (cc (keys.0, is))
    ]

-- ---- what a tick retires

retired-over : (b : Bool) (o : Option Key) (k : Key) → cond b o None ≡ Some k → cond b None o ≡ None
retired-over true o k is = refl
retired-over false o k is = absurd (cc (is))

retired-none : (b : Bool) (o : Option Key) → cond b o None ≡ None → cond b None o ≡ o
retired-none true o is = sym is
retired-none false o is = refl

pub old-retired : (base : ℕ) (h : List Keying) (o : Key) → KeepsRules base h → retired h ≡ Some o → old (ticked true ∷ h) ≡ None
old-retired base h o kept is = (keys-ticked base h kept).old ∙ retired-over (is_over h) (old h) o is

pub old-kept : (base : ℕ) (h : List Keying) → KeepsRules base h → retired h ≡ None → old (ticked true ∷ h) ≡ old h
old-kept base h kept is = (keys-ticked base h kept).old ∙ retired-none (is_over h) (old h) is
