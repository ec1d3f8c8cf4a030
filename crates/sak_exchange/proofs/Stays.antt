-- What stays through entries that install nothing while a key server is elected.
use Rattle.std.proofs.Common.{◌≡◌, ℕ, ◌+◌, ◌<◌, ◌≤◌, true, false, List, [], ◌∷◌, ◌++◌, Option, Some, None, is_some, refl, sym, ◌∙◌, arith}
use Rattle.std.proofs.lemmas.Bool.{eqb-true, eqb-false, eq-eqb, ne_eqb, ltb-true, and_parts}
use Rattle.std.specs.Prelude.{nat_lt, ◌==◌}
use Rattle.std.specs.List.{list_any}
use Rattle.lan_base.specs.Falling.{IsAbove, IsFalling}
use Rattle.lan_base.specs.Timers.{retire_time}
use Rattle.sak_exchange.specs.declared.held_key.Key.{Key}
use Rattle.sak_exchange.specs.Histories.{Keying, ticked, installed, began, clock, installs, last_key, begun_at, has_begun, beginnings}
use Rattle.sak_exchange.specs.Held.{is_retire_time_ago, retires, ends, received, has_epoch, latest, old, KeepsRules}
use Rattle.sak_exchange.specs.Lives.{IsQuiet, IsFresh}
use Rattle.sak_exchange.proofs.AssociationNumbers.{other-an}
use Rattle.sak_exchange.proofs.Cases.{by_test}
use Rattle.sak_exchange.proofs.Epochs.{may-begin, latest-epoch, begun-upto}
use Rattle.sak_exchange.proofs.Shape.{left, received-next, left-on, keeps-both, latest-two, not-ended}
use Rattle.sak_exchange.proofs.Both.{IsFirst, first-is, AreTwo, keys-of, beside-old, are-two}

pub old-begun : (base : ℕ) (h : List Keying) (o : Key) → KeepsRules base h → old h ≡ Some o → has_begun h o.epoch ≡ true
old-begun base h o kept is = (beside-old base h o kept is).1.beside.started

pub latest-alone-begins : (base : ℕ) (h : List Keying) (o : Key) (e : ℕ) → KeepsRules base h → old h ≡ Some o → has_begun h e ≡ true → o.epoch < e → (l : Key) × (latest h ≡ Some l) × (l.epoch ≡ e)
latest-alone-begins base h o e kept is begun less =
    let found = beside-old base h o kept is in (found.0, (keys-of h found.0 o found.1).0, sym (found.1.beside.only e begun less))

pub none-begins-later : (base : ℕ) (h : List Keying) (l : Key) (e : ℕ) → KeepsRules base h → latest h ≡ Some l → has_begun h e ≡ true → e ≤ l.epoch
none-begins-later base h l e kept is begun = let epoch = latest-epoch base h l kept is in let most = begun-upto base h e kept begun in omega arith

pub ans-differ : (base : ℕ) (h : List Keying) (l o : Key) → KeepsRules base h → latest h ≡ Some l → old h ≡ Some o → l.an ≡ o.an → ⊥
ans-differ base h l o kept first second = other-an l.an o.an (are-two base h l o kept first second).beside.apart

above-all : (n : ℕ) (h : List Keying) → ((e : ℕ) → has_begun h e ≡ true → e < n) → IsAbove n (beginnings h)
above-all n [] above = tt
above-all n (ticked s ∷ h) above = above-all n h above
above-all n (installed r k ∷ h) above = above-all n h above
above-all n (began e ∷ h) above =
    (above e (let same : (e == e) ≡ true = eq-eqb e e refl in rw same refl), above-all n h (λ f b. above f (by_test (e == f) (λ t. rw t refl) (λ t. rw t b))))

pub beginnings-fall : (base : ℕ) (h : List Keying) → KeepsRules base h → IsFalling (beginnings h)
beginnings-fall base [] kept = tt
beginnings-fall base (ticked s ∷ h) kept = beginnings-fall base h kept
beginnings-fall base (installed r k ∷ h) kept = beginnings-fall base h kept.2
beginnings-fall base (began e ∷ h) kept =
    let may = may-begin h e kept.0 in
    let epoch = latest-epoch base h may.key kept.1 may.latest in
    let same = may.epoch in
    let less : (f : ℕ) → has_begun h f ≡ true → f < e = λ f begun.
    let most = begun-upto base h f kept.1 begun in
    by_test (e == f)
    (λ t. let is = eqb-true e f t in let never : has_begun h f ≡ false = rw (← is) may.unbegun in absurd (cc (begun, never)))
    (λ t. let other = eqb-false e f t in omega arith) in
    (above-all e h less, beginnings-fall base h kept.1)

pub begun-stays : (new h : List Keying) (e : ℕ) → has_begun h e ≡ true → has_begun (new ++ h) e ≡ true
begun-stays [] h e begun = begun
begun-stays (ticked s ∷ new) h e begun = begun-stays new h e begun
begun-stays (installed r k ∷ new) h e begun = begun-stays new h e begun
begun-stays (began f ∷ new) h e begun = by_test (f == e) (λ t. rw t refl) (λ t. rw t (begun-stays new h e begun))

-- ---- the old key

-- a key that retires another has begun, is later, and began the retire time ago
pub record Retires (h : List Keying) (e : ℕ) : Type 0 where
  pub later : ℕ
  pub less : e < later
  pub ago : is_retire_time_ago (clock h + 1) (begun_at h later) ≡ true

pub retired-by : (h : List Keying) (e : ℕ) (ks : List Key) → list_any (retires h e) ks ≡ true → Retires h e
retired-by h e [] any = absurd (cc (any))
retired-by h e (k ∷ ks) any =
    by_test (retires h e k)
    (λ t. let parts = and_parts (nat_lt e k.epoch) (is_retire_time_ago (clock h + 1) (begun_at h k.epoch)) t in record { later = k.epoch; less = ltb-true e k.epoch parts.0; ago = parts.1 })
    (λ t. let rest = rw t at any in retired-by h e ks rest)

pub ago-begun : (now : ℕ) (o : Option ℕ) → is_retire_time_ago now o ≡ true → is_some o ≡ true
ago-begun now None ago = absurd (cc (ago))
ago-begun now (Some at) ago = refl

fresh-not-ago : (now : ℕ) (o : Option ℕ) → IsFresh now o → is_retire_time_ago now o ≡ false
fresh-not-ago now None fresh = refl
fresh-not-ago now (Some at) fresh = ne_eqb (at + retire_time) now (λ e. omega arith)

old-on : (h : List Keying) (l o : Key) → AreTwo h l o → IsFresh (clock h + 1) (begun_at h l.epoch) → ends (ticked true) h o ≡ false
old-on h l o are fresh =
    by_test (ends (ticked true) h o)
    (λ t. let by = retired-by h o.epoch (installs h) t in
    let same = are.beside.only by.later (ago-begun (clock h + 1) (begun_at h by.later) by.ago) by.less in
    let never : is_retire_time_ago (clock h + 1) (begun_at h by.later) ≡ false = rw same (fresh-not-ago (clock h + 1) (begun_at h l.epoch) fresh) in
    absurd (cc (by.ago, never)))
    (λ t. t)

fresh-before : (now : ℕ) (o : Option ℕ) → IsFresh (now + 1) o → IsFresh now o
fresh-before now None fresh = tt
fresh-before now (Some at) fresh = omega arith

pub unbegun-fresh : (now : ℕ) (o : Option ℕ) → is_some o ≡ false → IsFresh now o
unbegun-fresh now None none = tt
unbegun-fresh now (Some at) none = absurd (cc (none))

pub latest-first : (h : List Keying) (l : Key) → IsFirst h l → latest h ≡ Some l
unfolding latest
latest-first h l first = let same : has_epoch l.epoch l ≡ true = eq-eqb l.epoch l.epoch refl in rw (first.last, first.received, same) refl

first-ticked : (h : List Keying) (l : Key) → IsFirst h l → ends (ticked true) h l ≡ false → IsFirst (ticked true ∷ h) l
first-ticked h l first on =
    let x : Keying = ticked true in
    record { rest = left x h first.rest; received = received-next x h (l ∷ first.rest) first.received ∙ left-on x h l first.rest on; last = first.last }

first-began : (h : List Keying) (l : Key) (e : ℕ) → IsFirst h l → IsFirst (began e ∷ h) l
first-began h l e first =
    let x = began e in
    record { rest = left x h first.rest; received = received-next x h (l ∷ first.rest) first.received ∙ left-on x h l first.rest refl; last = first.last }

pub latest-stays : (base : ℕ) (new h : List Keying) (l : Key) → KeepsRules base (new ++ h) → IsQuiet new → latest h ≡ Some l → latest (new ++ h) ≡ Some l
latest-stays base [] h l kept quiet is = is
latest-stays base (ticked s ∷ new) h l kept quiet is =
    let first = first-is base (new ++ h) l kept (latest-stays base new h l kept quiet.1 is) in
    rw quiet.0 (latest-first (ticked true ∷ new ++ h) l (first-ticked (new ++ h) l first (not-ended base (new ++ h) l kept first.last)))
latest-stays base (installed r k ∷ new) h l kept quiet is = absurd quiet
latest-stays base (began e ∷ new) h l kept quiet is =
    let first = first-is base (new ++ h) l kept.1 (latest-stays base new h l kept.1 quiet is) in latest-first (began e ∷ new ++ h) l (first-began (new ++ h) l e first)

-- two keys stay, where an entry that installs none ends neither
two-stay : (h : List Keying) (l o : Key) (x : Keying) → AreTwo h l o → received (x ∷ h) ≡ l ∷ o ∷ [] → last_key (x ∷ h) ≡ Some l → old (x ∷ h) ≡ Some o
two-stay h l o x are is last = (latest-two (x ∷ h) l o is last are.beside.less).1

pub old-stays : (base : ℕ) (new h : List Keying) (l o : Key) → KeepsRules base (new ++ h) → IsQuiet new → latest h ≡ Some l → old h ≡ Some o
    → IsFresh (clock (new ++ h)) (begun_at (new ++ h) l.epoch) → old (new ++ h) ≡ Some o
old-stays base [] h l o kept quiet first second fresh = second
old-stays base (ticked s ∷ new) h l o kept quiet first second fresh =
    let x : Keying = ticked true in
    let before = old-stays base new h l o kept quiet.1 first second (fresh-before (clock (new ++ h)) (begun_at (new ++ h) l.epoch) fresh) in
    let are = are-two base (new ++ h) l o kept (latest-stays base new h l kept quiet.1 first) before in
    let is = received-next x (new ++ h) (l ∷ o ∷ []) are.received ∙ keeps-both x (new ++ h) l o (not-ended base (new ++ h) l kept are.last) (old-on (new ++ h) l o are fresh) in
    rw quiet.0 (two-stay (new ++ h) l o x are is are.last)
old-stays base (installed r k ∷ new) h l o kept quiet first second fresh = absurd quiet
old-stays base (began e ∷ new) h l o kept quiet first second fresh =
    let x = began e in
    let may = may-begin (new ++ h) e kept.0 in
    let before : IsFresh (clock (new ++ h)) (begun_at (new ++ h) l.epoch) =
    by_test (e == l.epoch)
    (λ t. let same = eqb-true e l.epoch t in let none : has_begun (new ++ h) l.epoch ≡ false = rw (← same) may.unbegun in unbegun-fresh (clock (new ++ h)) (begun_at (new ++ h) l.epoch) none)
    (λ t. rw t at fresh) in
    let are = are-two base (new ++ h) l o kept.1 (latest-stays base new h l kept.1 quiet first) (old-stays base new h l o kept.1 quiet first second before) in
    let is = received-next x (new ++ h) (l ∷ o ∷ []) are.received ∙ keeps-both x (new ++ h) l o refl refl in
    two-stay (new ++ h) l o x are is are.last
