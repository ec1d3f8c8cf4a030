-- What is held after every history that keeps the rules: nothing, the key installed last, or that key and an older one that has begun.
use Rattle.std.proofs.Common.{◌≡◌, ℕ, ◌<◌, ◌+◌, true, false, not, ◌&&◌, List, [], ◌∷◌, Option, Some, None, refl, ap, sym, ◌∙◌, arith}
use Rattle.std.proofs.lemmas.Bool.{eqb-true, eq-eqb, ne_eqb, or_parts}
use Rattle.std.specs.Prelude.{◌==◌}
use Rattle.std.specs.List.{filter}
use Rattle.lan_base.specs.declared.address.Mi.{Mi}
use Rattle.lan_base.specs.AssociationNumbers.{same_an}
use Rattle.sak_exchange.specs.declared.held_key.Key.{Key}
use Rattle.sak_exchange.specs.Histories.{Keying, ticked, installed, began, clock, last_key, begun_at, has_begun}
use Rattle.sak_exchange.specs.Held.{is_retire_time_ago, ends, with_new, received, has_epoch, latest, old, KeepsRules}
use Rattle.sak_exchange.proofs.Cases.{by_test, by_option, not-false}
use Rattle.sak_exchange.proofs.Epochs.{last-epoch, none-later, may-begin, begun-upto}

-- an older key is held beside the last one
pub record IsBeside (h : List Keying) (l o : Key) : Type 0 where
  pub less : o.epoch < l.epoch
  pub apart : same_an l.an o.an ≡ false
  pub started : has_begun h o.epoch ≡ true
  pub only : (e : ℕ) → has_begun h e ≡ true → o.epoch < e → e ≡ l.epoch

pub data Shape (h : List Keying) : Type 0 where
  none : received h ≡ [] → Shape h
  one : (l : Key) → received h ≡ l ∷ [] → last_key h ≡ Some l → Shape h
  two : (l o : Key) → received h ≡ l ∷ o ∷ [] → last_key h ≡ Some l → IsBeside h l o → Shape h

-- ---- what an entry leaves of the keys received before it

pub left : Keying → List Keying → List Key → List Key
left x h ks = filter (λ k. not (ends x h k)) ks

pub received-next : (x : Keying) (h : List Keying) (ks : List Key) → received h ≡ ks → received (x ∷ h) ≡ with_new x (left x h ks)
unfolding received left
received-next x h ks is = rw is refl

pub left-none : (x : Keying) (h : List Keying) → left x h [] ≡ []
unfolding left
left-none x h = refl

pub left-on : (x : Keying) (h : List Keying) (k : Key) (ks : List Key) → ends x h k ≡ false → left x h (k ∷ ks) ≡ k ∷ left x h ks
unfolding left
left-on x h k ks on = rw on refl

pub left-off : (x : Keying) (h : List Keying) (k : Key) (ks : List Key) → ends x h k ≡ true → left x h (k ∷ ks) ≡ left x h ks
unfolding left
left-off x h k ks off = rw off refl

pub keeps-one : (x : Keying) (h : List Keying) (k : Key) → ends x h k ≡ false → left x h (k ∷ []) ≡ k ∷ []
keeps-one x h k on = left-on x h k [] on ∙ ap (λ ks. k ∷ ks) (left-none x h)

pub keeps-first : (x : Keying) (h : List Keying) (l o : Key) → ends x h l ≡ false → ends x h o ≡ true → left x h (l ∷ o ∷ []) ≡ l ∷ []
keeps-first x h l o on off = left-on x h l (o ∷ []) on ∙ ap (λ ks. l ∷ ks) (left-off x h o [] off ∙ left-none x h)

pub keeps-second : (x : Keying) (h : List Keying) (l o : Key) → ends x h l ≡ true → ends x h o ≡ false → left x h (l ∷ o ∷ []) ≡ o ∷ []
keeps-second x h l o off on = left-off x h l (o ∷ []) off ∙ keeps-one x h o on

pub keeps-both : (x : Keying) (h : List Keying) (l o : Key) → ends x h l ≡ false → ends x h o ≡ false → left x h (l ∷ o ∷ []) ≡ l ∷ o ∷ []
keeps-both x h l o first second = left-on x h l (o ∷ []) first ∙ ap (λ ks. l ∷ ks) (keeps-one x h o second)

pub keeps-neither : (x : Keying) (h : List Keying) (l o : Key) → ends x h l ≡ true → ends x h o ≡ true → left x h (l ∷ o ∷ []) ≡ []
keeps-neither x h l o first second = left-off x h l (o ∷ []) first ∙ left-off x h o [] second ∙ left-none x h

pub keeps-none : (x : Keying) (h : List Keying) (k : Key) → ends x h k ≡ true → left x h (k ∷ []) ≡ []
keeps-none x h k off = left-off x h k [] off ∙ left-none x h

-- ---- the latest key and the old one, by what is received

pub latest-none : (h : List Keying) → received h ≡ [] → (latest h ≡ None) × (old h ≡ None)
unfolding latest old
latest-none h r = by_option (last_key h) (λ none. rw none (refl, refl)) (λ l last. rw (last, r) (refl, refl))

pub latest-one : (h : List Keying) (l : Key) → received h ≡ l ∷ [] → last_key h ≡ Some l → (latest h ≡ Some l) × (old h ≡ None)
unfolding latest old
latest-one h l r last = let same : has_epoch l.epoch l ≡ true = eq-eqb l.epoch l.epoch refl in rw (last, r, same) (refl, refl)

pub latest-two : (h : List Keying) (l o : Key) → received h ≡ l ∷ o ∷ [] → last_key h ≡ Some l → o.epoch < l.epoch → (latest h ≡ Some l) × (old h ≡ Some o)
unfolding latest old
latest-two h l o r last less =
    let same : has_epoch l.epoch l ≡ true = eq-eqb l.epoch l.epoch refl in
    let other : has_epoch l.epoch o ≡ false = ne_eqb o.epoch l.epoch (λ e. omega arith) in
    rw (last, r, same, other) (refl, refl)

-- ---- each entry keeps the shape

-- a tick with an elected server doesn't end the last key
pub not-ended : (base : ℕ) (h : List Keying) (l : Key) → KeepsRules base h → last_key h ≡ Some l → ends (ticked true) h l ≡ false
not-ended base h l kept last =
    let epoch = last-epoch base h l kept last in
    none-later base h l.epoch (λ e. is_retire_time_ago (clock h + 1) (begun_at h e)) kept (omega arith)

shape-ticked : (base : ℕ) (h : List Keying) → KeepsRules base h → Shape h → Shape (ticked true ∷ h)
shape-ticked base h kept (none r) = none (received-next (ticked true) h [] r ∙ left-none (ticked true) h)
shape-ticked base h kept (one l r last) =
    one l (received-next (ticked true) h (l ∷ []) r ∙ keeps-one (ticked true) h l (not-ended base h l kept last)) last
shape-ticked base h kept (two l o r last b) =
    let x : Keying = ticked true in
    let on = not-ended base h l kept last in
    by_test (ends x h o)
    (λ off. one l (received-next x h (l ∷ o ∷ []) r ∙ keeps-first x h l o on off) last)
    (λ stays. two l o (received-next x h (l ∷ o ∷ []) r ∙ keeps-both x h l o on stays) last (record { less = b.less; apart = b.apart; started = b.started; only = b.only }))

-- a tick with none ends all
pub all-dropped : (h : List Keying) (ks : List Key) → left (ticked false) h ks ≡ []
all-dropped h [] = left-none (ticked false) h
all-dropped h (k ∷ ks) = left-off (ticked false) h k ks refl ∙ all-dropped h ks

shape-dropped : (h : List Keying) → Shape (ticked false ∷ h)
shape-dropped h = none (received-next (ticked false) h (received h) refl ∙ all-dropped h (received h))

-- no key has begun that came after the last one
pub none-begun-later : (base : ℕ) (h : List Keying) (l : Key) → KeepsRules base h → last_key h ≡ Some l → (e : ℕ) → has_begun h e ≡ true → l.epoch < e → ⊥
none-begun-later base h l kept last e b less = let epoch = last-epoch base h l kept last in let most = begun-upto base h e kept b in omega arith

-- an install ends a key that has not begun
pub ends-unbegun : (r : Option (List Mi)) (n : Key) (h : List Keying) (k : Key) → has_begun h k.epoch ≡ false → ends (installed r n) h k ≡ true
ends-unbegun r n h k b = rw b (by_test (same_an n.an k.an) (λ t. rw t refl) (λ t. rw t refl))

-- with two keys held, an install is allowed only where the latest one has not begun
pub unbegun-of : (h : List Keying) (l o : Key) → latest h ≡ Some l → old h ≡ Some o → not (has_begun h l.epoch && true) ≡ true → has_begun h l.epoch ≡ false
unbegun-of h l o first second may = by_test (has_begun h l.epoch) (λ t. let never = rw t at may in absurd (cc (never))) (λ t. t)

shape-installed : (base : ℕ) (h : List Keying) (r : Option (List Mi)) (k : Key) → KeepsRules base (installed r k ∷ h) → Shape h → Shape (installed r k ∷ h)
shape-installed base h r k kept (none is) = one k (received-next (installed r k) h [] is ∙ ap (λ ks. k ∷ ks) (left-none (installed r k) h)) refl
shape-installed base h r k kept (one l is last) =
    let x = installed r k in
    let epoch = last-epoch base h l kept.2 last in
    let next = kept.0 in
    by_test (ends x h l)
    (λ off. one k (received-next x h (l ∷ []) is ∙ ap (λ ks. k ∷ ks) (keeps-none x h l off)) refl)
    (λ on. let parts = or_parts (same_an k.an l.an) (not (has_begun h l.epoch)) on in
    two k l (received-next x h (l ∷ []) is ∙ ap (λ ks. k ∷ ks) (keeps-one x h l on)) refl (record {
      less = omega arith;
      apart = parts.0;
      started = not-false (has_begun h l.epoch) parts.1;
      only = λ e b less. absurd (none-begun-later base h l kept.2 last e b less);
    }))
shape-installed base h r k kept (two l o is last b) =
    let x = installed r k in
    let epoch = last-epoch base h l kept.2 last in
    let next = kept.0 in
    let keys = latest-two h l o is last b.less in
    let unbegun = unbegun-of h l o keys.0 keys.1 (rw (keys.0, keys.1) at kept.1) in
    let gone = ends-unbegun r k h l unbegun in
    by_test (ends x h o)
    (λ off. one k (received-next x h (l ∷ o ∷ []) is ∙ ap (λ ks. k ∷ ks) (keeps-neither x h l o gone off)) refl)
    (λ on. two k o (received-next x h (l ∷ o ∷ []) is ∙ ap (λ ks. k ∷ ks) (keeps-second x h l o gone on)) refl (record {
      less = let less = b.less in omega arith;
      apart = (or_parts (same_an k.an o.an) (not (has_begun h o.epoch)) on).0;
      started = b.started;
      only = λ e begun less. let same = b.only e begun less in let never : has_begun h e ≡ false = rw same unbegun in absurd (cc (begun, never));
    }))

shape-began : (base : ℕ) (h : List Keying) (e : ℕ) → KeepsRules base (began e ∷ h) → Shape h → Shape (began e ∷ h)
shape-began base h e kept (none is) = none (received-next (began e) h [] is ∙ left-none (began e) h)
shape-began base h e kept (one l is last) = one l (received-next (began e) h (l ∷ []) is ∙ keeps-one (began e) h l refl) last
shape-began base h e kept (two l o is last b) =
    let may = may-begin h e kept.0 in
    let keys = latest-two h l o is last b.less in
    let same : may.key ≡ l = let both = sym may.latest ∙ keys.0 in cc (both) in
    let epoch : e ≡ l.epoch = sym may.epoch ∙ ap (λ (k : Key). k.epoch) same in
    two l o (received-next (began e) h (l ∷ o ∷ []) is ∙ keeps-both (began e) h l o refl refl) last (record {
      less = b.less;
      apart = b.apart;
      started = by_test (e == o.epoch) (λ t. rw t refl) (λ t. rw t b.started);
      only = λ n begun less. by_test (e == n) (λ t. sym (eqb-true e n t) ∙ epoch) (λ t. let earlier = rw t at begun in b.only n earlier less);
    })

pub shape : (base : ℕ) (h : List Keying) → KeepsRules base h → Shape h
unfolding received
shape base [] kept = none refl
shape base (ticked true ∷ h) kept = shape-ticked base h kept (shape base h kept)
shape base (ticked false ∷ h) kept = shape-dropped h
shape base (installed r k ∷ h) kept = shape-installed base h r k kept (shape base h kept.2)
shape base (began e ∷ h) kept = shape-began base h e kept (shape base h kept.1)
