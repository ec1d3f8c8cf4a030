-- What the keys of a life that keeps the rules have.
use Rattle.std.proofs.Common.{◌≡◌, inl, inr, ℕ, ◌≤◌, ◌<◌, Bool, true, false}
use Rattle.std.proofs.Common.{List, [], ◌∷◌, ◌++◌, Some}
use Rattle.std.proofs.Common.{refl, ap, sym, ◌∙◌, subst, arith}
use Rattle.std.proofs.lemmas.Bool.{eqb-true}
use Rattle.std.specs.Prelude.{◌==◌}
use Rattle.std.specs.List.{find}
use Rattle.lan_base.specs.Falling.{IsAbove, IsFalling}
use Rattle.sak_exchange.specs.declared.held_key.Key.{Key}
use Rattle.sak_exchange.specs.Histories.{Keying, ticked, installed, began, installs}
use Rattle.sak_exchange.specs.Histories.{begun_at, has_begun, beginnings, last_begun}
use Rattle.sak_exchange.specs.Held.{KeepsRules, received, latest, old, transmitting, allows, has_epoch}
use Rattle.sak_exchange.specs.Lives.{Has, Installs}
use Rattle.sak_exchange.proofs.Public.{by_test, by_option, may-begin, find-passes, first-is}
use Rattle.sak_exchange.proofs.Public.{are-two, beside-old, is-received, beginnings-fall}

pub has-append : (k : Key) (a b : List Key) → Has k b → Has k (a ++ b)
has-append k [] b has = has
has-append k (j ∷ a) b has = inr (has-append k a b has)

pub installs-append : (a b : List Keying) → installs (a ++ b) ≡ installs a ++ installs b
installs-append [] b = refl
installs-append (ticked s ∷ a) b = installs-append a b
installs-append (installed r k ∷ a) b = ap (λ t. k ∷ t) (installs-append a b)
installs-append (began e ∷ a) b = installs-append a b

-- what was installed stays so
pub installed-on : (k : Key) (a b : List Keying) → Has k (installs b) → Has k (installs (a ++ b))
installed-on k a b has =
    subst (λ t. Has k t) (sym (installs-append a b)) (has-append k (installs a) (installs b) has)

installs-this : (x : Keying) (h : List Keying) (k : Key) → Installs x k → Has k (installs (x ∷ h))
installs-this (ticked s) h k this = absurd this
installs-this (installed r j) h k this = inl this
installs-this (began e) h k this = absurd this

-- a received key was installed
pub received-installed : (h : List Keying) (k : Key) → Has k (received h) → Has k (installs h)
received-installed h k has =
    let r = is-received h k has in
    subst (λ t. Has k (installs t)) (sym r.whole)
    (installed-on k r.since (r.install ∷ r.before) (installs-this r.install r.before k r.installs))

pub latest-received : (base : ℕ) (h : List Keying) (l : Key) → KeepsRules base h → latest h ≡ Some l
    → Has l (received h)
latest-received base h l kept is =
    let first = first-is base h l kept is in
    subst (λ t. Has l t) (sym first.received) (inl refl)

pub old-received : (base : ℕ) (h : List Keying) (o : Key) → KeepsRules base h → old h ≡ Some o
    → Has o (received h)
old-received base h o kept is =
    let two = beside-old base h o kept is in
    subst (λ t. Has o t) (sym two.1.received) (inr (inl refl))

pub old-is-older : (base : ℕ) (h : List Keying) (l o : Key) → KeepsRules base h → latest h ≡ Some l
    → old h ≡ Some o → o.epoch < l.epoch
old-is-older base h l o kept first second = (are-two base h l o kept first second).beside.less

-- no key can be installed while the latest has begun and an old one is held
pub full : (h : List Keying) (l o : Key) → latest h ≡ Some l → old h ≡ Some o
    → has_begun h l.epoch ≡ true → allows h ≡ false
full h l o first second begun = rw (first, second, begun) refl

-- the clock of a beginning stays
pub begun-at-stays : (base : ℕ) (new h : List Keying) (e at : ℕ) → KeepsRules base (new ++ h)
    → begun_at h e ≡ Some at → begun_at (new ++ h) e ≡ Some at
begun-at-stays base [] h e at kept is = is
begun-at-stays base (ticked s ∷ new) h e at kept is = begun-at-stays base new h e at kept is
begun-at-stays base (installed r k ∷ new) h e at kept is =
    begun-at-stays base new h e at kept.2 is
begun-at-stays base (began f ∷ new) h e at kept is =
    let before = begun-at-stays base new h e at kept.1 is in
    by_test (f == e)
    (λ t. let may = may-begin (new ++ h) f kept.0 in
    let same = eqb-true f e t in
    let never : has_begun (new ++ h) e ≡ false = rw (← same) may.unbegun in
    let yes : has_begun (new ++ h) e ≡ true = rw before refl in absurd (cc (never, yes)))
    (λ t. rw t before)

begun-under : (n : ℕ) (h : List Keying) (e : ℕ) → IsAbove n (beginnings h)
    → has_begun h e ≡ true → e < n
begun-under n [] e above is = absurd (cc (is))
begun-under n (ticked s ∷ h) e above is = begun-under n h e above is
begun-under n (installed r k ∷ h) e above is = begun-under n h e above is
begun-under n (began f ∷ h) e above is =
    by_test (f == e)
    (λ t. let same = eqb-true f e t in let less = above.0 in omega arith)
    (λ t. let before = rw t at is in begun-under n h e above.1 before)

-- what began last has the greatest epoch of all that began
last-is-greatest : (h : List Keying) (e f : ℕ) → IsFalling (beginnings h)
    → has_begun h e ≡ true → last_begun h ≡ Some f → e ≤ f
last-is-greatest [] e f fall is last = absurd (cc (is))
last-is-greatest (ticked s ∷ h) e f fall is last = last-is-greatest h e f fall is last
last-is-greatest (installed r k ∷ h) e f fall is last = last-is-greatest h e f fall is last
last-is-greatest (began g ∷ h) e f fall is last =
    let same : g ≡ f = cc (last) in
    by_test (g == e)
    (λ t. let this = eqb-true g e t in omega arith)
    (λ t. let before = rw t at is in let less = begun-under g h e fall.0 before in omega arith)

pub transmitting-last : (h : List Keying) (k : Key) → transmitting h ≡ Some k
    → (last_begun h ≡ Some k.epoch) × Has k (received h)
unfolding transmitting
transmitting-last h k is =
    by_option (last_begun h)
    (λ none. let never = rw none at is in absurd (cc (never)))
    (λ e last. let found = rw last at is in
    let same = eqb-true k.epoch e (find-passes (has_epoch e) (received h) k found) in
    (last ∙ ap Some (sym same), found-in (has_epoch e) (received h) k found))
  where
    found-in : (test : Key → Bool) (ks : List Key) (k : Key) → find test ks ≡ Some k → Has k ks
    found-in test [] k is = absurd (cc (is))
    found-in test (j ∷ ks) k is =
        by_test (test j)
        (λ t. let first = rw t at is in let same : j ≡ k = cc (first) in inl same)
        (λ t. let later = rw t at is in inr (found-in test ks k later))

pub transmitting-received : (h : List Keying) (k : Key) → transmitting h ≡ Some k
    → Has k (received h)
transmitting-received h k is = (transmitting-last h k is).1

-- nothing that began is later than what transmits
pub transmits-later : (base : ℕ) (h : List Keying) (k : Key) (e : ℕ) → KeepsRules base h
    → has_begun h e ≡ true → transmitting h ≡ Some k → e ≤ k.epoch
transmits-later base h k e kept begun is =
    last-is-greatest h e k.epoch (beginnings-fall base h kept) begun (transmitting-last h k is).0
