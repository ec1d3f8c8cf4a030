-- Lists of member identifiers in ascending order: what they contain, and that this is all there is to them.
use Rattle.std.proofs.Common.{◌≡◌, Bool, true, false, ◌||◌, List, [], ◌∷◌, refl, ap, sym, ◌∙◌, subst}
use Rattle.std.specs.Ordering.{ordering_reverse}
use Rattle.std.specs.declared.cmp.Ordering.TheVariants.{Less, Equal, Greater}
use Rattle.lan_base.specs.declared.address.Mi.{Mi}
use Rattle.lan_base.specs.Identifiers.{same_mi, order, has}
use Rattle.peer_lists.specs.Acceptance.{put_in, ascending}
use Rattle.lan_base.specs.Identifiers.{IsBefore, IsAscending}
use Rattle.peer_lists.proofs.Identifiers.{by_test, by_order, same_mi-equal, same_mi-itself, order-equal, order-itself, order-reverse, order-trans}

pub same_mi-apart : (m n : Mi) → order m n ≡ Less → same_mi m n ≡ false
same_mi-apart m n h =
    by_test (same_mi m n) (λ e. let k = subst (λ (x : Mi). order m x ≡ Less) (sym (same_mi-equal m n e)) h in absurd (cc (k, order-itself m))) (λ e. e)

pub same_mi-sym : (m n : Mi) → same_mi m n ≡ same_mi n m
same_mi-sym m n =
    by_test (same_mi m n) (λ e. rw (same_mi-equal m n e) refl) (λ e. by_test (same_mi n m) (λ f. rw (same_mi-equal n m f) refl) (λ f. e ∙ sym f))

pub order-less : (m n : Mi) → order m n ≡ Greater → order n m ≡ Less
order-less m n h = order-reverse n m ∙ ap ordering_reverse h

pub order-greater : (m n : Mi) → order m n ≡ Less → order n m ≡ Greater
order-greater m n h = order-reverse n m ∙ ap ordering_reverse h

pub before-trans : (l m : Mi) (ms : List Mi) → order l m ≡ Less → IsBefore m ms → IsBefore l ms
before-trans l m [] h k = tt
before-trans l m (n ∷ ns) h k = (order-trans l m n h k.0, before-trans l m ns h k.1)

pub before-lacks : (m : Mi) (ms : List Mi) → IsBefore m ms → has m ms ≡ false
before-lacks m [] h = refl
before-lacks m (n ∷ ns) h = rw (same_mi-sym n m, same_mi-apart m n h.0) (before-lacks m ns h.1)

pub put_in-less : (m n : Mi) (ns : List Mi) → order m n ≡ Less → put_in m (n ∷ ns) ≡ m ∷ n ∷ ns
put_in-less m n ns e = rw (e, put_in) refl

pub put_in-equal : (m n : Mi) (ns : List Mi) → order m n ≡ Equal → put_in m (n ∷ ns) ≡ n ∷ ns
put_in-equal m n ns e = rw (e, put_in) refl

pub put_in-greater : (m n : Mi) (ns : List Mi) → order m n ≡ Greater → put_in m (n ∷ ns) ≡ n ∷ put_in m ns
put_in-greater m n ns e = rw (e, put_in) refl

pub put_in-before : (l m : Mi) (ms : List Mi) → order l m ≡ Less → IsBefore l ms → IsBefore l (put_in m ms)
put_in-before l m [] h k = (h, tt)
put_in-before l m (n ∷ ns) h k =
    by_order (order m n) (λ e. rw (put_in-less m n ns e) (h, k)) (λ e. rw (put_in-equal m n ns e) k)
    (λ e. rw (put_in-greater m n ns e) (k.0, put_in-before l m ns h k.1))

pub put_in-ascending : (m : Mi) (ms : List Mi) → IsAscending ms → IsAscending (put_in m ms)
put_in-ascending m [] h = (tt, tt)
put_in-ascending m (n ∷ ns) h =
    by_order (order m n) (λ e. rw (put_in-less m n ns e) ((e, before-trans m n ns e h.0), h)) (λ e. rw (put_in-equal m n ns e) h)
    (λ e. rw (put_in-greater m n ns e) (put_in-before n m ns (order-less m n e) h.0, put_in-ascending m ns h.1))

or-again : (a b : Bool) → (a || b) ≡ (a || (a || b))
or-again true b = refl
or-again false b = refl

or-swap : (a b c : Bool) → (a || (b || c)) ≡ (b || (a || c))
or-swap true true c = refl
or-swap true false c = refl
or-swap false b c = refl

pub has-put_in : (k m : Mi) (ms : List Mi) → has k (put_in m ms) ≡ (same_mi m k || has k ms)
has-put_in k m [] = refl
has-put_in k m (n ∷ ns) =
    by_order (order m n) (λ e. rw (put_in-less m n ns e) refl)
    (λ e. rw (put_in-equal m n ns e, order-equal m n e) (or-again (same_mi n k) (has k ns)))
    (λ e. rw (put_in-greater m n ns e) (ap (λ b. same_mi n k || b) (has-put_in k m ns) ∙ or-swap (same_mi n k) (same_mi m k) (has k ns)))

pub ascending-is : (ms : List Mi) → IsAscending (ascending ms)
ascending-is [] = tt
ascending-is (m ∷ ms) = put_in-ascending m (ascending ms) (ascending-is ms)

pub has-ascending : (k : Mi) (ms : List Mi) → has k (ascending ms) ≡ has k ms
has-ascending k [] = refl
has-ascending k (m ∷ ms) = has-put_in k m (ascending ms) ∙ ap (λ b. same_mi m k || b) (has-ascending k ms)

pub has-head : (m : Mi) (ms : List Mi) → has m (m ∷ ms) ≡ true
has-head m ms = rw (same_mi-itself m) refl

-- a member before the first of an ascending list is not in it
pub before-head : (m n : Mi) (ns : List Mi) → order m n ≡ Less → IsBefore n ns → has m (n ∷ ns) ≡ false
before-head m n ns e h = before-lacks m (n ∷ ns) (e, before-trans m n ns e h)

tails-same : (m : Mi) (ms ns : List Mi) → IsBefore m ms → IsBefore m ns → ((k : Mi) → has k (m ∷ ms) ≡ has k (m ∷ ns)) → (k : Mi) → has k ms ≡ has k ns
tails-same m ms ns h k e l =
    by_test (same_mi m l)
    (λ f. rw (← same_mi-equal m l f) (before-lacks m ms h ∙ sym (before-lacks m ns k)))
    (λ f. let both : (same_mi m l || has l ms) ≡ (same_mi m l || has l ns) = e l in rw f at both)

-- two ascending lists that have the same members are equal
pub ascending-same : (ms ns : List Mi) → IsAscending ms → IsAscending ns → ((k : Mi) → has k ms ≡ has k ns) → ms ≡ ns
ascending-same [] [] h k e = refl
ascending-same [] (n ∷ ns) h k e = let f : has n [] ≡ has n (n ∷ ns) = e n in absurd (cc (f, has-head n ns))
ascending-same (m ∷ ms) [] h k e = let f : has m (m ∷ ms) ≡ has m [] = e m in absurd (cc (f, has-head m ms))
ascending-same (m ∷ ms) (n ∷ ns) h k e =
    by_order (order m n)
    (λ f. absurd (cc (e m, has-head m ms, before-head m n ns f k.0)))
    (λ f.
    let same : n ≡ m = sym (order-equal m n f) in
    let below : IsBefore m ns = subst (λ (x : Mi). IsBefore x ns) same k.0 in
    let tails = subst (λ (x : Mi). (l : Mi) → has l (m ∷ ms) ≡ has l (x ∷ ns)) same e in
    ap (λ (l : List Mi). m ∷ l) (ascending-same ms ns h.1 k.1 (tails-same m ms ns h.0 below tails)) ∙ ap (λ (x : Mi). x ∷ ns) (sym same))
    (λ f. absurd (cc (e n, has-head n ns, before-head n m ms (order-less m n f) h.0)))
