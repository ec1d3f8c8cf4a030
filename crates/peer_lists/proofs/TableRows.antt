-- The rows of the table as a list: a row that is put in, found, changed in place and left out.
use Rattle.std.proofs.Common.{◌≡◌, ℕ, suc, zero, ◌<◌, ◌≤◌, Bool, true, false, cond, List, [], ◌∷◌, Option, Some, None, Result, Ok, Err, is_some, map, length, refl, ap, sym, ◌∙◌, subst, arith, get_or, set, nat_le}
use Rattle.std.specs.List.{filter, insert, HoldsAt, AllWithin}
use Rattle.std.specs.List.Sorted.{IsBinarySearchResult, IsSearchInRange, IsPartitionPoint, IsNonDecreasingBy}
use Rattle.std.specs.Option.{option_map, option_and_then}
use Rattle.std.specs.Ordering.{ordering_index}
use Rattle.std.specs.declared.cmp.Ordering.{Ordering}
use Rattle.std.specs.declared.cmp.Ordering.TheVariants.{Less, Equal, Greater}
use Rattle.lan_base.specs.declared.address.Mi.{Mi}
use Rattle.peer_lists.specs.declared.remembered.Remembered.{Remembered}
use Rattle.lan_base.specs.Identifiers.{same_mi, order, has}
use Rattle.peer_lists.specs.Acceptance.{put_in}
use Rattle.peer_lists.specs.Table.{member, look_up}
use Rattle.lan_base.specs.Identifiers.{IsBefore, IsAscending}
use Rattle.peer_lists.specs.inside.RowChanges.{put, introduced, renewed, heard_at, reason_at}
use Rattle.peer_lists.specs.declared.heard.Heard.{Heard}
use Rattle.peer_lists.specs.declared.heard.PeerRefusal.{PeerRefusal}
use Rattle.peer_lists.specs.declared.heard.PeerRefusal.TheVariants.{OldNumber, PeersFull}
use Rattle.peer_lists.specs.Acceptance.{most_peers}
use Rattle.peer_lists.proofs.Identifiers.{by_test, by_order, same_mi-equal, same_mi-itself, order-equal, order-itself, order-trans}
use Rattle.peer_lists.proofs.Ascending.{same_mi-apart, same_mi-sym, order-less, order-greater, put_in-ascending, before-lacks}

put-less : (r p : Remembered) (ps : List Remembered) → order (member r) (member p) ≡ Less → put r (p ∷ ps) ≡ r ∷ p ∷ ps
put-less r p ps e = rw (e, put) refl

put-equal : (r p : Remembered) (ps : List Remembered) → order (member r) (member p) ≡ Equal → put r (p ∷ ps) ≡ r ∷ ps
put-equal r p ps e = rw (e, put) refl

put-greater : (r p : Remembered) (ps : List Remembered) → order (member r) (member p) ≡ Greater → put r (p ∷ ps) ≡ p ∷ put r ps
put-greater r p ps e = rw (e, put) refl

pub look_up-head : (m : Mi) (p : Remembered) (ps : List Remembered) → same_mi (member p) m ≡ true → look_up m (p ∷ ps) ≡ Some p
look_up-head m p ps e = rw e refl

pub look_up-tail : (m : Mi) (p : Remembered) (ps : List Remembered) → same_mi (member p) m ≡ false → look_up m (p ∷ ps) ≡ look_up m ps
look_up-tail m p ps e = rw e refl

apart-from : (m n : Mi) → order m n ≡ Greater → same_mi n m ≡ false
apart-from m n e = same_mi-apart n m (order-less m n e)

-- the row that was put in is found
pub look_up-put : (r : Remembered) (ps : List Remembered) → look_up (member r) (put r ps) ≡ Some r
look_up-put r [] = look_up-head (member r) r [] (same_mi-itself (member r))
look_up-put r (p ∷ ps) =
    by_order (order (member r) (member p))
    (λ e. rw (put-less r p ps e) (look_up-head (member r) r (p ∷ ps) (same_mi-itself (member r))))
    (λ e. rw (put-equal r p ps e) (look_up-head (member r) r ps (same_mi-itself (member r))))
    (λ e. rw (put-greater r p ps e) (look_up-tail (member r) p (put r ps) (apart-from (member r) (member p) e) ∙ look_up-put r ps))

-- and each other row as before
pub look_up-put_other : (m : Mi) (r : Remembered) (ps : List Remembered) → same_mi (member r) m ≡ false → look_up m (put r ps) ≡ look_up m ps
look_up-put_other m r [] h = look_up-tail m r [] h
look_up-put_other m r (p ∷ ps) h =
    by_order (order (member r) (member p))
    (λ e. rw (put-less r p ps e) (look_up-tail m r (p ∷ ps) h))
    (λ e. let f : same_mi (member p) m ≡ false = subst (λ (n : Mi). same_mi n m ≡ false) (order-equal (member r) (member p) e) h in
    rw (put-equal r p ps e) (look_up-tail m r ps h ∙ sym (look_up-tail m p ps f)))
    (λ e. rw (put-greater r p ps e) (ap (λ (o : Option Remembered). cond (same_mi (member p) m) (Some p) o) (look_up-put_other m r ps h)))

pub map-put : (r : Remembered) (ps : List Remembered) → map member (put r ps) ≡ put_in (member r) (map member ps)
map-put r [] = refl
map-put r (p ∷ ps) =
    by_order (order (member r) (member p))
    (λ e. rw (put-less r p ps e, put_in, e) refl)
    (λ e. rw (put-equal r p ps e, put_in, e) (ap (λ (m : Mi). m ∷ map member ps) (order-equal (member r) (member p) e)))
    (λ e. rw (put-greater r p ps e, put_in, e) (ap (λ (ms : List Mi). member p ∷ ms) (map-put r ps)))

pub put-ascending : (r : Remembered) (ps : List Remembered) → IsAscending (map member ps) → IsAscending (map member (put r ps))
put-ascending r ps h = rw (map-put r ps) (put_in-ascending (member r) (map member ps) h)

pub look_up-has : (m : Mi) (ps : List Remembered) → is_some (look_up m ps) ≡ has m (map member ps)
look_up-has m [] = refl
look_up-has m (p ∷ ps) = by_test (same_mi (member p) m) (λ e. rw e refl) (λ e. rw e (look_up-has m ps))

-- a change in place that keeps the members
pub map-change : (f : Remembered → Remembered) → ((p : Remembered) → member (f p) ≡ member p) → (ps : List Remembered) → map member (map f ps) ≡ map member ps
map-change f k [] = refl
map-change f k (p ∷ ps) = λ i. k p i ∷ map-change f k ps i

pub look_up-change : (f : Remembered → Remembered) → ((p : Remembered) → member (f p) ≡ member p) → (m : Mi) (ps : List Remembered) → look_up m (map f ps) ≡ option_map f (look_up m ps)
look_up-change f k m [] = refl
look_up-change f k m (p ∷ ps) =
    let same : same_mi (member (f p)) m ≡ same_mi (member p) m = ap (λ (n : Mi). same_mi n m) (k p) in
    by_test (same_mi (member p) m)
    (λ e. look_up-head m (f p) (map f ps) (same ∙ e) ∙ ap (option_map f) (sym (look_up-head m p ps e)))
    (λ e. look_up-tail m (f p) (map f ps) (same ∙ e) ∙ look_up-change f k m ps ∙ ap (option_map f) (sym (look_up-tail m p ps e)))

pub filter-before : (t : Remembered → Bool) (m : Mi) (ps : List Remembered) → IsBefore m (map member ps) → IsBefore m (map member (filter t ps))
filter-before t m [] h = tt
filter-before t m (p ∷ ps) h = by_test (t p) (λ e. rw e (h.0, filter-before t m ps h.1)) (λ e. rw e (filter-before t m ps h.1))

pub filter-ascending : (t : Remembered → Bool) (ps : List Remembered) → IsAscending (map member ps) → IsAscending (map member (filter t ps))
filter-ascending t [] h = tt
filter-ascending t (p ∷ ps) h =
    by_test (t p) (λ e. rw e (filter-before t (member p) ps h.0, filter-ascending t ps h.1)) (λ e. rw e (filter-ascending t ps h.1))

-- a filter of rows that changed in place keeps no more
pub filter-fewer : (t : Remembered → Bool) (f : Remembered → Remembered) (ps : List Remembered) → length (filter t (map f ps)) ≤ length ps
filter-fewer t f [] = omega arith
filter-fewer t f (p ∷ ps) =
    let rest : length (filter t (map f ps)) ≤ length ps = filter-fewer t f ps in
    by_test (t (f p)) (λ e. rw e (omega arith)) (λ e. rw e (omega arith))

-- the row, if it passes the test
abbrev pub passing : (Remembered → Bool) → Remembered → Option Remembered
passing t p = cond (t p) (Some p) None

not-some : {A : Type 0} (o : Option A) → is_some o ≡ false → o ≡ None
not-some None h = refl
not-some (Some x) h = cc

pub look_up-lacks : (m : Mi) (ps : List Remembered) → IsBefore m (map member ps) → look_up m ps ≡ None
look_up-lacks m ps h = not-some (look_up m ps) (look_up-has m ps ∙ before-lacks m (map member ps) h)

pub look_up-filter : (t : Remembered → Bool) (m : Mi) (ps : List Remembered) → IsAscending (map member ps) → look_up m (filter t ps) ≡ option_and_then (passing t) (look_up m ps)
look_up-filter t m [] h = refl
look_up-filter t m (p ∷ ps) h =
    by_test (same_mi (member p) m)
    (λ e. by_test (t p) (λ f. rw (f, e, f) refl)
    (λ f. let below : IsBefore m (map member (filter t ps)) = subst (λ (n : Mi). IsBefore n (map member (filter t ps))) (same_mi-equal (member p) m e) (filter-before t (member p) ps h.0) in
    rw (f, e, f) (look_up-lacks m (filter t ps) below)))
    (λ e. by_test (t p) (λ f. rw (f, e) (look_up-filter t m ps h.1)) (λ f. rw (f, e) (look_up-filter t m ps h.1)))

before-at : (m : Mi) (ps : List Remembered) (at : ℕ) (d : Remembered) → IsBefore m (map member ps) → at < length ps → order m (member (get_or ps at d)) ≡ Less
before-at m [] at d h l = absurd (omega arith)
before-at m (p ∷ ps) zero d h l = h.0
before-at m (p ∷ ps) (suc at) d h l = before-at m ps at d h.1 (omega arith)

set-is-put : (m : Mi) (ps : List Remembered) (at : ℕ) → IsAscending (map member ps) → at < length ps → HoldsAt (λ p. order (member p) m ≡ Equal) ps at → (r : Remembered) → member r ≡ m → (set ps at r ≡ put r ps) × (look_up m ps ≡ Some (get_or ps at r))
set-is-put m [] at h l k r e = absurd (omega arith)
set-is-put m (p ∷ ps) zero h l k r e =
    let f : member p ≡ m = order-equal (member p) m (k p) in
    let g : order (member r) (member p) ≡ Equal = rw (e, f) (order-itself m) in
    (sym (put-equal r p ps g), look_up-head m p ps (rw f (same_mi-itself m)))
set-is-put m (p ∷ ps) (suc at) h l k r e =
    let l' : at < length ps = omega arith in
    let f : member (get_or ps at r) ≡ m = order-equal (member (get_or ps at r)) m (k r) in
    let less : order (member p) m ≡ Less = subst (λ (n : Mi). order (member p) n ≡ Less) f (before-at (member p) ps at r h.0 l') in
    let g : order (member r) (member p) ≡ Greater = rw e (order-greater (member p) m less) in
    let rest = set-is-put m ps at h.1 l' (λ d. k d) r e in
    (ap (λ (l : List Remembered). p ∷ l) rest.0 ∙ sym (put-greater r p ps g), look_up-tail m p ps (same_mi-apart (member p) m less) ∙ rest.1)

greater-lacks : (m : Mi) (ps : List Remembered) → AllWithin (λ p. order (member p) m ≡ Greater) ps 0 (length ps) → look_up m ps ≡ None
greater-lacks m [] h = refl
greater-lacks m (p ∷ ps) h =
    let g : order (member p) m ≡ Greater = h 0 p (omega arith) (omega arith) in
    let apart : same_mi (member p) m ≡ false = same_mi-sym (member p) m ∙ same_mi-apart m (member p) (order-less (member p) m g) in
    look_up-tail m p ps apart ∙ greater-lacks m ps (λ k d l u. h (suc k) d (omega arith) (omega arith))

insert-is-put : (m : Mi) (ps : List Remembered) (at : ℕ) → at ≤ length ps → IsPartitionPoint (λ p. order (member p) m ≡ Less) (λ p. order (member p) m ≡ Greater) ps at → (look_up m ps ≡ None) × ((r : Remembered) → member r ≡ m → insert ps at r ≡ put r ps)
insert-is-put m [] zero l h = (refl, λ r e. refl)
insert-is-put m [] (suc at) l h = (refl, λ r e. refl)
insert-is-put m (p ∷ ps) zero l h =
    let g : order (member p) m ≡ Greater = h.1 0 p (omega arith) (omega arith) in
    (greater-lacks m (p ∷ ps) h.1, λ r e. sym (put-less r p ps (rw e (order-less (member p) m g))))
insert-is-put m (p ∷ ps) (suc at) l h =
    let g : order (member p) m ≡ Less = h.0 0 p (omega arith) (omega arith) in
    let rest = insert-is-put m ps at (omega arith) (λ k d lo hi. h.0 (suc k) d (omega arith) (omega arith), λ k d lo hi. h.1 (suc k) d (omega arith) (omega arith)) in (
      look_up-tail m p ps (same_mi-apart (member p) m g) ∙ rest.0,
      λ r e. ap (λ (l : List Remembered). p ∷ l) (rest.1 r e) ∙ sym (put-greater r p ps (rw e (order-greater (member p) m g))),
    )

index-small : (o : Ordering) → ordering_index o ≤ 2
index-small Less = omega arith
index-small Equal = omega arith
index-small Greater = omega arith

index-rises : (a b m : Mi) → order a b ≡ Less → ordering_index (order a m) ≤ ordering_index (order b m)
index-rises a b m h =
    by_order (order b m) (λ e. rw (e, order-trans a b m h e) (omega arith))
    (λ e. rw (e, subst (λ (n : Mi). order a n ≡ Less) (order-equal b m e) h) (omega arith)) (λ e. rw e (index-small (order a m)))

rises : (m : Mi) (ps : List Remembered) → IsAscending (map member ps) → IsNonDecreasingBy (λ p. ordering_index (order (member p) m)) ps
rises m [] h i j d l k = absurd (omega arith)
rises m (p ∷ ps) h zero zero d l k = omega arith
rises m (p ∷ ps) h zero (suc j) d l k = index-rises (member p) (member (get_or ps j d)) m (before-at (member p) ps j d h.0 (omega arith))
rises m (p ∷ ps) h (suc i) zero d l k = absurd (omega arith)
rises m (p ∷ ps) h (suc i) (suc j) d l k = rises m ps h.1 i j d (omega arith) (omega arith)

-- the row of a member that was heard, given the one that it had
abbrev pub row_heard : Bool → Heard → Option Remembered → Remembered
row_heard v x None = introduced v x
row_heard v x (Some p) = renewed v x p

-- what a binary search for a member over ascending rows answers is the place at which its row is put in
pub heard_at-is : (v : Bool) (x : Heard) (ps : List Remembered) (place : Result ℕ ℕ) → IsAscending (map member ps) → IsSearchInRange place (length ps) → IsBinarySearchResult (λ p. order (member p) x.mi) ps place → heard_at place v x ps ≡ put (row_heard v x (look_up x.mi ps)) ps
heard_at-is v x ps (Ok at) h range found =
    let old = get_or ps at (introduced v x) in
    let looked : look_up x.mi ps ≡ Some old = (set-is-put x.mi ps at h range found (introduced v x) refl).1 in
    (set-is-put x.mi ps at h range found (renewed v x old) refl).0 ∙ ap (λ (o : Option Remembered). put (row_heard v x o) ps) (sym looked)
heard_at-is v x ps (Err at) h range found =
    let rest = insert-is-put x.mi ps at range (found (rises x.mi ps h)) in
    rest.1 (introduced v x) refl ∙ ap (λ (o : Option Remembered). put (row_heard v x o) ps) (sym rest.0)

-- the reason to drop an announcement, given the row of its member
abbrev pub reason_by : List Remembered → Heard → Option Remembered → Option PeerRefusal
reason_by ps x None = cond (nat_le most_peers (length ps)) (Some PeersFull) None
reason_by ps x (Some p) = cond (nat_le x.mn p.last.told.mn) (Some (OldNumber p.last.told.mn)) None

pub reason_at-is : (x : Heard) (ps : List Remembered) (place : Result ℕ ℕ) → IsAscending (map member ps) → IsSearchInRange place (length ps) → IsBinarySearchResult (λ p. order (member p) x.mi) ps place → reason_at place ps x ≡ reason_by ps x (look_up x.mi ps)
reason_at-is x ps (Ok at) h range found =
    let old = get_or ps at (introduced false x) in
    let looked : look_up x.mi ps ≡ Some old = (set-is-put x.mi ps at h range found (introduced false x) refl).1 in
    ap (reason_by ps x) (sym looked)
reason_at-is x ps (Err at) h range found =
    let rest = insert-is-put x.mi ps at range (found (rises x.mi ps h)) in
    ap (reason_by ps x) (sym rest.0)
