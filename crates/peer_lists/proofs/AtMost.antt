-- No more members are known at once than are remembered.
use Rattle.std.proofs.Common.{◌≡◌, ℕ, ◌+◌, ◌≤◌, Bool, true, false, ◌||◌, List, [], ◌∷◌, Some, None, map, length, refl, sym, ◌∙◌, subst, arith, nat_le}
use Rattle.std.proofs.lemmas.Bool.{leb-false}
use Rattle.std.specs.List.{list_any, filter}
use Rattle.std.specs.Option.{option_or}
use Rattle.lan_base.specs.declared.address.Mi.{Mi}
use Rattle.peer_lists.specs.declared.heard.Heard.{Heard}
use Rattle.peer_lists.specs.declared.heard.PeerRefusal.TheVariants.{PeersFull}
use Rattle.lan_base.specs.Identifiers.{same_mi, order, has}
use Rattle.peer_lists.specs.Histories.{Peering, ticked, sent, heard, clock, is_young}
use Rattle.peer_lists.specs.Acceptance.{Own, Accepted, accepted, refusal, echo, old_number, peers_full, is_young_of, members, most_peers, put_in}
use Rattle.lan_base.specs.Identifiers.{IsBefore, IsAscending}
use Rattle.peer_lists.proofs.Identifiers.{by_test, by_order, same_mi-equal, order-equal}
use Rattle.peer_lists.proofs.Ascending.{order-less, before-lacks, before-trans, before-head, has-head, put_in-less, put_in-equal, put_in-greater, put_in-ascending, ascending-is, has-put_in}
use Rattle.peer_lists.proofs.Pasts.{by_option, reason_after, entered, accepted-new, accepted-dropped, young-now, younger, or-none}
use Rattle.peer_lists.proofs.Refusals.{has-members, filter-lacks}

-- each member of the one list is in the other
abbrev IsWithin : List Mi → List Mi → Type 0
IsWithin ms ns = (k : Mi) → has k ms ≡ true → has k ns ≡ true

-- a member of a list that another one stands before is not that one
apart-before : (n k : Mi) (ms : List Mi) → IsBefore n ms → has k ms ≡ true → same_mi n k ≡ false
apart-before n k ms b e =
    by_test (same_mi n k)
    (λ f. let same = same_mi-equal n k f in let lacks : has k ms ≡ false = subst (λ (x : Mi). has x ms ≡ false) same (before-lacks n ms b) in absurd (cc (e, lacks)))
    (λ f. f)

within-tail : (n : Mi) (ms ns : List Mi) → IsBefore n ms → IsWithin ms (n ∷ ns) → IsWithin ms ns
within-tail n ms ns b w k e = let g : (same_mi n k || has k ns) ≡ true = w k e in let f = apart-before n k ms b e in rw f at g

within-rest : (m : Mi) (ms ns : List Mi) → IsWithin (m ∷ ms) ns → IsWithin ms ns
within-rest m ms ns w k e = w k (by_test (same_mi m k) (λ f. rw f refl) (λ f. rw f e))

-- an ascending list within another is no longer
within-shorter : (ms ns : List Mi) → IsAscending ms → IsAscending ns → IsWithin ms ns → length ms ≤ length ns
within-shorter [] ns a b w = omega arith
within-shorter (m ∷ ms) [] a b w = let f : has m [] ≡ true = w m (has-head m ms) in absurd (cc (f))
within-shorter (m ∷ ms) (n ∷ ns) a b w =
    by_order (order m n)
    (λ e. absurd (cc (w m (has-head m ms), before-head m n ns e b.0)))
    (λ e.
    let below : IsBefore n ms = subst (λ (x : Mi). IsBefore x ms) (order-equal m n e) a.0 in
    let r = within-shorter ms ns a.1 b.1 (within-tail n ms ns below (within-rest m ms (n ∷ ns) w)) in omega arith)
    (λ e.
    let less = order-less m n e in
    let r = within-shorter (m ∷ ms) ns a b.1 (within-tail n (m ∷ ms) ns (less, before-trans n m ms less a.0) w) in omega arith)

put_in-longer : (m : Mi) (ms : List Mi) → length (put_in m ms) ≤ length ms + 1
put_in-longer m [] = omega arith
put_in-longer m (n ∷ ns) =
    by_order (order m n) (λ e. rw (put_in-less m n ns e) (omega arith)) (λ e. rw (put_in-equal m n ns e) (omega arith))
    (λ e. let r = put_in-longer m ns in rw (put_in-greater m n ns e) (omega arith))

put_in-within : (m : Mi) (ms : List Mi) → has m ms ≡ true → IsWithin (put_in m ms) ms
put_in-within m ms h k e =
    let g : (same_mi m k || has k ms) ≡ true = sym (has-put_in k m ms) ∙ e in
    by_test (same_mi m k) (λ f. subst (λ (x : Mi). has x ms ≡ true) (same_mi-equal m k f) h) (λ f. rw f at g)

any-fewer : {A : Type 0} (p q : A → Bool) → ((x : A) → q x ≡ true → p x ≡ true) → (xs : List A) → list_any q xs ≡ true → list_any p xs ≡ true
any-fewer p q i [] e = e
any-fewer p q i (x ∷ xs) e =
    by_test (q x) (λ f. rw (i x f) refl) (λ f. let g = rw f at e in by_test (p x) (λ k. rw k refl) (λ k. rw k (any-fewer p q i xs g)))

members-ascending : (now : ℕ) (past : List Accepted) → IsAscending (members now past)
members-ascending now past = ascending-is (map (λ a. a.told.mi) (filter (λ a. is_young now a.at) past))

members-tick : (now : ℕ) (past : List Accepted) → length (members (now + 1) past) ≤ length (members now past)
members-tick now past =
    within-shorter (members (now + 1) past) (members now past) (members-ascending (now + 1) past) (members-ascending now past)
    (λ k e. has-members now k past ∙ any-fewer (is_young_of now k) (is_young_of (now + 1) k) (younger now k) past (sym (has-members (now + 1) k past) ∙ e))

members-new : (a : Accepted) (past : List Accepted) → members a.at (a ∷ past) ≡ put_in a.told.mi (members a.at past)
members-new a past = rw (young-now a.at) refl

-- an announcement that is accepted is of a member that is known, or there is room
room-for : (own : Own) (now : ℕ) (past : List Accepted) (x : Heard) → refusal own now past x ≡ None → peers_full now past x ≡ None
unfolding refusal
room-for own now past x e =
    (or-none (old_number now past x) (peers_full now past x) (or-none (echo own x) (option_or (old_number now past x) (peers_full now past x)) e).1).1

new-within : (now : ℕ) (past : List Accepted) (x : Heard) → peers_full now past x ≡ None → length (members now past) ≤ most_peers → length (put_in x.mi (members now past)) ≤ most_peers
new-within now past x e l =
    by_test (list_any (is_young_of now x.mi) past)
    (λ f.
    let known = has-members now x.mi past ∙ f in
    let same = within-shorter (put_in x.mi (members now past)) (members now past) (put_in-ascending x.mi (members now past) (members-ascending now past)) (members-ascending now past) (put_in-within x.mi (members now past) known) in omega arith)
    (λ f.
    let lacks = filter-lacks x.mi (members now past) (has-members now x.mi past ∙ f) in
    let longer = put_in-longer x.mi (members now past) in
    by_test (nat_le most_peers (length (members now past)))
    (λ g. let full : peers_full now past x ≡ Some PeersFull = rw (lacks, f, g) refl in absurd (cc (full, e)))
    (λ g. let less = leb-false most_peers (length (members now past)) g in omega arith))

pub known-at-most : (own : Own) (h : List Peering) → length (members (clock h) (accepted own h)) ≤ most_peers
unfolding accepted
known-at-most own [] = omega arith
known-at-most own (ticked ∷ h) = let r = known-at-most own h in let s = members-tick (clock h) (accepted own h) in omega arith
known-at-most own (sent n ∷ h) = known-at-most own h
known-at-most own (heard x ∷ h) =
    by_option (reason_after own h x)
    (λ e.
    let a = entered h x in
    let r = new-within (clock h) (accepted own h) x (room-for own (clock h) (accepted own h) x e) (known-at-most own h) in
    rw (accepted-new own x h e, members-new a (accepted own h)) r)
    (λ r e. rw (accepted-dropped own x h r e) (known-at-most own h))
