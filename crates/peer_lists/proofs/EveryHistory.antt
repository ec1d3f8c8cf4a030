-- What holds after every history.
use Rattle.std.proofs.Common.{◌≡◌, ◌≢◌, ℕ, ◌+◌, Bool, true, false, cond, not, ◌&&◌, ◌||◌, List, [], ◌∷◌, ◌++◌, Option, Some, None, is_some, unwrap_or, length, refl, ap, sym, ◌∙◌, subst, arith}
use Rattle.std.proofs.lemmas.Bool.{and_parts, and_from, and_left, and_right}
use Rattle.std.specs.List.{list_any, filter, find}
use Rattle.std.specs.Option.{option_and_then, option_or}
use Rattle.lan_base.specs.declared.address.Mi.{Mi}
use Rattle.mkpdu_codec.specs.declared.peer.Peer.{Peer}
use Rattle.peer_lists.specs.declared.heard.Heard.{Heard}
use Rattle.lan_base.specs.Identifiers.{same_mi, same_sci, has}
use Rattle.peer_lists.specs.Histories.{Peering, ticked, sent, heard, clock, is_tick, is_young}
use Rattle.peer_lists.specs.Acceptance.{Own, Accepted, accepted, refusal, echo, old_number, peers_full, is_young_of, first_number}
use Rattle.peer_lists.specs.Peers.{newer, displaces, is_displaced, standing, is_of, is_vouched_of, says, hopes, known, lives, potentials, is_last_displaced}
use Rattle.peer_lists.specs.Listings.{listing, numbers_of}
use Rattle.peer_lists.proofs.Identifiers.{by_test, same_mi-equal, same_mi-itself, same_sci-itself}
use Rattle.peer_lists.proofs.Ascending.{same_mi-sym}
use Rattle.peer_lists.proofs.Finds.{find-here, find-on, find-passes, find-any, find-is_some}
use Rattle.peer_lists.proofs.Pasts.{by_option, reason_after, entered, accepted-new, accepted-dropped, accepted-upto, find-young, or-none}
use Rattle.peer_lists.proofs.Refusals.{has-members, known-is}
use Rattle.peer_lists.proofs.Shown.{says-is, hopes-is, some-cond}

pub age-is-ticks : (later earlier : List Peering) → clock (later ++ earlier) ≡ length (filter is_tick later) + clock earlier
age-is-ticks [] earlier = omega arith
age-is-ticks (ticked ∷ h) earlier = let r = age-is-ticks h earlier in omega arith
age-is-ticks (sent n ∷ h) earlier = age-is-ticks h earlier
age-is-ticks (heard x ∷ h) earlier = age-is-ticks h earlier

pub newer-is : (test : Accepted → Bool) (past : List Accepted) (last : Accepted) → find test past ≡ Some last → (earlier : List Accepted) × (past ≡ newer test past ++ last ∷ earlier) × (test last ≡ true) × (list_any test (newer test past) ≡ false)
newer-is test [] last e = absurd (cc (e))
newer-is test (a ∷ past) last e =
    by_test (test a)
    (λ f. let g = rw f at e in let same : a ≡ last = cc (g) in (past, rw f (ap (λ (x : Accepted). x ∷ past) same), rw (← same) f, rw f refl))
    (λ f. let g = rw f at e in let r = newer-is test past last g in (r.0, rw f (ap (λ (l : List Accepted). a ∷ l) r.1), r.2, rw f (rw f r.3)))

-- what stands was found, is young, and is displaced by nothing later
standing-some : (now : ℕ) (q : Accepted → Bool) (past : List Accepted) (a : Accepted) → standing now q past ≡ Some a → (find q past ≡ Some a) × (is_young now a.at ≡ true) × (is_displaced q past a ≡ false)
standing-some now q past a e =
    by_option (find q past) (λ f. let g = rw f at e in absurd (cc (g)))
    (λ b f. by_test (is_young now b.at)
    (λ g. by_test (is_displaced q past b)
    (λ k. let l = rw (f, g, k) at e in absurd (cc (l)))
    (λ k. let l = rw (f, g, k) at e in let same : b ≡ a = cc (l) in (f ∙ ap Some same, rw (← same) g, rw (← same) k)))
    (λ g. let l = rw (f, g) at e in absurd (cc (l))))

some-is : {A : Type 0} (o : Option A) → is_some o ≡ true → (a : A) × (o ≡ Some a)
some-is None e = absurd (cc (e))
some-is (Some a) e = (a, refl)

standing-known : (own : Own) (h : List Peering) (m : Mi) (q : Accepted → Bool) → ((a : Accepted) → q a ≡ true → is_of m a ≡ true) → is_some (standing (clock h) q (accepted own h)) ≡ true → has m (known own h) ≡ true
standing-known own h m q i e =
    let found = some-is (standing (clock h) q (accepted own h)) e in
    let a = found.0 in
    let s = standing-some (clock h) q (accepted own h) a found.1 in
    let young : is_young_of (clock h) m a ≡ true = and_from (is_of m a) (is_young (clock h) a.at) (i a (find-passes q (accepted own h) a s.0)) s.1 in
    ap (has m) (known-is own h) ∙ has-members (clock h) m (accepted own h) ∙ find-any (is_young_of (clock h) m) q (accepted own h) a s.0 young

pub says-known : (own : Own) (h : List Peering) (m : Mi) → is_some (says own h m) ≡ true → has m (known own h) ≡ true
says-known own h m e =
    standing-known own h m (is_vouched_of m) (λ a f. (and_parts (is_of m a) a.vouched f).0) (ap is_some (sym (says-is own h m)) ∙ e)

pub hopes-known : (own : Own) (h : List Peering) (m : Mi) → is_some (hopes own h m) ≡ true → has m (known own h) ≡ true
hopes-known own h m e =
    let both = sym (ap is_some (hopes-is own h m) ∙ some-cond (is_some (says own h m)) (standing (clock h) (is_of m) (accepted own h))) ∙ e in
    standing-known own h m (is_of m) (λ a f. f) (and_parts (not (is_some (says own h m))) (is_some (standing (clock h) (is_of m) (accepted own h))) both).1

pub says-apart : (own : Own) (h : List Peering) (m : Mi) → (is_some (says own h m) && is_some (hopes own h m)) ≡ false
says-apart own h m =
    let hoped = ap is_some (hopes-is own h m) ∙ some-cond (is_some (says own h m)) (standing (clock h) (is_of m) (accepted own h)) in
    by_test (is_some (says own h m)) (λ e. rw (hoped, e) refl) (λ e. rw e refl)

-- a member of what a filter keeps
has-filter : (m : Mi) (p : Mi → Bool) (ms : List Mi) → has m (filter p ms) ≡ (p m && has m ms)
has-filter m p [] = sym (and_right (p m) false refl)
has-filter m p (n ∷ ns) =
    by_test (same_mi n m)
    (λ e. let same = same_mi-equal n m e in by_test (p n)
    (λ f. let g : p m ≡ true = subst (λ (k : Mi). p k ≡ true) same f in rw (f, e, g) refl)
    (λ f. let g : p m ≡ false = subst (λ (k : Mi). p k ≡ false) same f in rw (f, e, g) (has-filter m p ns ∙ and_left (p m) (has m ns) g)))
    (λ e. by_test (p n) (λ f. rw (f, e) (has-filter m p ns)) (λ f. rw (f, e) (has-filter m p ns)))

and-known : (b k : Bool) → (b ≡ true → k ≡ true) → (b && k) ≡ b
and-known true k i = i refl
and-known false k i = refl

pub lives-says : (own : Own) (h : List Peering) (m : Mi) → has m (lives own h) ≡ is_some (says own h m)
lives-says own h m =
    has-filter m (λ n. is_some (says own h n)) (known own h) ∙ and-known (is_some (says own h m)) (has m (known own h)) (says-known own h m)

pub potentials-hopes : (own : Own) (h : List Peering) (m : Mi) → has m (potentials own h) ≡ is_some (hopes own h m)
potentials-hopes own h m =
    has-filter m (λ n. is_some (hopes own h n)) (known own h) ∙ and-known (is_some (hopes own h m)) (has m (known own h)) (hopes-known own h m)

-- a known member's last announcement is young
last-young : (now : ℕ) (o : Option Accepted) → is_some (option_and_then (λ a. cond (is_young now a.at) (Some a) None) o) ≡ true → (a : Accepted) × (o ≡ Some a) × (is_young now a.at ≡ true)
last-young now None e = absurd (cc (e))
last-young now (Some a) e = by_test (is_young now a.at) (λ f. (a, refl, f)) (λ f. let g = rw f at e in absurd (cc (g)))

live-potential-or-displaced : (s h d : Bool) → h ≡ (not s && not d) → (s || (h || d)) ≡ true
live-potential-or-displaced true h d e = refl
live-potential-or-displaced false true d e = refl
live-potential-or-displaced false false true e = refl
live-potential-or-displaced false false false e = cc (e)

something : (own : Own) (h : List Peering) (m : Mi) (a : Accepted) → find (is_of m) (accepted own h) ≡ Some a → is_young (clock h) a.at ≡ true → (is_some (says own h m) || (is_some (hopes own h m) || is_last_displaced own h m)) ≡ true
something own h m a e f =
    let past = accepted own h in
    let stood : is_some (standing (clock h) (is_of m) past) ≡ not (is_displaced (is_of m) past a) =
    rw (e, f) (by_test (is_displaced (is_of m) past a) (λ g. rw g refl) (λ g. rw g refl)) in
    let hoped : is_some (hopes own h m) ≡ (not (is_some (says own h m)) && not (is_displaced (is_of m) past a)) =
    ap is_some (hopes-is own h m) ∙ some-cond (is_some (says own h m)) (standing (clock h) (is_of m) past) ∙ ap (λ b. not (is_some (says own h m)) && b) stood in
    let out : is_last_displaced own h m ≡ is_displaced (is_of m) past a = rw e refl in
    rw out (live-potential-or-displaced (is_some (says own h m)) (is_some (hopes own h m)) (is_displaced (is_of m) past a) hoped)

pub known-is-something : (own : Own) (h : List Peering) (m : Mi) → has m (known own h) ≡ true → (is_some (says own h m) || (is_some (hopes own h m) || is_last_displaced own h m)) ≡ true
known-is-something own h m e =
    let now = clock h in
    let past = accepted own h in
    let some = sym (ap (has m) (known-is own h) ∙ has-members now m past ∙ sym (find-is_some (is_young_of now m) past) ∙ ap is_some (find-young now m now past (accepted-upto own h))) ∙ e in
    let last = last-young now (find (is_of m) past) some in
    something own h m last.0 last.1 last.2

-- two members that stand with vouched words do not share an SCI

or-false : (a b : Bool) → (a || b) ≡ false → (a ≡ false) × (b ≡ false)
or-false true b e = absurd (cc (e))
or-false false b e = (refl, e)

displaced-on : (q : Accepted → Bool) (r : Accepted) (past : List Accepted) (a : Accepted) → q r ≡ false → is_displaced q (r ∷ past) a ≡ false → (displaces a r ≡ false) × (is_displaced q past a ≡ false)
displaced-on q r past a e f = let g = rw e at f in or-false (displaces a r) (is_displaced q past a) g

-- the newer of two vouched announcements of members with one SCI displaces the other
newer-displaces : (m n : Mi) (r b : Accepted) → is_vouched_of m r ≡ true → b.told.mi ≡ n → same_mi m n ≡ false → r.told.sci ≡ b.told.sci → displaces b r ≡ true
newer-displaces m n r b v e d s =
    let parts = and_parts (is_of m r) r.vouched v in
    let apart : same_mi r.told.mi b.told.mi ≡ false = rw (same_mi-equal r.told.mi m parts.0, e) d in
    let same : same_sci r.told.sci b.told.sci ≡ true = rw s (same_sci-itself b.told.sci) in
    rw (parts.1, apart, same) refl

lacks-other : (m n : Mi) (r : Accepted) → is_vouched_of m r ≡ true → same_mi m n ≡ false → is_vouched_of n r ≡ false
lacks-other m n r v d =
    let parts = and_parts (is_of m r) r.vouched v in
    and_left (is_of n r) r.vouched (subst (λ (k : Mi). same_mi k n ≡ false) (sym (same_mi-equal r.told.mi m parts.0)) d)

mi-found : (m : Mi) (past : List Accepted) (a : Accepted) → find (is_vouched_of m) past ≡ Some a → a.told.mi ≡ m
mi-found m past a e = same_mi-equal a.told.mi m (and_parts (is_of m a) a.vouched (find-passes (is_vouched_of m) past a e)).0

-- one of two, as the newer
one-newer : (m n : Mi) (r : Accepted) (past : List Accepted) (a b : Accepted) → is_vouched_of m r ≡ true → find (is_vouched_of m) (r ∷ past) ≡ Some a → find (is_vouched_of n) (r ∷ past) ≡ Some b → is_displaced (is_vouched_of n) (r ∷ past) b ≡ false
    → a.told.sci ≡ b.told.sci → same_mi m n ≡ false → ⊥
one-newer m n r past a b v f g free s d =
    let same : r ≡ a = let k = sym (find-here (is_vouched_of m) r past v) ∙ f in cc (k) in
    let none = displaced-on (is_vouched_of n) r past b (lacks-other m n r v d) free in
    let sci : r.told.sci ≡ b.told.sci = ap (λ x. x.told.sci) same ∙ s in
    cc (none.0, newer-displaces m n r b v (mi-found n (r ∷ past) b g) d sci)

no-two : (m n : Mi) (past : List Accepted) (a b : Accepted) → find (is_vouched_of m) past ≡ Some a → is_displaced (is_vouched_of m) past a ≡ false → find (is_vouched_of n) past ≡ Some b → is_displaced (is_vouched_of n) past b ≡ false
    → a.told.sci ≡ b.told.sci → same_mi m n ≡ false → ⊥
no-two m n [] a b f u g w s d = cc (f)
no-two m n (r ∷ past) a b f u g w s d =
    by_test (is_vouched_of m r) (λ v. one-newer m n r past a b v f g w s d)
    (λ v. by_test (is_vouched_of n r) (λ k. one-newer n m r past b a k g f u (sym s) (same_mi-sym n m ∙ d))
    (λ k. no-two m n past a b (sym (find-on (is_vouched_of m) r past v) ∙ f) (displaced-on (is_vouched_of m) r past a v u).1 (sym (find-on (is_vouched_of n) r past k) ∙ g) (displaced-on (is_vouched_of n) r past b k w).1 s d))

pub no-shared-sci : (own : Own) (h : List Peering) (m n : Mi) (a b : Accepted) → says own h m ≡ Some a → says own h n ≡ Some b → a.told.sci ≡ b.told.sci → m ≡ n
no-shared-sci own h m n a b e f s =
    let x = standing-some (clock h) (is_vouched_of m) (accepted own h) a (sym (says-is own h m) ∙ e) in
    let y = standing-some (clock h) (is_vouched_of n) (accepted own h) b (sym (says-is own h n) ∙ f) in
    by_test (same_mi m n) (same_mi-equal m n) (λ d. absurd (no-two m n (accepted own h) a b x.0 x.2 y.0 y.2 s d))

-- no accepted announcement is an echo

echo-none : (own : Own) (now : ℕ) (past : List Accepted) (x : Heard) → refusal own now past x ≡ None → (same_mi x.mi own.mi || same_sci x.sci own.sci) ≡ false
unfolding refusal
echo-none own now past x e =
    let none = (or-none (echo own x) (option_or (old_number now past x) (peers_full now past x)) e).0 in
    by_test (same_mi x.mi own.mi || same_sci x.sci own.sci) (λ f. let g = rw f at none in absurd (cc (g))) (λ f. f)

accepted-other : (own : Own) (h : List Peering) (q : Accepted → Bool) (a : Accepted) → find q (accepted own h) ≡ Some a → (same_mi a.told.mi own.mi || same_sci a.told.sci own.sci) ≡ false
unfolding accepted
accepted-other own [] q a e = absurd (cc (e))
accepted-other own (ticked ∷ h) q a e = accepted-other own h q a e
accepted-other own (sent n ∷ h) q a e = accepted-other own h q a e
accepted-other own (heard x ∷ h) q a e =
    by_option (reason_after own h x)
    (λ f. let g = sym (ap (find q) (accepted-new own x h f)) ∙ e in
    by_test (q (entered h x))
    (λ k. let same : entered h x ≡ a = let l = sym (find-here q (entered h x) (accepted own h) k) ∙ g in cc (l) in subst (λ (b : Accepted). (same_mi b.told.mi own.mi || same_sci b.told.sci own.sci) ≡ false) same (echo-none own (clock h) (accepted own h) x f))
    (λ k. accepted-other own h q a (sym (find-on q (entered h x) (accepted own h) k) ∙ g)))
    (λ r f. accepted-other own h q a (sym (ap (find q) (accepted-dropped own x h r f)) ∙ e))

pub says-other : (own : Own) (h : List Peering) (m : Mi) (a : Accepted) → says own h m ≡ Some a → (m ≢ own.mi) × (a.told.sci ≢ own.sci)
says-other own h m a e =
    let x = standing-some (clock h) (is_vouched_of m) (accepted own h) a (sym (says-is own h m) ∙ e) in
    let other = or-false (same_mi a.told.mi own.mi) (same_sci a.told.sci own.sci) (accepted-other own h (is_vouched_of m) a x.0) in (
      λ f. let k : same_mi a.told.mi own.mi ≡ true = rw (mi-found m (accepted own h) a x.0, f) (same_mi-itself own.mi) in cc (k, other.0),
      λ f. let k : same_sci a.told.sci own.sci ≡ true = rw f (same_sci-itself own.sci) in cc (k, other.1),
    )

-- the picked number is recent exactly where one of the numbers is

picked-is : (recent : ℕ → Bool) (ns : List ℕ) → (is_some (first_number ns) && recent (unwrap_or (option_or (find recent ns) (first_number ns)) 0)) ≡ list_any recent ns
picked-is recent [] = refl
picked-is recent (n ∷ ns) =
    by_option (find recent (n ∷ ns))
    (λ e. let none = sym (find-is_some recent (n ∷ ns)) ∙ ap is_some e in rw e ((or-false (recent n) (list_any recent ns) none).0 ∙ sym none))
    (λ k e. let some = sym (find-is_some recent (n ∷ ns)) ∙ ap is_some e in rw e (find-passes recent (n ∷ ns) k e ∙ sym some))

numbers-any : (own : Mi) (recent : ℕ → Bool) (pairs : List Peer) → list_any recent (numbers_of own pairs) ≡ list_any (λ p. same_mi p.mi own && recent p.mn) pairs
numbers-any own recent [] = refl
numbers-any own recent (p ∷ ps) =
    by_test (same_mi p.mi own) (λ e. rw e (ap (λ b. recent p.mn || b) (numbers-any own recent ps))) (λ e. rw e (numbers-any own recent ps))

pub vouched-is : (own : Mi) (recent : ℕ → Bool) (pairs : List Peer) → let l = listing own recent pairs in (l.lists && recent l.listed) ≡ list_any (λ p. same_mi p.mi own && recent p.mn) pairs
vouched-is own recent pairs = picked-is recent (numbers_of own pairs) ∙ numbers-any own recent pairs
