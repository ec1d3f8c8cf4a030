-- The rows of the peer lists show what a view has of live and potential members.
use Rattle.std.proofs.Common.{◌≡◌, ◌∙◌, ◌<◌, ◌≤◌, ◌+◌, ◌++◌, length, arith, ℕ, zero, suc, Bool, true, false, cond, not, ◌&&◌, List, [], ◌∷◌, map, slice_get, Option, Some, None, is_some, unwrap_or, ap, sym, refl, subst}
use Rattle.std.specs.List.{filter, filter_map}
use Rattle.std.specs.Option.{option_map, option_and_then}
use Rattle.std.specs.List.{find}
use Rattle.lan_base.specs.declared.address.Mi.{Mi}
use Rattle.lan_base.specs.Identifiers.{same_mi, has}
use Rattle.peer_lists.specs.declared.heard.Row.{Row}
use Rattle.peer_lists.specs.Histories.{Peering, clock, is_young}
use Rattle.peer_lists.specs.Acceptance.{Own, Accepted, accepted}
use Rattle.peer_lists.specs.Peers.{is_of, is_vouched_of, is_displaced, standing, says, hopes, known, last_accepted, row_of, row_at}
use Rattle.peer_lists.specs.Table.{words_of}
use Rattle.peer_lists.proofs.Public.{by_test, same_mi-equal, same_mi-itself, find-passes, by_option, remembered-is, has-known, says-is, hopes-is}
use Rattle.mka_station.specs.Lives.{Member, Entry, own, peers_of, candidate_of}
use Rattle.mka_station.specs.Views.{View, view, speakers, reports}
use Rattle.mka_station.specs.Announcing.{peer_of}
use Rattle.mka_station.specs.inside.Rows.{report_of, candidate_in, peer_in, IsShown}

-- ---- lists

pub same-list : {A : Type 0} (xs ys : List A) → ((at : ℕ) → slice_get xs at ≡ slice_get ys at) → xs ≡ ys
same-list [] [] same = refl
same-list [] (y ∷ ys) same = absurd (cc (same 0))
same-list (x ∷ xs) [] same = absurd (cc (same 0))
same-list (x ∷ xs) (y ∷ ys) same =
    let e : Some x ≡ Some y = same 0 in
    let r = same-list xs ys (λ at. same (suc at)) in
    cc

-- ---- rows over a list of members

abbrev pub rows_over : Own → List Peering → List Mi → List Row
rows_over o h ms = filter_map (λ m. option_map (row_of o h m) (last_accepted o h m)) ms

-- each of them has an accepted announcement
abbrev pub AreHeard : Own → List Peering → List Mi → Type 0
AreHeard o h [] = Unit {0}
AreHeard o h (m ∷ ms) = (is_some (last_accepted o h m) ≡ true) × AreHeard o h ms

pub some-is : {A : Type 0} (o : Option A) → is_some o ≡ true → (a : A) × (o ≡ Some a)
some-is None is = absurd (cc (is))
some-is (Some a) is = (a, refl)

pub rows-at : (o : Own) (h : List Peering) (ms : List Mi) (at : ℕ) → AreHeard o h ms
    → slice_get (rows_over o h ms) at ≡ option_and_then (λ m. option_map (row_of o h m) (last_accepted o h m)) (slice_get ms at)
rows-at o h [] at are = refl
rows-at o h (m ∷ ms) zero are =
    let l = some-is (last_accepted o h m) are.0 in
    rw l.1 refl
rows-at o h (m ∷ ms) (suc at) are =
    let l = some-is (last_accepted o h m) are.0 in
    rw l.1 (rows-at o h ms at are.1)

-- ---- who is known was heard

kept-heard : (now : ℕ) (m : Mi) (past : List Accepted) → is_some (words_of now (is_of m) past) ≡ true → is_some (find (is_of m) past) ≡ true
kept-heard now m past is = by_option (find (is_of m) past) (λ e. absurd (cc (rw e at is))) (λ a e. rw e refl)

map-some : {A B : Type 0} (f : A → B) (o : Option A) → is_some (option_map f o) ≡ is_some o
map-some f None = refl
map-some f (Some a) = refl

known-heard : (o : Own) (h : List Peering) (m : Mi) → has m (known o h) ≡ true → is_some (last_accepted o h m) ≡ true
known-heard o h m is =
    kept-heard (clock h) m (accepted o h) (sym (map-some _ (words_of (clock h) (is_of m) (accepted o h))) ∙ sym (ap is_some (remembered-is o h m)) ∙ sym (has-known o h m) ∙ is)

has-first : (m : Mi) (ms : List Mi) → has m (m ∷ ms) ≡ true
has-first m ms = rw (same_mi-itself m) refl

has-later : (n m : Mi) (ms : List Mi) → has m ms ≡ true → has m (n ∷ ms) ≡ true
has-later n m ms is = by_test (same_mi n m) (λ e. rw e refl) (λ e. rw e is)

are-heard : (o : Own) (h : List Peering) (ms : List Mi) → ((m : Mi) → has m ms ≡ true → is_some (last_accepted o h m) ≡ true) → AreHeard o h ms
are-heard o h [] each = tt
are-heard o h (m ∷ ms) each = (each m (has-first m ms), are-heard o h ms (λ n is. each n (has-later m n ms is)))

pub all-heard : (o : Own) (h : List Peering) → AreHeard o h (known o h)
all-heard o h = are-heard o h (known o h) (known-heard o h)

row-at-is : (o : Own) (h : List Peering) (at : ℕ) → row_at o h at ≡ option_and_then (λ m. option_map (row_of o h m) (last_accepted o h m)) (slice_get (known o h) at)
unfolding row_at
row-at-is o h at = refl

-- rows that are those of each place are the rows over the known members
pub rows-are : (o : Own) (h : List Peering) (rows : List Row) → ((at : ℕ) → slice_get rows at ≡ row_at o h at) → rows ≡ rows_over o h (known o h)
rows-are o h rows each = same-list rows (rows_over o h (known o h)) (λ at. each at ∙ row-at-is o h at ∙ sym (rows-at o h (known o h) at (all-heard o h)))

-- ---- what live and potential members say

picked : (b : Bool) (x a : Accepted) → cond b (Some x) None ≡ Some a → Some x ≡ Some a
picked true x a is = is
picked false x a is = absurd (cc (is))

pub standing-found : (now : ℕ) (test : Accepted → Bool) (past : List Accepted) (a : Accepted) → standing now test past ≡ Some a → find test past ≡ Some a
standing-found now test past a is =
    by_option (find test past) (λ e. absurd (cc (rw e at is))) (λ b e. e ∙ picked (is_young now b.at && not (is_displaced test past b)) b a (rw e at is))

first-true : (b c : Bool) → (b && c) ≡ true → b ≡ true
first-true true c is = refl
first-true false c is = absurd (cc (is))

says-of : (o : Own) (h : List Peering) (m : Mi) (a : Accepted) → says o h m ≡ Some a → a.told.mi ≡ m
says-of o h m a is =
    let f = standing-found (clock h) (is_vouched_of m) (accepted o h) a (sym (says-is o h m) ∙ is) in
    let p = find-passes (is_vouched_of m) (accepted o h) a f in
    same_mi-equal a.told.mi m (first-true (same_mi a.told.mi m) a.vouched p)

unpicked : (b : Bool) (o : Option Accepted) (a : Accepted) → cond b None o ≡ Some a → o ≡ Some a
unpicked true o a is = absurd (cc (is))
unpicked false o a is = is

pub hopes-of : (o : Own) (h : List Peering) (m : Mi) (a : Accepted) → hopes o h m ≡ Some a → last_accepted o h m ≡ Some a
hopes-of o h m a is =
    standing-found (clock h) (is_of m) (accepted o h) a
    (unpicked (is_some (says o h m)) (standing (clock h) (is_of m) (accepted o h)) a (sym (hopes-is o h m) ∙ is))

last-of : (o : Own) (h : List Peering) (m : Mi) (a : Accepted) → last_accepted o h m ≡ Some a → a.told.mi ≡ m
last-of o h m a is = same_mi-equal a.told.mi m (find-passes (is_of m) (accepted o h) a is)

-- ---- rows and words, member by member

-- a row of a member passes a test exactly where the member has words, of which it then shows the same
pub record Agrees {X : Type 0} (o : Own) (h : List Peering) (f : Row → X) (g : Accepted → X) (test : Row → Bool) (words : Mi → Option Accepted) : Type 0 where
  pub silent : (m : Mi) (l : Accepted) → last_accepted o h m ≡ Some l → words m ≡ None → test (row_of o h m l) ≡ false
  pub speaks : (m : Mi) (l a : Accepted) → last_accepted o h m ≡ Some l → words m ≡ Some a → test (row_of o h m l) ≡ true
  pub same : (m : Mi) (l a : Accepted) → last_accepted o h m ≡ Some l → words m ≡ Some a → f (row_of o h m l) ≡ g a

pub rows-agree : {X : Type 0} (o : Own) (h : List Peering) (f : Row → X) (g : Accepted → X) (test : Row → Bool) (words : Mi → Option Accepted)
    → Agrees o h f g test words → (ms : List Mi) → AreHeard o h ms
    → map f (filter test (rows_over o h ms)) ≡ map g (filter_map words ms)
rows-agree o h f g test words agrees [] are = refl
rows-agree o h f g test words agrees (m ∷ ms) are =
    let l = some-is (last_accepted o h m) are.0 in
    let later = rows-agree o h f g test words agrees ms are.1 in
    rw l.1
    (by_option (words m)
    (λ e. rw (e, agrees.silent m l.0 l.1 e) later)
    (λ a e. rw (e, agrees.speaks m l.0 a l.1 e) (cc (agrees.same m l.0 a l.1 e, later))))

-- ---- a row's parts, where its member says something

report-same : (o : Own) (h : List Peering) (n : Mi) (l a : Accepted) → says o h n ≡ Some a → report_of (row_of o h n l) ≡ record { mi = a.told.mi; uses = a.told.uses }
report-same o h n l a s = let i = says-of o h n a s in rw (s, row_of) (cc)

candidate-same : (o : Own) (h : List Peering) (n : Mi) (l a : Accepted) → says o h n ≡ Some a → candidate_in (row_of o h n l) ≡ candidate_of a
candidate-same o h n l a s = let i = says-of o h n a s in rw (s, row_of) (cc)

-- ---- the six parts

live-agrees : {X : Type 0} (o : Own) (h : List Peering) (f : Row → X) (g : Accepted → X)
    → ((m : Mi) (l a : Accepted) → last_accepted o h m ≡ Some l → says o h m ≡ Some a → f (row_of o h m l) ≡ g a)
    → Agrees o h f g (λ r. r.live) (says o h)
live-agrees o h f g same = record {
  silent = λ m l e n. ap is_some n;
  speaks = λ m l a e s. ap is_some s;
  same = same;
}

potential-agrees : {X : Type 0} (o : Own) (h : List Peering) (f : Row → X) (g : Accepted → X)
    → ((m : Mi) (l a : Accepted) → last_accepted o h m ≡ Some l → hopes o h m ≡ Some a → f (row_of o h m l) ≡ g a)
    → Agrees o h f g (λ r. r.potential) (hopes o h)
potential-agrees o h f g same = record {
  silent = λ m l e n. ap is_some n;
  speaks = λ m l a e s. ap is_some s;
  same = same;
}

-- what is said last of a member, found by what an announcement of it has
pub last-said : (o : Own) (h : List Peering) (m : Mi) (l a : Accepted) → last_accepted o h m ≡ Some l → a.told.mi ≡ m → unwrap_or (last_accepted o h a.told.mi) a ≡ l
last-said o h m l a e i = ap (λ n. unwrap_or (last_accepted o h n) a) i ∙ ap (λ x. unwrap_or x a) e

peer-same : (m : Member) (v : View) (n : Mi) (l a : Accepted) → last_accepted (own m) v.peers n ≡ Some l → a.told.mi ≡ n → peer_in (row_of (own m) v.peers n l) ≡ peer_of m v a
peer-same m v n l a e i = let last = last-said (own m) v.peers n l a e i in cc

-- the rows over known members show live and potential members
pub shows-words : (m : Member) (v : View) (ks : List Mi) → AreHeard (own m) v.peers ks
    → v.live ≡ filter_map (says (own m) v.peers) ks → v.potential ≡ filter_map (hopes (own m) v.peers) ks
    → IsShown m v (rows_over (own m) v.peers ks)
shows-words m v ks are live potential =
    let o = own m in
    let h = v.peers in
    record {
      live_members = rows-agree o h (λ r. r.mi) (λ a. a.told.mi) (λ r. r.live) (says o h) (live-agrees o h _ _ (λ n l a e s. sym (says-of o h n a s))) ks are ∙ ap speakers (sym live);
      live_reports = rows-agree o h report_of (λ a. record { mi = a.told.mi; uses = a.told.uses }) (λ r. r.live) (says o h) (live-agrees o h _ _ (λ n l a e s. report-same o h n l a s)) ks are ∙ ap reports (sym live);
      live_candidates = rows-agree o h candidate_in candidate_of (λ r. r.live) (says o h) (live-agrees o h _ _ (λ n l a e s. candidate-same o h n l a s)) ks are ∙ ap (map candidate_of) (sym live);
      live_peers = rows-agree o h peer_in (peer_of m v) (λ r. r.live) (says o h) (live-agrees o h _ _ (λ n l a e s. peer-same m v n l a e (says-of o h n a s))) ks are ∙ ap (map (peer_of m v)) (sym live);
      potential_members = rows-agree o h (λ r. r.mi) (λ a. a.told.mi) (λ r. r.potential) (hopes o h) (potential-agrees o h _ _ (λ n l a e s. sym (last-of o h n a (hopes-of o h n a s)))) ks are ∙ ap speakers (sym potential);
      potential_peers = rows-agree o h peer_in (peer_of m v) (λ r. r.potential) (hopes o h) (potential-agrees o h _ _ (λ n l a e s. peer-same m v n l a e (last-of o h n a (hopes-of o h n a s)))) ks are ∙ ap (map (peer_of m v)) (sym potential);
    }

view-peers : (m : Member) (p : List Entry) → (view m p).peers ≡ peers_of m p
unfolding view
view-peers m p = refl

pub view-live : (m : Member) (p : List Entry) → (view m p).live ≡ filter_map (says (own m) (view m p).peers) (known (own m) (view m p).peers)
unfolding view
view-live m p = refl

pub view-potential : (m : Member) (p : List Entry) → (view m p).potential ≡ filter_map (hopes (own m) (view m p).peers) (known (own m) (view m p).peers)
unfolding view
view-potential m p = refl

-- rows that are those of each place show a view
pub rows-show : (m : Member) (p : List Entry) (h : List Peering) (rows : List Row) → peers_of m p ≡ h → ((at : ℕ) → slice_get rows at ≡ row_at (own m) h at) → IsShown m (view m p) rows
rows-show m p h rows is each =
    let q = (view m p).peers in
    let all = rows-are (own m) q rows (λ at. each at ∙ ap (λ g. row_at (own m) g at) (sym (view-peers m p ∙ is))) in
    subst (λ rs. IsShown m (view m p) rs) (sym all) (shows-words m (view m p) (known (own m) q) (all-heard (own m) q) (view-live m p) (view-potential m p))

-- ---- rows that are taken one by one

get-front : {A : Type 0} (xs : List A) (x : A) (at : ℕ) → at < length xs → slice_get (xs ++ x ∷ []) at ≡ slice_get xs at
get-front [] x at l = absurd (omega arith)
get-front (y ∷ xs) x zero l = refl
get-front (y ∷ xs) x (suc at) l = get-front xs x at (omega arith)

get-last : {A : Type 0} (xs : List A) (x : A) (at : ℕ) → at ≡ length xs → slice_get (xs ++ x ∷ []) at ≡ Some x
get-last [] x at e = rw e refl
get-last (y ∷ xs) x zero e = absurd (omega arith)
get-last (y ∷ xs) x (suc at) e = get-last xs x at (omega arith)
