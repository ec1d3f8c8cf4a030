-- What is shown of a member follows from what is kept of it.
use Rattle.std.proofs.Common.{◌≡◌, ℕ, suc, zero, Bool, true, false, cond, not, ◌&&◌, List, [], ◌∷◌, Option, Some, None, is_some, is_none, unwrap_or, map, refl, ap, sym, ◌∙◌, subst, slice_get}
use Rattle.std.proofs.lemmas.Option.{slice_get-map}
use Rattle.std.specs.List.{find}
use Rattle.std.specs.Option.{option_map, option_and_then}
use Rattle.std.specs.declared.cmp.Ordering.TheVariants.{Less}
use Rattle.lan_base.specs.declared.address.Mi.{Mi}
use Rattle.peer_lists.specs.declared.remembered.Words.{Words}
use Rattle.peer_lists.specs.declared.remembered.Remembered.{Remembered}
use Rattle.lan_base.specs.Identifiers.{same_mi, order}
use Rattle.peer_lists.specs.Histories.{Peering, clock, is_young}
use Rattle.peer_lists.specs.Acceptance.{Own, Accepted, accepted}
use Rattle.peer_lists.specs.Peers.{is_of, is_vouched_of, is_displaced, standing, says, hopes, known, row_of, row_at}
use Rattle.peer_lists.specs.Table.{words_of, remembered, look_up, member}
use Rattle.lan_base.specs.Identifiers.{IsAscending, IsBefore}
use Rattle.peer_lists.specs.Showing.{shown}
use Rattle.peer_lists.proofs.Identifiers.{by_test, same_mi-itself}
use Rattle.peer_lists.proofs.Ascending.{same_mi-apart}
use Rattle.peer_lists.proofs.TableRows.{look_up-head, look_up-tail}
use Rattle.peer_lists.proofs.Pasts.{by_option}
use Rattle.peer_lists.proofs.Refusals.{remembered-is, rows-known}
use Rattle.peer_lists.proofs.Changes.{words-of-member}

-- the words, if they are not displaced
abbrev pub undisplaced : Words → Option Words
undisplaced w = cond w.displaced None (Some w)

-- what stands is what is kept and not displaced
pub standing-told : (now : ℕ) (q : Accepted → Bool) (past : List Accepted) → option_map (λ a. a.told) (standing now q past) ≡ option_map (λ w. w.told) (option_and_then undisplaced (words_of now q past))
standing-told now q past =
    by_option (find q past) (λ e. rw e refl)
    (λ a e. rw e
    (by_test (is_young now a.at)
    (λ f. rw f (by_test (is_displaced q past a) (λ g. rw g refl) (λ g. rw g refl)))
    (λ f. rw f refl)))

some-told : (o : Option Accepted) (k : Option Words) → option_map (λ a. a.told) o ≡ option_map (λ w. w.told) k → is_some o ≡ is_some k
some-told None None e = refl
some-told None (Some w) e = absurd (cc)
some-told (Some a) None e = absurd (cc)
some-told (Some a) (Some w) e = refl

told-of : (o : Option Accepted) (k : Option Words) (a : Accepted) (w : Words) → option_map (λ a. a.told) o ≡ option_map (λ w. w.told) k → a.told ≡ w.told → (unwrap_or o a).told ≡ (unwrap_or k w).told
told-of None None a w e f = f
told-of None (Some k) a w e f = absurd (cc)
told-of (Some o) None a w e f = absurd (cc)
told-of (Some o) (Some k) a w e f = cc

-- the announcement of which words are kept
words-told : (now : ℕ) (q : Accepted → Bool) (past : List Accepted) (w : Words) → words_of now q past ≡ Some w → (a : Accepted) × (find q past ≡ Some a) × (a.told ≡ w.told)
words-told now q past w e =
    by_option (find q past) (λ f. let g = rw f at e in absurd (cc (g)))
    (λ a f. by_test (is_young now a.at) (λ g. let k = rw (f, g) at e in (a, f, cc (k))) (λ g. let k = rw (f, g) at e in absurd (cc (k))))

pub says-is : (own : Own) (h : List Peering) (m : Mi) → says own h m ≡ standing (clock h) (is_vouched_of m) (accepted own h)
unfolding says
says-is own h m = refl

pub hopes-is : (own : Own) (h : List Peering) (m : Mi) → hopes own h m ≡ cond (is_some (says own h m)) None (standing (clock h) (is_of m) (accepted own h))
unfolding hopes
hopes-is own h m = refl

some-undisplaced : (w : Words) → is_some (undisplaced w) ≡ not w.displaced
some-undisplaced w = by_test w.displaced (λ e. rw e refl) (λ e. rw e refl)

none-some : {A : Type 0} (o : Option A) → is_none o ≡ not (is_some o)
none-some None = refl
none-some (Some a) = refl

pub some-cond : {A : Type 0} (b : Bool) (o : Option A) → is_some (cond b None o) ≡ (not b && is_some o)
some-cond true o = refl
some-cond false o = refl

-- the row of a member of which this is kept
shown-kept : (own : Own) (h : List Peering) (m : Mi) (w : Words) → words_of (clock h) (is_of m) (accepted own h) ≡ Some w
    → option_map (row_of own h m) (find (is_of m) (accepted own h)) ≡ Some (shown (record { last = w; vouched = words_of (clock h) (is_vouched_of m) (accepted own h) }))
shown-kept own h m w e =
    let now = clock h in
    let past = accepted own h in
    let vouched = words_of now (is_vouched_of m) past in
    let live = option_and_then undisplaced vouched in
    let last = words-told now (is_of m) past w e in
    let a = last.0 in
    let said : option_map (λ a. a.told) (says own h m) ≡ option_map (λ w. w.told) live = ap (option_map (λ a. a.told)) (says-is own h m) ∙ standing-told now (is_vouched_of m) past in
    let lives : is_some (says own h m) ≡ is_some live = some-told (says own h m) live said in
    let words : (unwrap_or (says own h m) a).told ≡ (unwrap_or live w).told = told-of (says own h m) live a w said last.2 in
    let stands : is_some (standing now (is_of m) past) ≡ not w.displaced =
    some-told (standing now (is_of m) past) (option_and_then undisplaced (words_of now (is_of m) past)) (standing-told now (is_of m) past) ∙ ap (λ o. is_some (option_and_then undisplaced o)) e ∙ some-undisplaced w in
    let hoped : is_some (hopes own h m) ≡ (is_none live && not w.displaced) =
    ap is_some (hopes-is own h m) ∙ some-cond (is_some (says own h m)) (standing now (is_of m) past) ∙ (λ i. not (lives i) && stands i) ∙ ap (λ b. b && not w.displaced) (sym (none-some live)) in
    let mn : a.told.mn ≡ w.told.mn = ap (λ x. x.mn) last.2 in
    let mi : m ≡ w.told.mi = sym (words-of-member m now past w e) in
    ap (option_map (row_of own h m)) last.1
    ∙ (λ i. Some (record { mi = mi i; mn = mn i; sci = (words i).sci; priority = (words i).priority; live = lives i; potential = hoped i; uses = (words i).uses }))

pub shown-is : (own : Own) (h : List Peering) (m : Mi) (p : Remembered) → remembered own h m ≡ Some p → option_map (row_of own h m) (find (is_of m) (accepted own h)) ≡ Some (shown p)
shown-is own h m p e =
    let kept = sym (remembered-is own h m) ∙ e in
    by_option (words_of (clock h) (is_of m) (accepted own h)) (λ f. let g = rw f at kept in absurd (cc (g)))
    (λ w f. let g = rw f at kept in shown-kept own h m w f ∙ ap (option_map shown) g)

-- the row at a place is the row of its member
get-before : (m : Mi) (ps : List Remembered) (at : ℕ) (p : Remembered) → IsBefore m (map member ps) → slice_get ps at ≡ Some p → order m (member p) ≡ Less
get-before m [] at p h e = absurd (cc)
get-before m (r ∷ ps) zero p h e = let same : r ≡ p = cc in subst (λ (x : Remembered). order m (member x) ≡ Less) same h.0
get-before m (r ∷ ps) (suc at) p h e = get-before m ps at p h.1 e

look_up-get : (ps : List Remembered) (at : ℕ) (p : Remembered) → IsAscending (map member ps) → slice_get ps at ≡ Some p → look_up (member p) ps ≡ Some p
look_up-get [] at p h e = absurd (cc)
look_up-get (r ∷ ps) zero p h e =
    let same : r ≡ p = cc in look_up-head (member p) r ps (ap (λ x. same_mi (member x) (member p)) same ∙ same_mi-itself (member p)) ∙ ap Some same
look_up-get (r ∷ ps) (suc at) p h e =
    look_up-tail (member p) r ps (same_mi-apart (member r) (member p) (get-before (member r) ps at p h.0 e)) ∙ look_up-get ps at p h.1 e

row_at-is : (own : Own) (h : List Peering) (at : ℕ) → row_at own h at ≡ option_and_then (λ m. option_map (row_of own h m) (find (is_of m) (accepted own h))) (slice_get (known own h) at)
unfolding row_at
row_at-is own h at = refl

pub rows-shown : (own : Own) (h : List Peering) (ps : List Remembered) → IsAscending (map member ps) → ((m : Mi) → look_up m ps ≡ remembered own h m) → (at : ℕ) → option_map shown (slice_get ps at) ≡ row_at own h at
rows-shown own h ps up rows at =
    rw (row_at-is own h at, ← rows-known own h ps up rows, slice_get-map member ps at)
    (by_option (slice_get ps at) (λ e. rw e refl)
    (λ p e. rw e (sym (shown-is own h (member p) p (sym (rows (member p)) ∙ look_up-get ps at p up e)))))
