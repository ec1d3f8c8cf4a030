-- How what is kept of a member changes with each entry of the history.
use Rattle.std.proofs.Common.{◌≡◌, ℕ, ◌+◌, ◌-◌, Bool, true, false, cond, not, ◌&&◌, ◌||◌, List, [], ◌∷◌, Option, Some, None, is_some, refl, ap, sym, ◌∙◌, subst, arith, nat_lt}
use Rattle.std.proofs.lemmas.Bool.{and_parts, and_from, and_left, and_right, ltb-true, ltb-false, lt-ltb, le-ltb}
use Rattle.std.specs.List.{list_any, find}
use Rattle.std.specs.Option.{option_map, option_and_then}
use Rattle.lan_base.specs.declared.address.Mi.{Mi}
use Rattle.peer_lists.specs.declared.heard.Heard.{Heard}
use Rattle.peer_lists.specs.declared.heard.PeerRefusal.{PeerRefusal}
use Rattle.peer_lists.specs.declared.remembered.Words.{Words}
use Rattle.peer_lists.specs.declared.remembered.Remembered.{Remembered}
use Rattle.lan_base.specs.Timers.{life_time}
use Rattle.lan_base.specs.Identifiers.{same_mi, same_sci}
use Rattle.peer_lists.specs.Histories.{Peering, ticked, sent, heard, clock, is_young}
use Rattle.peer_lists.specs.Acceptance.{Own, Accepted, accepted, vouches, is_young_of}
use Rattle.peer_lists.specs.Peers.{is_of, is_vouched_of, newer, is_displaced}
use Rattle.peer_lists.specs.Table.{words_of, remembered}
use Rattle.peer_lists.specs.Showing.{aged, kept_words, aged_peer}
use Rattle.peer_lists.specs.inside.RowChanges.{fresh, displaced_under, displaced_peer}
use Rattle.peer_lists.proofs.Identifiers.{by_test, same_mi-equal, same_mi-itself}
use Rattle.peer_lists.proofs.Ascending.{same_mi-sym}
use Rattle.peer_lists.proofs.TableRows.{passing, row_heard}
use Rattle.peer_lists.proofs.Finds.{find-here, find-on, find-passes, find-any}
use Rattle.peer_lists.proofs.Pasts.{by_option, reason_after, entered, accepted-ticked, accepted-sent, accepted-new, accepted-dropped, IsUpTo, accepted-upto, young-now, words_if_young, kept-some}
use Rattle.peer_lists.proofs.Refusals.{remembered-is}

-- a tick

kept-tick : (now at : ℕ) (told : Heard) (d : Bool) → cond (is_young (now + 1) at) (Some (record { told = told; left = (at + life_time) - (now + 1); displaced = d })) None ≡ option_and_then (λ w. kept_words (aged w)) (cond (is_young now at) (Some (record { told = told; left = (at + life_time) - now; displaced = d })) None)
kept-tick now at told d =
    by_test (is_young (now + 1) at)
    (λ e. let l = ltb-true (now + 1) (at + life_time) e in
    let f : is_young now at ≡ true = lt-ltb now (at + life_time) (omega arith) in
    let g : nat_lt 0 (((at + life_time) - now) - 1) ≡ true = lt-ltb 0 (((at + life_time) - now) - 1) (omega arith) in
    let n : (at + life_time) - (now + 1) ≡ ((at + life_time) - now) - 1 = omega arith in
    rw (e, f, g, n) refl)
    (λ e. let l = ltb-false (now + 1) (at + life_time) e in
    by_test (is_young now at)
    (λ f. let g : nat_lt 0 (((at + life_time) - now) - 1) ≡ false = le-ltb 0 (((at + life_time) - now) - 1) (omega arith) in rw (e, f, g) refl)
    (λ f. rw (e, f) refl))

words-tick-of : (now : ℕ) (q : Accepted → Bool) (past : List Accepted) (o : Option Accepted) → option_and_then (words_if_young (now + 1) q past) o ≡ option_and_then (λ w. kept_words (aged w)) (option_and_then (words_if_young now q past) o)
words-tick-of now q past None = refl
words-tick-of now q past (Some a) = kept-tick now a.at a.told (is_displaced q past a)

words-tick : (now : ℕ) (q : Accepted → Bool) (past : List Accepted) → words_of (now + 1) q past ≡ option_and_then (λ w. kept_words (aged w)) (words_of now q past)
words-tick now q past = words-tick-of now q past (find q past)

-- whether the last words have ticks left
abbrev pub is_kept : Remembered → Bool
is_kept p = nat_lt 0 p.last.left

peer-tick : (o v : Option Words) → option_map (λ last. record { last = last; vouched = option_and_then (λ w. kept_words (aged w)) v }) (option_and_then (λ w. kept_words (aged w)) o) ≡ option_and_then (passing is_kept) (option_map aged_peer (option_map (λ last. record { last = last; vouched = v }) o))
peer-tick None v = refl
peer-tick (Some w) v = by_test (nat_lt 0 (w.left - 1)) (λ e. rw e refl) (λ e. rw e refl)

pub remembered-tick : (own : Own) (h : List Peering) (m : Mi) → remembered own (ticked ∷ h) m ≡ option_and_then (passing is_kept) (option_map aged_peer (remembered own h m))
remembered-tick own h m =
    rw (remembered-is own (ticked ∷ h) m, remembered-is own h m, accepted-ticked own h, words-tick (clock h) (is_of m) (accepted own h), words-tick (clock h) (is_vouched_of m) (accepted own h))
    (peer-tick (words_of (clock h) (is_of m) (accepted own h)) (words_of (clock h) (is_vouched_of m) (accepted own h)))

-- what was sent, and what is dropped

pub remembered-sent : (own : Own) (n : ℕ) (h : List Peering) (m : Mi) → remembered own (sent n ∷ h) m ≡ remembered own h m
remembered-sent own n h m = rw (remembered-is own (sent n ∷ h) m, remembered-is own h m, accepted-sent own n h) refl

pub remembered-dropped : (own : Own) (x : Heard) (h : List Peering) (r : PeerRefusal) → reason_after own h x ≡ Some r → (m : Mi) → remembered own (heard x ∷ h) m ≡ remembered own h m
remembered-dropped own x h r e m = rw (remembered-is own (heard x ∷ h) m, remembered-is own h m, accepted-dropped own x h r e) refl

-- an accepted announcement

newer-here : (q : Accepted → Bool) (a : Accepted) (past : List Accepted) → q a ≡ true → newer q (a ∷ past) ≡ []
newer-here q a past e = rw e refl

newer-over : (q : Accepted → Bool) (a : Accepted) (past : List Accepted) → q a ≡ false → newer q (a ∷ past) ≡ a ∷ newer q past
newer-over q a past e = rw e refl

words-here : (q : Accepted → Bool) (a : Accepted) (past : List Accepted) → q a ≡ true → words_of a.at q (a ∷ past) ≡ Some (fresh a.told)
words-here q a past e =
    let n : (a.at + life_time) - a.at ≡ life_time = omega arith in
    rw (find-here q a past e, young-now a.at, newer-here q a past e, n) refl

-- words after a later announcement
abbrev displaced_by : Accepted → Words → Words
displaced_by a w = record w { displaced = (a.vouched && (not (same_mi a.told.mi w.told.mi) && same_sci a.told.sci w.told.sci)) || w.displaced }

words-over : (q : Accepted → Bool) (now : ℕ) (a : Accepted) (past : List Accepted) → q a ≡ false → words_of now q (a ∷ past) ≡ option_map (displaced_by a) (words_of now q past)
words-over q now a past e =
    rw (find-on q a past e, newer-over q a past e)
    (by_option (find q past) (λ f. rw f refl) (λ b f. rw f (by_test (is_young now b.at) (λ g. rw g refl) (λ g. rw g refl))))

-- the words that are kept under a test pass it
words-found : (P : Heard → Type 0) (q : Accepted → Bool) (now : ℕ) (past : List Accepted) (w : Words) → ((a : Accepted) → q a ≡ true → P a.told) → words_of now q past ≡ Some w → P w.told
words-found P q now past w i e =
    by_option (find q past) (λ f. let g = rw f at e in absurd (cc (g)))
    (λ a f. by_test (is_young now a.at)
    (λ g. let k = rw (f, g) at e in let same : a.told ≡ w.told = cc (k) in subst P same (i a (find-passes q past a f)))
    (λ g. let k = rw (f, g) at e in absurd (cc (k))))

-- words of a member are of it
pub words-of-member : (m : Mi) (now : ℕ) (past : List Accepted) (w : Words) → words_of now (is_of m) past ≡ Some w → w.told.mi ≡ m
words-of-member m now past w e = words-found (λ x. x.mi ≡ m) (is_of m) now past w (λ a f. same_mi-equal a.told.mi m f) e

pub vouched-of-member : (m : Mi) (now : ℕ) (past : List Accepted) (w : Words) → words_of now (is_vouched_of m) past ≡ Some w → w.told.mi ≡ m
vouched-of-member m now past w e = words-found (λ x. x.mi ≡ m) (is_vouched_of m) now past w (λ a f. same_mi-equal a.told.mi m (and_parts (is_of m a) a.vouched f).0) e

-- another member's words after an accepted announcement: displaced, if that is vouched
displaced-other : (m : Mi) (a : Accepted) (w : Words) → w.told.mi ≡ m → same_mi a.told.mi m ≡ false → displaced_by a w ≡ cond a.vouched (displaced_under a.told.sci w) w
displaced-other m a w e f =
    let apart : same_mi a.told.mi w.told.mi ≡ false = rw e f in
    by_test a.vouched (λ g. rw (g, apart) refl) (λ g. rw g refl)

peer-other : (m : Mi) (a : Accepted) (w : Words) (v : Option Words) → w.told.mi ≡ m → ((u : Words) → v ≡ Some u → u.told.mi ≡ m) → same_mi a.told.mi m ≡ false
    → Some (record { last = displaced_by a w; vouched = option_map (displaced_by a) v }) ≡ Some (cond a.vouched (displaced_peer a.told (record { last = w; vouched = v })) (record { last = w; vouched = v }))
peer-other m a w v e i f =
    let apart : same_mi w.told.mi a.told.mi ≡ false = same_mi-sym w.told.mi a.told.mi ∙ ap (λ n. same_mi a.told.mi n) e ∙ f in
    rw (displaced-other m a w e f)
    (by_option v
    (λ g. rw g (by_test a.vouched (λ k. rw (k, apart) refl) (λ k. rw k refl)))
    (λ u g. rw (g, displaced-other m a u (i u g) f) (by_test a.vouched (λ k. rw (k, apart) refl) (λ k. rw k refl))))

pub remembered-other : (own : Own) (x : Heard) (h : List Peering) → reason_after own h x ≡ None → (m : Mi) → same_mi x.mi m ≡ false → remembered own (heard x ∷ h) m ≡ option_map (λ p. cond (vouches h x) (displaced_peer x p) p) (remembered own h m)
remembered-other own x h e m f =
    let a = entered h x in
    let past = accepted own h in
    let now = clock h in
    rw (remembered-is own (heard x ∷ h) m, remembered-is own h m, accepted-new own x h e, words-over (is_of m) now a past f, words-over (is_vouched_of m) now a past (and_left (is_of m a) a.vouched f))
    (by_option (words_of now (is_of m) past) (λ g. rw g refl)
    (λ w g. rw g (peer-other m a w (words_of now (is_vouched_of m) past) (words-of-member m now past w g) (λ u k. vouched-of-member m now past u k) f)))

-- where no young words of a member are kept, no vouched ones are
young-if-vouched : (now t : ℕ) (m : Mi) (past : List Accepted) → IsUpTo t past → words_of now (is_of m) past ≡ None → words_of now (is_vouched_of m) past ≡ None
young-if-vouched now t m past h e =
    let none : list_any (is_young_of now m) past ≡ false = sym (kept-some now m past t h) ∙ ap is_some e in
    by_option (find (is_vouched_of m) past) (λ f. rw f refl)
    (λ a f. by_test (is_young now a.at)
    (λ g. let parts = and_parts (is_of m a) a.vouched (find-passes (is_vouched_of m) past a f) in
    let some = find-any (is_young_of now m) (is_vouched_of m) past a f (and_from (is_of m a) (is_young now a.at) parts.0 g) in absurd (cc (none, some)))
    (λ g. rw (f, g) refl))

-- what is kept of the member that was heard
row-here : (v : Bool) (x : Heard) (o w : Option Words) → (o ≡ None → w ≡ None)
    → record { last = fresh x; vouched = cond v (Some (fresh x)) w } ≡ row_heard v x (option_map (λ last. record { last = last; vouched = w }) o)
row-here v x None w i = rw (i refl) refl
row-here v x (Some l) w i = refl

displaced-none : (a : Accepted) (o : Option Words) → a.vouched ≡ false → option_map (displaced_by a) o ≡ o
displaced-none a None e = refl
displaced-none a (Some w) e = rw e refl

pub remembered-here : (own : Own) (x : Heard) (h : List Peering) → reason_after own h x ≡ None → remembered own (heard x ∷ h) x.mi ≡ Some (row_heard (vouches h x) x (remembered own h x.mi))
remembered-here own x h e =
    let a = entered h x in
    let past = accepted own h in
    let now = clock h in
    let last = words_of now (is_of x.mi) past in
    let vouched = words_of now (is_vouched_of x.mi) past in
    let here : is_of x.mi a ≡ true = same_mi-itself x.mi in
    let young : last ≡ None → vouched ≡ None = young-if-vouched now now x.mi past (accepted-upto own h) in
    rw (remembered-is own (heard x ∷ h) x.mi, remembered-is own h x.mi, accepted-new own x h e, words-here (is_of x.mi) a past here)
    (ap Some
    (by_test (vouches h x)
    (λ f. rw (words-here (is_vouched_of x.mi) a past (and_from (is_of x.mi a) (vouches h x) here f), f) (row-here true x last vouched young))
    (λ f. rw (words-over (is_vouched_of x.mi) now a past (and_right (is_of x.mi a) (vouches h x) f), displaced-none a vouched f, f) (row-here false x last vouched young))))
