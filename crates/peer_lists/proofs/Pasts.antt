-- The accepted announcements of a history: their moments do not fall, and the young numbers of a member do.
use Rattle.std.proofs.Common.{◌≡◌, ℕ, ◌+◌, ◌-◌, ◌≤◌, Bool, true, false, cond, List, [], ◌∷◌, Option, Some, None, is_some, refl, ap, sym, ◌∙◌, subst, arith, nat_le}
use Rattle.std.proofs.lemmas.Bool.{and_parts, and_from, and_left, and_right, ltb-true, ltb-false, lt-ltb, le-ltb}
use Rattle.std.specs.List.{list_any, filter, find}
use Rattle.std.specs.Option.{option_map, option_and_then, option_or}
use Rattle.lan_base.specs.declared.address.Mi.{Mi}
use Rattle.peer_lists.specs.declared.heard.Heard.{Heard}
use Rattle.peer_lists.specs.declared.heard.PeerRefusal.{PeerRefusal}
use Rattle.peer_lists.specs.declared.heard.PeerRefusal.TheVariants.{OldNumber}
use Rattle.peer_lists.specs.declared.remembered.Words.{Words}
use Rattle.lan_base.specs.Timers.{life_time}
use Rattle.lan_base.specs.Identifiers.{same_mi}
use Rattle.peer_lists.specs.Histories.{Peering, ticked, sent, heard, clock, is_young}
use Rattle.peer_lists.specs.Acceptance.{Own, Accepted, refusal, accepted, echo, old_number, peers_full, greatest, first_number, young_numbers, is_young_of, vouches}
use Rattle.lan_base.specs.Falling.{IsAbove, IsFalling}
use Rattle.peer_lists.specs.Peers.{is_of, is_displaced}
use Rattle.peer_lists.specs.Table.{words_of}
use Rattle.peer_lists.proofs.Identifiers.{by_test, same_mi-equal}
use Rattle.peer_lists.proofs.Finds.{find-here, find-on, find-is_some, first-filter, falling-fewer, above-none}

-- a reason or none
pub by_option : {A P : Type 0} (o : Option A) → (o ≡ None → P) → ((a : A) → o ≡ Some a → P) → P
by_option None f g = f refl
by_option (Some a) f g = g a refl

pub accepted-ticked : (own : Own) (h : List Peering) → accepted own (ticked ∷ h) ≡ accepted own h
unfolding accepted
accepted-ticked own h = refl

pub accepted-sent : (own : Own) (n : ℕ) (h : List Peering) → accepted own (sent n ∷ h) ≡ accepted own h
unfolding accepted
accepted-sent own n h = refl

-- the reason to drop an announcement that is heard after a history
abbrev pub reason_after : Own → List Peering → Heard → Option PeerRefusal
reason_after own h x = refusal own (clock h) (accepted own h) x

-- the announcement, accepted after a history
abbrev pub entered : List Peering → Heard → Accepted
entered h x = record { at = clock h; told = x; vouched = vouches h x }

pub accepted-new : (own : Own) (x : Heard) (h : List Peering) → reason_after own h x ≡ None → accepted own (heard x ∷ h) ≡ entered h x ∷ accepted own h
unfolding accepted
accepted-new own x h e = rw (e, accepted) refl

pub accepted-dropped : (own : Own) (x : Heard) (h : List Peering) (r : PeerRefusal) → reason_after own h x ≡ Some r → accepted own (heard x ∷ h) ≡ accepted own h
unfolding accepted
accepted-dropped own x h r e = rw (e, accepted) refl

-- the moments of announcements, newest first, do not rise, and none is after this one
abbrev pub IsUpTo : ℕ → List Accepted → Type 0
IsUpTo t [] = Unit {0}
IsUpTo t (a ∷ past) = (a.at ≤ t) × IsUpTo a.at past

pub upto-later : (t u : ℕ) (past : List Accepted) → t ≤ u → IsUpTo t past → IsUpTo u past
upto-later t u [] l h = tt
upto-later t u (a ∷ past) l h = let k = h.0 in (omega arith, h.1)

pub accepted-upto : (own : Own) (h : List Peering) → IsUpTo (clock h) (accepted own h)
unfolding accepted
accepted-upto own [] = tt
accepted-upto own (ticked ∷ h) = upto-later (clock h) (clock h + 1) (accepted own h) (omega arith) (accepted-upto own h)
accepted-upto own (sent n ∷ h) = accepted-upto own h
accepted-upto own (heard x ∷ h) =
    by_option (reason_after own h x) (λ e. rw (accepted-new own x h e) (omega arith, accepted-upto own h)) (λ r e. rw (accepted-dropped own x h r e) (accepted-upto own h))

pub young-now : (now : ℕ) → is_young now now ≡ true
young-now now = lt-ltb now (now + life_time) (omega arith)

-- what is older than old is old
old-before : (now t u : ℕ) → is_young now t ≡ false → u ≤ t → is_young now u ≡ false
old-before now t u h l = let k = ltb-false now (t + life_time) h in le-ltb now (u + life_time) (omega arith)

none-young : (now : ℕ) (m : Mi) (t : ℕ) (past : List Accepted) → IsUpTo t past → is_young now t ≡ false → find (is_young_of now m) past ≡ None
none-young now m t [] h e = refl
none-young now m t (a ∷ past) h e =
    let f : is_young now a.at ≡ false = old-before now t a.at e h.0 in
    find-on (is_young_of now m) a past (and_right (same_mi a.told.mi m) (is_young now a.at) f) ∙ none-young now m a.at past h.1 f

-- an announcement, if it is young
abbrev pub if_young : ℕ → Accepted → Option Accepted
if_young now a = cond (is_young now a.at) (Some a) None

-- the last young announcement of a member is its last one, if that is young
pub find-young : (now : ℕ) (m : Mi) (t : ℕ) (past : List Accepted) → IsUpTo t past → find (is_young_of now m) past ≡ option_and_then (if_young now) (find (is_of m) past)
find-young now m t [] h = refl
find-young now m t (a ∷ past) h =
    by_test (same_mi a.told.mi m)
    (λ e. by_test (is_young now a.at)
    (λ f. rw (find-here (is_young_of now m) a past (and_from (same_mi a.told.mi m) (is_young now a.at) e f), find-here (is_of m) a past e, f) refl)
    (λ f. rw (find-on (is_young_of now m) a past (and_right (same_mi a.told.mi m) (is_young now a.at) f), find-here (is_of m) a past e, f) (none-young now m a.at past h.1 f)))
    (λ e. rw (find-on (is_young_of now m) a past (and_left (same_mi a.told.mi m) (is_young now a.at) e), find-on (is_of m) a past e) (find-young now m a.at past h.1))

-- what is kept of an announcement, if it is young
abbrev pub words_if_young : ℕ → (Accepted → Bool) → List Accepted → Accepted → Option Words
words_if_young now test past a =
    cond (is_young now a.at) (Some (record { told = a.told; left = (a.at + life_time) - now; displaced = is_displaced test past a })) None

words-number : (now : ℕ) (test : Accepted → Bool) (past : List Accepted) (o : Option Accepted) → option_map (λ w. w.told.mn) (option_and_then (words_if_young now test past) o) ≡ option_map (λ a. a.told.mn) (option_and_then (if_young now) o)
words-number now test past None = refl
words-number now test past (Some a) = by_test (is_young now a.at) (λ e. rw e refl) (λ e. rw e refl)

words-some : (now : ℕ) (test : Accepted → Bool) (past : List Accepted) (o : Option Accepted) → is_some (option_and_then (words_if_young now test past) o) ≡ is_some (option_and_then (if_young now) o)
words-some now test past None = refl
words-some now test past (Some a) = by_test (is_young now a.at) (λ e. rw e refl) (λ e. rw e refl)

-- the number that is kept of a member is the first of its young ones
pub kept-first : (now : ℕ) (m : Mi) (past : List Accepted) (t : ℕ) → IsUpTo t past → option_map (λ w. w.told.mn) (words_of now (is_of m) past) ≡ first_number (young_numbers now m past)
kept-first now m past t h =
    words-number now (is_of m) past (find (is_of m) past) ∙ ap (option_map (λ a. a.told.mn)) (sym (find-young now m t past h))
    ∙ sym (first-filter (λ a. a.told.mn) (is_young_of now m) past)

-- words are kept of a member exactly where it has a young announcement
pub kept-some : (now : ℕ) (m : Mi) (past : List Accepted) (t : ℕ) → IsUpTo t past → is_some (words_of now (is_of m) past) ≡ list_any (is_young_of now m) past
kept-some now m past t h =
    words-some now (is_of m) past (find (is_of m) past) ∙ ap is_some (sym (find-young now m t past h)) ∙ find-is_some (is_young_of now m) past

pub or-none : {A : Type 0} (o p : Option A) → option_or o p ≡ None → (o ≡ None) × (p ≡ None)
or-none None p e = (refl, e)
or-none (Some a) p e = absurd (cc)

map-none : {A B : Type 0} (f : A → B) (o : Option A) → option_map f o ≡ None → o ≡ None
map-none f None e = refl
map-none f (Some a) e = absurd (cc)

-- an accepted announcement has a greater number than all young ones of its member
pub reason-none : (own : Own) (now : ℕ) (past : List Accepted) (x : Heard) → refusal own now past x ≡ None → old_number now past x ≡ None
unfolding refusal
reason-none own now past x e = (or-none (old_number now past x) (peers_full now past x) (or-none (echo own x) (option_or (old_number now past x) (peers_full now past x)) e).1).0

pub new-above : (own : Own) (now : ℕ) (past : List Accepted) (x : Heard) → refusal own now past x ≡ None → IsAbove x.mn (young_numbers now x.mi past)
new-above own now past x e =
    above-none x.mn (young_numbers now x.mi past) (map-none OldNumber (greatest (filter (nat_le x.mn) (young_numbers now x.mi past))) (reason-none own now past x e))

pub younger : (now : ℕ) (m : Mi) (a : Accepted) → is_young_of (now + 1) m a ≡ true → is_young_of now m a ≡ true
younger now m a e =
    let p = and_parts (same_mi a.told.mi m) (is_young (now + 1) a.at) e in
    let l = ltb-true (now + 1) (a.at + life_time) p.1 in
    and_from (same_mi a.told.mi m) (is_young now a.at) p.0 (lt-ltb now (a.at + life_time) (omega arith))

pub accepted-falling : (own : Own) (h : List Peering) (m : Mi) → IsFalling (young_numbers (clock h) m (accepted own h))
unfolding accepted
accepted-falling own [] m = tt
accepted-falling own (ticked ∷ h) m = falling-fewer (λ a. a.told.mn) (is_young_of (clock h) m) (is_young_of (clock h + 1) m) (younger (clock h) m) (accepted own h) (accepted-falling own h m)
accepted-falling own (sent n ∷ h) m = accepted-falling own h m
accepted-falling own (heard x ∷ h) m =
    by_option (reason_after own h x)
    (λ e. rw (accepted-new own x h e)
    (by_test (is_young_of (clock h) m (entered h x))
    (λ f. let same = same_mi-equal x.mi m (and_parts (same_mi x.mi m) (is_young (clock h) (clock h)) f).0 in
    let above : IsAbove x.mn (young_numbers (clock h) m (accepted own h)) = subst (λ (n : Mi). IsAbove x.mn (young_numbers (clock h) n (accepted own h))) same (new-above own (clock h) (accepted own h) x e) in
    rw f (above, accepted-falling own h m))
    (λ f. rw f (accepted-falling own h m))))
    (λ r e. rw (accepted-dropped own x h r e) (accepted-falling own h m))
