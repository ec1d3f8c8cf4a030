-- The numbers of the table are those that the history sent less than the life time ago.
use Rattle.std.proofs.Common.{◌≡◌, ◌≢◌, ◌⊎◌, inl, inr, ⊎_elim, ℕ, suc, zero, ◌+◌, ◌-◌, ◌%◌, ◌<◌, ◌≤◌, Bool, true, false, List, [], ◌∷◌, Option, Some, None, map, length, refl, ap, sym, ◌∙◌, subst, arith, nat_le, nat_lt, nat_eq, get_or, set}
use Rattle.std.proofs.lemmas.Bool.{and_right, ltb-true, ltb-false, lt-ltb, le-ltb, leb-true, leb-false, eqb-true, eq-eqb, ne_eqb, cases_eq}
use Rattle.std.proofs.lemmas.List.{get_or-set_same, get_or-set_other}
use Rattle.std.specs.List.{list_any, find}
use Rattle.peer_lists.specs.declared.sent_numbers.SentNumbers.{SentNumbers}
use Rattle.lan_base.specs.Timers.{life_time}
use Rattle.peer_lists.specs.Histories.{Peering, ticked, sent, heard, clock, is_young, Sent, announced, is_number, is_recent, recent, last_sent, may_send, IsCounted}
use Rattle.peer_lists.specs.Table.{left_of, ticks_left}
use Rattle.peer_lists.specs.inside.Countdowns.{is_number_recent}
use Rattle.peer_lists.proofs.Identifiers.{by_test}

-- A number that was sent is not above the last, and was sent as much earlier as it is less, or more.
sent-early : (h : List Peering) → IsCounted h → (k : ℕ) (s : Sent) → find (is_number k) (announced h) ≡ Some s → (k ≤ last_sent h) × (s.at + last_sent h ≤ clock h + k) × (may_send h ≡ true → s.at + last_sent h + 1 ≤ clock h + k)
sent-early [] c k s e = absurd (cc)
sent-early (ticked ∷ h) c k s e = let r = sent-early h c k s e in let a = r.0 in let b = r.1 in (a, omega arith, λ f. omega arith)
sent-early (heard x ∷ h) c k s e = sent-early h c k s e
sent-early (sent n ∷ h) c k s e =
    by_test (nat_eq n k)
    (λ f. let g = rw f at e in let same : clock h ≡ s.at = ap (λ o. elim o [ None ↦ clock h | Some t ↦ t.at ]) g in let number = eqb-true n k f in
    (omega arith, omega arith, λ m. absurd (cc (m))))
    (λ f. let g = rw f at e in let r = sent-early h c.2 k s g in let a = r.0 in let b = r.2 c.1 in let number = c.0 in
    (omega arith, omega arith, λ m. absurd (cc (m))))

-- the last number is at most the clock and one, and at most the clock where one may be sent
pub sent-at-most : (h : List Peering) → IsCounted h → (last_sent h ≤ clock h + 1) × (may_send h ≡ true → last_sent h ≤ clock h)
sent-at-most [] c = (omega arith, λ e. omega arith)
sent-at-most (ticked ∷ h) c = let r = sent-at-most h c in let a = r.0 in (omega arith, λ e. omega arith)
sent-at-most (heard x ∷ h) c = sent-at-most h c
sent-at-most (sent n ∷ h) c = let r = sent-at-most h c.2 in let a = r.1 c.1 in let b = c.0 in (omega arith, λ e. absurd (cc (e)))

-- whether a number that was found is recent
abbrev is_young_sent : ℕ → Option Sent → Bool
is_young_sent now None = false
is_young_sent now (Some s) = is_young now s.at

old-sent : (now : ℕ) (k : ℕ) (h : List Peering) → is_young now (clock h) ≡ false → list_any (is_recent now k) (announced h) ≡ false
old-sent now k [] e = refl
old-sent now k (ticked ∷ h) e = let l = ltb-false now (clock h + 1 + life_time) e in old-sent now k h (le-ltb now (clock h + life_time) (omega arith))
old-sent now k (heard x ∷ h) e = old-sent now k h e
old-sent now k (sent n ∷ h) e = rw (and_right (nat_eq n k) (is_young now (clock h)) e) (old-sent now k h e)

recent-found : (now : ℕ) (k : ℕ) (h : List Peering) → list_any (is_recent now k) (announced h) ≡ is_young_sent now (find (is_number k) (announced h))
recent-found now k [] = refl
recent-found now k (ticked ∷ h) = recent-found now k h
recent-found now k (heard x ∷ h) = recent-found now k h
recent-found now k (sent n ∷ h) =
    by_test (nat_eq n k)
    (λ e. rw e (by_test (is_young now (clock h)) (λ f. rw f refl) (λ f. rw f (old-sent now k h f))))
    (λ e. rw e (recent-found now k h))

left-young : (now : ℕ) (o : Option Sent) → nat_lt 0 (ticks_left now o) ≡ is_young_sent now o
left-young now None = refl
left-young now (Some s) =
    by_test (is_young now s.at)
    (λ e. let l = ltb-true now (s.at + life_time) e in rw e (lt-ltb 0 ((s.at + life_time) - now) (omega arith)))
    (λ e. let l = ltb-false now (s.at + life_time) e in rw e (le-ltb 0 ((s.at + life_time) - now) (omega arith)))

-- what the table's numbers are for a history
pub record NumbersStand (s : SentNumbers) (h : List Peering) : Type 0 where
  pub counted : IsCounted h
  pub last : s.last ≡ last_sent h
  pub left : (n : ℕ) → n ≤ s.last → s.last < n + life_time → get_or s.left (n % life_time) 0 ≡ left_of h n

-- a number that is far below the last, or above it, is not recent
far-old : (h : List Peering) (n : ℕ) → IsCounted h → (last_sent h < n) ⊎ (n + life_time ≤ last_sent h) → (o : Option Sent) → find (is_number n) (announced h) ≡ o → is_young_sent (clock h) o ≡ false
far-old h n c far None e = refl
far-old h n c far (Some s) e = let r = sent-early h c n s e in let a = r.0 in let b = r.1 in le-ltb (clock h) (s.at + life_time) (omega arith)

far-recent : (h : List Peering) (n : ℕ) → IsCounted h → (last_sent h < n) ⊎ (n + life_time ≤ last_sent h) → recent h n ≡ false
far-recent h n c far = recent-found (clock h) n h ∙ far-old h n c far (find (is_number n) (announced h)) refl

pub recent-is : (s : SentNumbers) (h : List Peering) → NumbersStand s h → (n : ℕ) → is_number_recent s n ≡ recent h n
recent-is s h k n =
    let last = k.last in
    by_test (nat_le n s.last)
    (λ e. let low = leb-true n s.last e in
    by_test (nat_lt (s.last - n) life_time)
    (λ f. let near = ltb-true (s.last - n) life_time f in
    rw (e, f, k.left n low (omega arith), left-young (clock h) (find (is_number n) (announced h))) (sym (recent-found (clock h) n h)))
    (λ f. let far = ltb-false (s.last - n) life_time f in rw (e, f) (sym (far-recent h n k.counted (inr (omega arith))))))
    (λ e. let high = leb-false n s.last e in rw e (sym (far-recent h n k.counted (inl (omega arith)))))

-- a tick

left-tick : (now : ℕ) (o : Option Sent) → ticks_left (now + 1) o ≡ ticks_left now o - 1
left-tick now None = refl
left-tick now (Some s) = omega arith

get-less : (ns : List ℕ) (i : ℕ) → get_or (map (λ n. n - 1) ns) i 0 ≡ get_or ns i 0 - 1
get-less [] i = refl
get-less (n ∷ ns) zero = refl
get-less (n ∷ ns) (suc i) = get-less ns i

pub left-ticked : (ns : List ℕ) (h : List Peering) (i n : ℕ) → get_or ns i 0 ≡ left_of h n → get_or (map (λ n. n - 1) ns) i 0 ≡ left_of (ticked ∷ h) n
left-ticked ns h i n e = get-less ns i ∙ ap (λ k. k - 1) e ∙ sym (left-tick (clock h) (find (is_number n) (announced h)))

-- a number that is sent

left-here : (h : List Peering) (n : ℕ) → left_of (sent n ∷ h) n ≡ life_time
left-here h n = rw (eq-eqb n n refl) (omega arith)

left-other : (h : List Peering) (n m : ℕ) → (n ≡ m → ⊥) → left_of (sent n ∷ h) m ≡ left_of h m
left-other h n m d = rw (ne_eqb n m d) refl

-- numbers that are near each other have different rests
rests-differ : (n m : ℕ) → m < n → n < m + life_time → m % life_time ≢ n % life_time
rests-differ n m l k e = omega arith

pub left-sent : (ns : List ℕ) (h : List Peering) (n m : ℕ) → length ns ≡ life_time → m ≤ n → n < m + life_time → (m < n → get_or ns (m % life_time) 0 ≡ left_of h m) → get_or (set ns (n % life_time) life_time) (m % life_time) 0 ≡ left_of (sent n ∷ h) m
left-sent ns h n m long low near old =
    ⊎_elim
    (λ (e : m ≡ n).
    let near_itself : get_or (set ns (n % life_time) life_time) (n % life_time) 0 ≡ left_of (sent n ∷ h) n = get_or-set_same ns (n % life_time) life_time 0 (omega arith) ∙ sym (left-here h n) in
    subst (λ (k : ℕ). get_or (set ns (n % life_time) life_time) (k % life_time) 0 ≡ left_of (sent n ∷ h) k) (sym e) near_itself)
    (λ (d : m ≡ n → ⊥).
    let less : m < n = omega arith in
    get_or-set_other ns (n % life_time) (m % life_time) life_time 0 (rests-differ n m less near) ∙ old less ∙ sym (left-other h n m (λ e. d (sym e))))
    (cases_eq m n)
