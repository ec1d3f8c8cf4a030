-- Ticks are rounds.
use Rattle.std.proofs.Common.{◌≡◌, ◌≢◌, ℕ, zero, suc, ◌+◌, ◌≤◌, ◌<◌, true, false, List, [], ◌∷◌}
use Rattle.std.proofs.Common.{Option, Some, None, is_some, length, refl, ap, sym, ◌∙◌, subst, arith}
use Rattle.std.proofs.lemmas.Bool.{cases_lt, lt-ltb, le-ltb, eqb-true, eqb-false, ne_eqb}
use Rattle.std.specs.Prelude.{◌==◌, option_and_then}
use Rattle.sak_exchange.proofs.Public.{by_test}
use Rattle.lan_core.specs.declared.event.Event.{Event}
use Rattle.lan_core.specs.declared.event.Event.TheVariants as events
use Rattle.lan_core.specs.Run.{Run, Happening, stations}
use Rattle.group_safety.specs.Moments.{upto}
use Rattle.std.specs.Prelude.{Bool, not, if◌then◌else◌}
use Rattle.std.specs.List.{filter}
use Rattle.group_safety.specs.Rounds.{Pace, Since, places, is_among, counted, without}
use Rattle.group_safety.specs.Rounds.{between_rounds, ticking, ticking_aside, turn, pace}
use Rattle.group_safety.specs.Rounds.{rounds_in, rounds}
use Rattle.group_safety.proofs.rollover.Waits.{bit, has, waits_in, waits, tick_of}
use Rattle.group_safety.proofs.rollover.AtMoments.{to-upto}
use Rattle.group_safety.proofs.Members.{by_sum}

has-place : (u n : ℕ) → u < n → has u (places n) ≡ true
has-place u zero l = absurd (omega arith)
has-place u (suc n) l =
    by_test (n == u) (λ e. rw e refl)
    (λ e. let d = eqb-false n u e in
    rw e (has-place u n (by_sum (cases_lt u n) (λ k. k) (λ k. absurd (d (omega arith))))))

has-filter : (u : ℕ) (p : ℕ → Bool) (us : List ℕ) → has u us ≡ true → p u ≡ true
    → has u (filter p us) ≡ true
has-filter u p [] h t = h
has-filter u p (w ∷ us) h t =
    by_test (w == u)
    (λ e. let same = eqb-true w u e in let f : p w ≡ true = ap p same ∙ t in rw (f, e) refl)
    (λ e. let later = has-filter u p us (rw e at h) t in go (p w) later e)
  where
    go : (b : Bool) → has u (filter p us) ≡ true → (w == u) ≡ false
        → has u (if b then w ∷ filter p us else filter p us) ≡ true
    go true later e = rw e later
    go false later e = later

has-counted : (u n : ℕ) (out : List ℕ) → u < n → not (is_among u out) ≡ true
    → has u (counted out n) ≡ true
has-counted u n out l t = has-filter u (λ s. not (is_among s out)) (places n) (has-place u n l) t

has-without_self : (s : ℕ) (us : List ℕ) → has s (without s us) ≡ false
has-without_self s [] = refl
has-without_self s (u ∷ us) = by_test (u == s) (λ e. rw e (has-without_self s us))
    (λ e. rw (e, e) (has-without_self s us))

has-without_other : (s u : ℕ) (us : List ℕ) → s ≢ u → has u (without s us) ≡ has u us
has-without_other s u [] d = refl
has-without_other s u (w ∷ us) d =
    by_test (w == s)
    (λ e. let f : (w == u) ≡ false = ne_eqb w u (λ g. d (sym (eqb-true w s e) ∙ g)) in
    rw (e, f) (has-without_other s u us d))
    (λ e. by_test (w == u) (λ f. rw (e, f) refl) (λ f. rw (e, f) (has-without_other s u us d)))

-- One event: a station ticks and still waits as the rounds grow.
abbrev Counts : ℕ → ℕ → ℕ → List ℕ → Option Pace → Type 0
Counts u t r w None = Unit {0}
Counts u t r w (Some q) = t + bit (has u q.waiting) + r ≡ bit (has u w) + q.rounds

between-counts : (u r : ℕ) (w : List ℕ) → Counts u 0 r w (between_rounds r w)
between-counts u r [] = omega arith
between-counts u r (w ∷ ws) = tt

ticking-counts : (u : ℕ) (all : List ℕ) (s next r : ℕ) (w : List ℕ) → has u all ≡ true
    → Counts u (tick_of u (events.Tick s next)) r w (ticking all s r w)
ticking-counts u all s next r [] l =
    by_test (s == u)
    (λ e. let same = eqb-true s u e in let f : has u (without s all) ≡ false =
    rw same (has-without_self u all) in rw (e, f) (omega arith))
    (λ e. let f : has u (without s all) ≡ true = has-without_other s u all (eqb-false s u e) ∙ l in
    rw (e, f) (omega arith))
ticking-counts u all s next r (w ∷ ws) l =
    by_test (has s (w ∷ ws))
    (λ h. by_test (s == u)
    (λ e. let same = eqb-true s u e in let f =
    subst (λ (x : ℕ). has u (without x (w ∷ ws)) ≡ false) (sym same)
    (has-without_self u (w ∷ ws)) in
    let g = subst (λ (x : ℕ). has x (w ∷ ws) ≡ true) same h in rw (h, e, f, g) (omega arith))
    (λ e. let f : has u (without s (w ∷ ws)) ≡ has u (w ∷ ws) =
    has-without_other s u (w ∷ ws) (eqb-false s u e) in rw (h, e, f) (omega arith)))
    (λ h. rw h tt)

aside-counts : (u : ℕ) (all : List ℕ) (s next : ℕ) (p : Pace) → has u all ≡ true
    → is_among s all ≡ false
    → Counts u (tick_of u (events.Tick s next)) p.rounds p.waiting (ticking_aside s p)
aside-counts u all s next p l out =
    by_test (s == u)
    (λ e. let same = eqb-true s u e in
    let f : has u all ≡ false = subst (λ (x : ℕ). has x all ≡ false) same out in
    absurd (cc (l, f)))
    (λ e. let f : has u (without s p.waiting) ≡ has u p.waiting =
    has-without_other s u p.waiting (eqb-false s u e) in rw (e, f) (omega arith))

turn-counts : (u : ℕ) (all : List ℕ) (x : Event) (p : Pace) → has u all ≡ true
    → Counts u (tick_of u x) p.rounds p.waiting (turn all x p)
turn-counts u all (events.Start name sci priority) p l = between-counts u p.rounds p.waiting
turn-counts u all (events.Tick s next) p l =
    by_test (is_among s all) (λ h. rw h (ticking-counts u all s next p.rounds p.waiting l))
    (λ h. rw h (aside-counts u all s next p l h))
turn-counts u all (events.Deliver frame s) p l = between-counts u p.rounds p.waiting
turn-counts u all (events.Restart s) p l = between-counts u p.rounds p.waiting
turn-counts u all (events.Claim s user pn) p l = omega arith
turn-counts u all events.Emit p l = between-counts u p.rounds p.waiting
turn-counts u all (events.Inject s octets) p l = between-counts u p.rounds p.waiting

-- a run that is paced from a moment on
abbrev pub IsPaced : Since → Run → Type 0
IsPaced from r = is_some (pace from r) ≡ true

turned-counts : (u : ℕ) (all : List ℕ) (x : Event) (o : Option Pace) → has u all ≡ true
    → is_some (option_and_then (turn all x) o) ≡ true
    → tick_of u x + waits_in u (option_and_then (turn all x) o) + rounds_in o
    ≡ waits_in u o + rounds_in (option_and_then (turn all x) o)
turned-counts u all x None l e = absurd (cc (e))
turned-counts u all x (Some p) l e = go (turn all x p) (turn-counts u all x p l) e
  where
    go : (q : Option Pace) → Counts u (tick_of u x) p.rounds p.waiting q → is_some q ≡ true
        → tick_of u x + waits_in u q + p.rounds ≡ bit (has u p.waiting) + rounds_in q
    go None c k = absurd (cc (k))
    go (Some q) c k = c

pace-on : (from : Since) (x : Happening) (r : Run) → from.moment ≤ length r
    → pace from (x ∷ r) ≡ option_and_then (turn (counted from.out (length (stations r))) x.event)
    (pace from r)
unfolding pace
pace-on from x r l = rw (le-ltb (length r) from.moment l) refl

pace-early : (from : Since) (x : Happening) (r : Run) → length r < from.moment
    → pace from (x ∷ r) ≡ Some (record { rounds = 0; waiting = [] })
unfolding pace
pace-early from x r l = rw (lt-ltb (length r) from.moment l) refl

pace-before : (from : Since) (r : Run) → length r ≤ from.moment
    → pace from r ≡ Some (record { rounds = 0; waiting = [] })
unfolding pace
pace-before from [] l = refl
pace-before from (x ∷ r) l = rw (lt-ltb (length r) from.moment (omega arith)) refl

-- one event of a paced run
pub step-counts : (from : Since) (u : ℕ) (x : Happening) (r : Run) → from.moment ≤ length r
    → u < length (stations r) → not (is_among u from.out) ≡ true
    → IsPaced from (x ∷ r)
    → tick_of u x.event + waits from u (x ∷ r) + rounds from r ≡ waits from u r + rounds from
    (x ∷ r)
unfolding waits rounds
step-counts from u x r l k taking paced =
    let e = pace-on from x r l in
    let p = subst (λ (o : Option Pace). is_some o ≡ true) e paced in
    let c = turned-counts u (counted from.out (length (stations r))) x.event (pace from r)
    (has-counted u (length (stations r)) from.out k taking) p in
    rw e c

chained-some : {A B : Type 0} (f : A → Option B) (o : Option A)
    → is_some (option_and_then f o) ≡ true → is_some o ≡ true
chained-some f None e = e
chained-some f (Some a) e = refl

pub paced-tail : (from : Since) (x : Happening) (r : Run) → IsPaced from (x ∷ r) → IsPaced from r
paced-tail from x r paced =
    by_sum (cases_lt (length r) from.moment)
    (λ l. let e = pace-before from r (omega arith) in rw e refl)
    (λ l. chained-some (turn (counted from.out (length (stations r))) x.event) (pace from r)
    (subst (λ (o : Option Pace). is_some o ≡ true) (pace-on from x r l) paced))

pub paced-upto : (from : Since) (n : ℕ) (r : Run) → IsPaced from r → IsPaced from (upto n r)
paced-upto from n r paced = to-upto (IsPaced from) (paced-tail from) n r paced

-- rounds never fall
between-rises : (r : ℕ) (w : List ℕ) → is_some (between_rounds r w) ≡ true
    → r ≤ rounds_in (between_rounds r w)
between-rises r [] e = omega arith
between-rises r (w ∷ ws) e = absurd (cc (e))

ticking-rises : (all : List ℕ) (s r : ℕ) (w : List ℕ) → is_some (ticking all s r w) ≡ true
    → r ≤ rounds_in (ticking all s r w)
ticking-rises all s r [] e = omega arith
ticking-rises all s r (w ∷ ws) e =
    by_test (has s (w ∷ ws)) (λ h. rw h (omega arith)) (λ h. let g = rw h at e in absurd (cc (g)))

turn-rises : (all : List ℕ) (x : Event) (o : Option Pace)
    → is_some (option_and_then (turn all x) o) ≡ true
    → rounds_in o ≤ rounds_in (option_and_then (turn all x) o)
turn-rises all x None e = omega arith
turn-rises all (events.Start name sci priority) (Some p) e = between-rises p.rounds p.waiting e
turn-rises all (events.Tick s next) (Some p) e =
    by_test (is_among s all)
    (λ h. let g = rw h at e in rw h (ticking-rises all s p.rounds p.waiting g))
    (λ h. rw h (omega arith))
turn-rises all (events.Deliver frame s) (Some p) e = between-rises p.rounds p.waiting e
turn-rises all (events.Restart s) (Some p) e = between-rises p.rounds p.waiting e
turn-rises all (events.Claim s user pn) (Some p) e = omega arith
turn-rises all events.Emit (Some p) e = between-rises p.rounds p.waiting e
turn-rises all (events.Inject s octets) (Some p) e = between-rises p.rounds p.waiting e

pub step-rises : (from : Since) (x : Happening) (r : Run) → IsPaced from (x ∷ r)
    → rounds from r ≤ rounds from (x ∷ r)
unfolding rounds
step-rises from x r paced =
    by_sum (cases_lt (length r) from.moment)
    (λ l. let z = pace-before from r (omega arith) in rw z (omega arith))
    (λ l. let e = pace-on from x r l in
    rw e (turn-rises (counted from.out (length (stations r))) x.event (pace from r)
    (subst (λ (o : Option Pace). is_some o ≡ true) e paced)))

-- after an event of its own that is no claim, and after each event outside rounds, a station waits
-- for nothing
pub data Settles (u : ℕ) (e : Event) : Type 0 where
  ticks : (next : ℕ) → e ≡ events.Tick u next → Settles u e
  delivers : (frame s : ℕ) → e ≡ events.Deliver frame s → Settles u e
  injects : (s : ℕ) (octets : List ℕ) → e ≡ events.Inject s octets → Settles u e

between-waits : (u r : ℕ) (w : List ℕ) → waits_in u (between_rounds r w) ≡ 0
between-waits u r [] = refl
between-waits u r (w ∷ ws) = refl

ticking-waits : (u : ℕ) (all : List ℕ) (r : ℕ) (w : List ℕ) → waits_in u (ticking all u r w) ≡ 0
ticking-waits u all r [] = ap bit (has-without_self u all)
ticking-waits u all r (w ∷ ws) =
    by_test (has u (w ∷ ws)) (λ h. let f = has-without_self u (w ∷ ws) in rw (h, f) refl)
    (λ h. rw h refl)

turned-waits : (u : ℕ) (all : List ℕ) (x : Event) (o : Option Pace) → Settles u x
    → waits_in u (option_and_then (turn all x) o) ≡ 0
turned-waits u all x None s = refl
turned-waits u all x (Some p) (ticks next e) =
    rw e (by_test (is_among u all) (λ h. rw h (ticking-waits u all p.rounds p.waiting))
    (λ h. rw h (ap bit (has-without_self u p.waiting))))
turned-waits u all x (Some p) (delivers frame s e) = rw e (between-waits u p.rounds p.waiting)
turned-waits u all x (Some p) (injects s octets e) = rw e (between-waits u p.rounds p.waiting)

pub settled-waits : (from : Since) (u : ℕ) (x : Happening) (r : Run) → Settles u x.event
    → waits from u (x ∷ r) ≡ 0
unfolding waits
settled-waits from u x r s =
    by_sum (cases_lt (length r) from.moment)
    (λ l. let e = pace-early from x r l in rw e refl)
    (λ l. let e = pace-on from x r l in
    rw e (turned-waits u (counted from.out (length (stations r))) x.event (pace from r) s))

-- a delivery is paced only where no station waits
pub idle-before : (from : Since) (u frame t : ℕ) (x : Happening) (r : Run) → x.event ≡ events.Deliver frame t
    → IsPaced from (x ∷ r) → waits from u r ≡ 0
unfolding waits
idle-before from u frame t x r e paced =
    by_sum (cases_lt (length r) from.moment)
    (λ l. let z = pace-before from r (omega arith) in rw z refl)
    (λ l. let p = subst (λ (o : Option Pace). is_some o ≡ true)
    (pace-on from x r l ∙ ap (λ v. option_and_then (turn (counted from.out (length (stations r))) v)
    (pace from r)) e) paced in go (pace from r) p)
  where
    none : (p : ℕ) (w : List ℕ) → is_some (between_rounds p w) ≡ true → bit (has u w) ≡ 0
    none p [] e = refl
    none p (w ∷ ws) e = absurd (cc (e))

    go : (o : Option Pace) → is_some
        (option_and_then (turn (counted from.out (length (stations r))) (events.Deliver frame t)) o) ≡ true
        → waits_in u o ≡ 0
    go None e = refl
    go (Some p) e = none p.rounds p.waiting e
