-- An unstopped event needs no excuse, and one that leaves no number out leaves no more unused.
use Rattle.std.proofs.Common.{◌≡◌, ◌∙◌, ◌≤◌, ◌+◌, ◌-◌, ◌⊎◌, ℕ, zero, suc, Bool, true, false, cond}
use Rattle.std.proofs.Common.{List, [], ◌∷◌, ◌++◌, length}
use Rattle.std.proofs.Common.{Option, Some, None, inl, inr, refl, sym, ap, subst, arith, filter}
use Rattle.std.proofs.lemmas.Bool.{eqb-true, eqb-false, lt-ltb, ne_eqb}
use Rattle.std.specs.Prelude.{◌==◌, ◌&&◌, ◌||◌, not, max}
use Rattle.std.specs.List.{list_any, range_with_len}
use Rattle.lan_base.specs.declared.association_number.AssociationNumber.{AssociationNumber}
use Rattle.lan_base.specs.declared.frame.UserFrame.{UserFrame}
use Rattle.sak_exchange.specs.declared.held_key.Key.{Key}
use Rattle.lan_core.specs.declared.event.Event.{Event}
use Rattle.lan_core.specs.declared.event.Event.TheVariants as events
use Rattle.lan_core.specs.declared.fact.Fact.{Fact}
use Rattle.lan_core.specs.declared.fact.Fact.TheVariants as facts
use Rattle.lan_core.specs.declared.fact.Lack.{Lack}
use Rattle.lan_core.specs.declared.fact.Lack.TheVariants.{NoKey}
use Rattle.lan_core.specs.declared.settings.Settings.{Settings}
use Rattle.lan_core.specs.Run.{Run, Happening, happened}
use Rattle.lan_core.specs.Ledgers.{Claim, claim_of, claims, gather, with_one}
use Rattle.lan_core.specs.Lives.{transmitting_at}
use Rattle.lan_core.specs.Claims.{next, shown_by, after_claim, is_epoch}
use Rattle.lan_core.specs.Claims.{user_at}
use Rattle.lan_core.specs.Expected.{claim_fact, number_fact, lack, last_number}
use Rattle.lan_core.specs.Legal.{IsStep, is_excused_by, none_ahead, is_unused, is_claim_of, unused}
use Rattle.lan_core.specs.Legal.{IsThrifty}
use Rattle.lan_core.specs.Stops.{MayCome, IsDemanded}
use Rattle.lan_core.specs.Unstopped.{LeavesNoneOut, next_under}
use Rattle.lan_core.proofs.FirstFacts.{AreOther, IsClaim, is-claim, excused-other}

-- ---- no excuse is needed

excused_claim : (settings : Settings) (s : ℕ) (r : Run) (pn : ℕ) (given named : Option UserFrame)
    (k : Option Key)
    → transmitting_at settings s r ≡ k → IsDemanded settings s r pn given named k
    → is_excused_by settings r none_ahead (claim_fact settings s r pn k ∷ []) ≡ true
excused_claim settings s r pn given named None is none = rw (none, is) refl
excused_claim settings s r pn given named (Some k) is (inl (none, over)) =
    rw (none, lt-ltb last_number (next settings s k.epoch r) over) refl
excused_claim settings s r pn given named (Some k) is (inr (some, least, most, same)) =
    rw (ne_eqb pn 0 (λ none. omega (arith, some, none))) refl

excused_by : (settings : Settings) (users : List UserFrame) (r : Run) (given : Option UserFrame)
    (event : Event)
    (shown : List Fact) → IsClaim settings r shown event → MayCome settings users r given event
    → is_excused_by settings r none_ahead shown ≡ true
excused_by settings users r given (events.Claim s user pn) shown is may =
    subst (λ shown. is_excused_by settings r none_ahead shown ≡ true) is
    (excused_claim settings s r pn given (user_at users user) (transmitting_at settings s r) refl
    may.2)
excused_by settings users r given (events.Start name sci priority) shown is may =
    excused-other settings r none_ahead shown is
excused_by settings users r given (events.Tick s next) shown is may =
    excused-other settings r none_ahead shown is
excused_by settings users r given (events.Deliver frame s) shown is may =
    excused-other settings r none_ahead shown is
excused_by settings users r given (events.Restart s) shown is may =
    excused-other settings r none_ahead shown is
excused_by settings users r given events.Emit shown is may = excused-other settings r none_ahead shown is
excused_by settings users r given (events.Inject s octets) shown is may =
    excused-other settings r none_ahead shown is

pub needs-no-excuse : (settings : Settings) (users : List UserFrame) (r : Run)
    (given : Option UserFrame) (event : Event)
    (shown : List Fact) → IsStep settings users (happened event shown) r
    → MayCome settings users r given event
    → is_excused_by settings r none_ahead shown ≡ true
needs-no-excuse settings users r given event shown step may =
    excused_by settings users r given event shown (is-claim settings users r event shown step.shows)
    may

-- ---- unused numbers

-- fewer pass a stricter test
fewer : (p q : ℕ → Bool) → ((n : ℕ) → q n ≡ true → p n ≡ true) → (ns : List ℕ)
    → length (filter q ns) ≤ length (filter p ns)
fewer p q stricter [] = omega arith
fewer p q stricter (n ∷ ns) = go (q n) (p n) refl refl (fewer p q stricter ns)
  where
    go : (b c : Bool) → q n ≡ b → p n ≡ c → length (filter q ns) ≤ length (filter p ns)
        → length (cond b (n ∷ filter q ns) (filter q ns)) ≤ length
        (cond c (n ∷ filter p ns) (filter p ns))
    go true true here there less = omega (arith, less)
    go true false here there less = absurd (cc (stricter n here, there))
    go false true here there less = omega (arith, less)
    go false false here there less = less

range-more : (from count : ℕ) → range_with_len from (suc count) ≡ range_with_len from count
    ++ (from + count) ∷ []
range-more from zero = ap (λ n. n ∷ []) (omega arith)
range-more from (suc count) =
    ap (λ ns. from ∷ ns) (range-more (from + 1) count
    ∙ ap (λ n. range_with_len (from + 1) count ++ n ∷ []) (omega arith))

filter_end : (p : ℕ → Bool) (ns : List ℕ) (n : ℕ) → p n ≡ false
    → filter p (ns ++ n ∷ []) ≡ filter p ns
filter_end p [] n not = rw not refl
filter_end p (m ∷ ns) n not = rw (filter_end p ns n not) refl

-- what a ledger of claims gathers only grows
abbrev is_left : ℕ → ℕ → List Claim → ℕ → Bool
is_left s epoch cs n = not (list_any (is_claim_of s epoch n) cs)

one-more : (b c : Bool) → not (b || c) ≡ true → not c ≡ true
one-more true c is = absurd (cc is)
one-more false c is = is

still-left : (s epoch : ℕ) (o : Option Claim) (cs : List Claim) (n : ℕ)
    → is_left s epoch (with_one o cs) n ≡ true
    → is_left s epoch cs n ≡ true
still-left s epoch None cs n is = is
still-left s epoch (Some c) cs n is =
    one-more (is_claim_of s epoch n c) (list_any (is_claim_of s epoch n) cs) is

left-before : (s epoch : ℕ) (fs : List Fact) (cs : List Claim) (n : ℕ)
    → is_left s epoch (gather claim_of fs cs) n ≡ true → is_left s epoch cs n ≡ true
left-before s epoch [] cs n is = is
left-before s epoch (fact ∷ fs) cs n is =
    still-left s epoch (claim_of fact) cs n
    (left-before s epoch fs (with_one (claim_of fact) cs) n is)

left-then : (s epoch : ℕ) (x : Happening) (r : Run) (n : ℕ) → is_unused s epoch (x ∷ r) n ≡ true
    → is_unused s epoch r n ≡ true
unfolding claims
left-then s epoch x r n is = left-before s epoch x.facts (claims r) n is

-- where the next number stays
next-stays : (settings : Settings) (s epoch : ℕ) (x : Happening) (r : Run)
    → next settings s epoch (x ∷ r) ≡ next settings s epoch r
    → unused settings s epoch (x ∷ r) ≤ unused settings s epoch r
next-stays settings s epoch x r same =
    subst (λ n. length (filter (is_unused s epoch (x ∷ r)) (range_with_len 1 (n - 1))) ≤ unused
    settings s epoch r)
    (sym same)
    (fewer (is_unused s epoch r) (is_unused s epoch (x ∷ r)) (left-then s epoch x r)
    (range_with_len 1 (next settings s epoch r - 1)))

-- where the number that was next is claimed
next-claimed : (settings : Settings) (s epoch pn : ℕ) (x : Happening) (r : Run) → 1 ≤ pn
    → next settings s epoch r ≡ pn → next settings s epoch (x ∷ r) ≡ pn + 1
    → is_unused s epoch (x ∷ r) pn ≡ false
    → unused settings s epoch (x ∷ r) ≤ unused settings s epoch r
next-claimed settings s epoch zero x r some was is taken = elim some [ ]
next-claimed settings s epoch (suc n) x r some was is taken =
    let q = is_unused s epoch (x ∷ r) in
    let count : (next settings s epoch (x ∷ r) - 1) ≡ suc n = omega (arith, is) in
    let before : (next settings s epoch r - 1) ≡ n = omega (arith, was) in
    let all : filter q (range_with_len 1 (suc n)) ≡ filter q (range_with_len 1 n) =
    ap (filter q) (range-more 1 n)
    ∙ filter_end q (range_with_len 1 n) (1 + n) (subst (λ m. q m ≡ false) (omega arith) taken) in
    let less = fewer (is_unused s epoch r) q (left-then s epoch x r) (range_with_len 1 n) in
    subst (λ c. length (filter q (range_with_len 1 c)) ≤ unused settings s epoch r) (sym count)
    (subst (λ c. length (filter q (range_with_len 1 (suc n))) ≤ length
    (filter (is_unused s epoch r) (range_with_len 1 c)))
    (sym before)
    (subst (λ ns. length ns ≤ length (filter (is_unused s epoch r) (range_with_len 1 n)))
    (sym all) less))

-- ---- each event

next-is-more : (settings : Settings) (s epoch : ℕ) (x : Happening) (r : Run)
    → next settings s epoch (x ∷ r) ≡ max (shown_by settings s epoch r x.facts x.event)
    (next settings s epoch r)
unfolding next
next-is-more settings s epoch x r = refl

max-same : (n : ℕ) → max n n ≡ n
max-same n = grind arith

max-zero : (n : ℕ) → max 0 n ≡ n
max-zero n = grind arith

max-next : (n : ℕ) → max (n + 1) n ≡ n + 1
max-next n = grind arith

-- what leaves a next number as it was
leaves : (settings : Settings) (s epoch : ℕ) (x : Happening) (r : Run)
    → (shown_by settings s epoch r x.facts x.event ≡ 0)
    ⊎ (shown_by settings s epoch r x.facts x.event ≡ next settings s epoch r)
    → next settings s epoch (x ∷ r) ≡ next settings s epoch r
leaves settings s epoch x r (inl none) =
    next-is-more settings s epoch x r ∙ ap (λ n. max n (next settings s epoch r)) none
    ∙ max-zero (next settings s epoch r)
leaves settings s epoch x r (inr same) =
    next-is-more settings s epoch x r ∙ ap (λ n. max n (next settings s epoch r)) same
    ∙ max-same (next settings s epoch r)

no_claim : (s epoch : ℕ) (shown : List Fact) → AreOther shown → after_claim s epoch shown ≡ 0
no_claim s epoch [] are = refl
no_claim s epoch (facts.Claimed t an e pn ∷ later) are = elim are [ ]
no_claim s epoch (facts.Unclaimed t why ∷ later) are = elim are [ ]
no_claim s epoch (_ ∷ later) are = refl

-- a tick that shows the next number
by_tick : (settings : Settings) (s epoch station shown : ℕ) (r : Run) (k : Option Key) → station ≡ s
    → shown ≡ next_under settings station r k → (b : Bool) → is_epoch epoch k ≡ b
    → (cond b shown 0 ≡ 0) ⊎ (cond b shown 0 ≡ next settings s epoch r)
by_tick settings s epoch station shown r k here is false other = inl refl
by_tick settings s epoch station shown r None here is true same = absurd (cc same)
by_tick settings s epoch station shown r (Some k) here is true same =
    let equal : k.epoch ≡ epoch = eqb-true k.epoch epoch same in
    inr (is ∙ ap (λ t. next settings t k.epoch r) here ∙ ap (λ e. next settings s e r) equal)

tick-leaves : (settings : Settings) (s epoch station shown : ℕ) (r : Run) (f : List Fact)
    → shown ≡ next_under settings station r (transmitting_at settings station r)
    → (shown_by settings s epoch r f (events.Tick station shown) ≡ 0)
    ⊎ (shown_by settings s epoch r f (events.Tick station shown) ≡ next settings s epoch r)
tick-leaves settings s epoch station shown r f is = go (station == s) refl
  where
    go : (b : Bool) → (station == s) ≡ b
        → (cond (b && is_epoch epoch (transmitting_at settings s r)) shown 0 ≡ 0)
        ⊎ (cond (b && is_epoch epoch (transmitting_at settings s r)) shown 0 ≡ next settings s epoch
        r)
    go false other = inl refl
    go true same =
        let here : station ≡ s = eqb-true station s same in
        by_tick settings s epoch station shown r (transmitting_at settings s r) here
        (is ∙ ap (λ t. next_under settings station r (transmitting_at settings t r)) here)
        (is_epoch epoch (transmitting_at settings s r)) refl

-- a claim that got the next number
number-leaves : (settings : Settings) (t epoch s user : ℕ) (an : AssociationNumber) (e pn : ℕ)
    (r : Run) → 1 ≤ pn
    → pn ≡ next settings s e r
    → let x = happened (events.Claim s user pn) (facts.Claimed s an e pn ∷ []) in
    unused settings t epoch (x ∷ r) ≤ unused settings t epoch r
unfolding claims
number-leaves settings t epoch s user an e pn r some is = go (s == t) (e == epoch) refl refl
  where
    go : (b c : Bool) → (s == t) ≡ b → (e == epoch) ≡ c
        → unused settings t epoch
        (happened (events.Claim s user pn) (facts.Claimed s an e pn ∷ []) ∷ r)
        ≤ unused settings t epoch r
    go true true here same =
        let x = happened (events.Claim s user pn) (facts.Claimed s an e pn ∷ []) in
        let place : s ≡ t = eqb-true s t here in
        let equal : e ≡ epoch = eqb-true e epoch same in
        let was : next settings t epoch r ≡ pn =
        ap (λ t. next settings t epoch r) (sym place) ∙ ap (λ e. next settings s e r) (sym equal)
        ∙ sym is in
        let shows : shown_by settings t epoch r x.facts x.event ≡ pn + 1 = rw (here, same) refl in
        let itself : (pn == pn) ≡ true = grind arith in
        next-claimed settings t epoch pn x r some was
        (next-is-more settings t epoch x r
        ∙ ap (λ n. max n (next settings t epoch r)) shows ∙ ap (max (pn + 1)) was ∙ max-next pn)
        (rw (here, same, itself) refl)
    go true false here other =
        let x = happened (events.Claim s user pn) (facts.Claimed s an e pn ∷ []) in
        next-stays settings t epoch x r (leaves settings t epoch x r (inl (rw (here, other) refl)))
    go false c other same =
        let x = happened (events.Claim s user pn) (facts.Claimed s an e pn ∷ []) in
        next-stays settings t epoch x r (leaves settings t epoch x r (inl (rw other refl)))

refused-leaves : (settings : Settings) (t epoch s user pn : ℕ) (why : Lack) (r : Run)
    → let x = happened (events.Claim s user pn) (facts.Unclaimed s why ∷ []) in
    unused settings t epoch (x ∷ r) ≤ unused settings t epoch r
refused-leaves settings t epoch s user pn why r =
    let x = happened (events.Claim s user pn) (facts.Unclaimed s why ∷ []) in
    next-stays settings t epoch x r (leaves settings t epoch x r (inl refl))

claim-leaves : (settings : Settings) (t epoch s user pn : ℕ) (r : Run) (k : Option Key) (b : Bool)
    → (pn == 0) ≡ b
    → (pn ≡ 0) ⊎ (pn ≡ next_under settings s r k)
    → let x =
    happened (events.Claim s user pn)
    (cond b (facts.Unclaimed s (lack settings s r k)) (number_fact s pn k) ∷ []) in
    unused settings t epoch (x ∷ r) ≤ unused settings t epoch r
claim-leaves settings t epoch s user pn r k true none is =
    refused-leaves settings t epoch s user pn (lack settings s r k) r
claim-leaves settings t epoch s user pn r None false some is =
    refused-leaves settings t epoch s user pn NoKey r
claim-leaves settings t epoch s user pn r (Some k) false some (inl none) =
    absurd (eqb-false pn 0 some none)
claim-leaves settings t epoch s user pn r (Some k) false some (inr is) =
    let not = eqb-false pn 0 some in
    number-leaves settings t epoch s user k.an k.epoch pn r (omega (arith, not)) is

other-leaves : (settings : Settings) (s epoch : ℕ) (x : Happening) (r : Run)
    → shown_by settings s epoch r x.facts x.event ≡ after_claim s epoch x.facts → AreOther x.facts
    → unused settings s epoch (x ∷ r) ≤ unused settings s epoch r
other-leaves settings s epoch x r is are =
    next-stays settings s epoch x r
    (leaves settings s epoch x r (inl (is ∙ no_claim s epoch x.facts are)))

event-leaves : (settings : Settings) (t epoch : ℕ) (event : Event) (shown : List Fact) (r : Run)
    → IsClaim settings r shown event → LeavesNoneOut settings r event
    → unused settings t epoch (happened event shown ∷ r) ≤ unused settings t epoch r
event-leaves settings t epoch (events.Claim s user pn) shown r is none =
    subst (λ shown. unused settings t epoch (happened (events.Claim s user pn) shown ∷ r) ≤ unused
    settings t epoch r) is
    (claim-leaves settings t epoch s user pn r (transmitting_at settings s r) (pn == 0) refl none)
event-leaves settings t epoch (events.Tick s next) shown r is none =
    let x = happened (events.Tick s next) shown in
    next-stays settings t epoch x r
    (leaves settings t epoch x r (tick-leaves settings t epoch s next r shown none))
event-leaves settings t epoch (events.Start name sci priority) shown r is none =
    other-leaves settings t epoch (happened (events.Start name sci priority) shown) r refl is
event-leaves settings t epoch (events.Deliver frame s) shown r is none =
    other-leaves settings t epoch (happened (events.Deliver frame s) shown) r refl is
event-leaves settings t epoch (events.Restart s) shown r is none =
    other-leaves settings t epoch (happened (events.Restart s) shown) r refl is
event-leaves settings t epoch events.Emit shown r is none =
    other-leaves settings t epoch (happened events.Emit shown) r refl is
event-leaves settings t epoch (events.Inject s octets) shown r is none =
    other-leaves settings t epoch (happened (events.Inject s octets) shown) r refl is

-- ---- a run

few : (settings : Settings) (r : Run) → IsThrifty settings r → (s epoch : ℕ)
    → unused settings s epoch r ≤ 16
unfolding next
few settings [] thrifty s epoch = omega arith
few settings (x ∷ r) (here, before) s epoch = here s epoch

pub stays-thrifty : (settings : Settings) (users : List UserFrame) (x : Happening) (r : Run)
    → IsStep settings users x r
    → LeavesNoneOut settings r x.event → IsThrifty settings r → IsThrifty settings (x ∷ r)
stays-thrifty settings users x r step none thrifty =
    let is = is-claim settings users r x.event x.facts step.shows in (
      λ s epoch.
          let less = event-leaves settings s epoch x.event x.facts r is none in
          let before = few settings r thrifty s epoch in
          omega (arith, less, before),
      thrifty,
    )
