-- The claims of a part: how many packet numbers they tell of, and that one without a number shows
-- that no key transmits.
use Rattle.std.proofs.Common.{◌≡◌, ◌<◌, ◌≤◌, ℕ, zero, suc, ◌+◌, ◌==◌, Bool, true, false}
use Rattle.std.proofs.Common.{List, [], ◌∷◌, length, refl, sym, ap, ◌∙◌, subst, inl, inr, arith}
use Rattle.std.specs.Prelude.{◌⊎◌, Option, Some, None, nat_lt, reverse}
use Rattle.std.specs.List.{AllByRecursion}
use Rattle.std.proofs.lemmas.Bool.{cases_Bool, eqb-false, eqb-true, le-ltb, lt-ltb}
use Rattle.std.proofs.lemmas.List.{length-append}
use Rattle.lan_base.specs.declared.frame.UserFrame.{UserFrame}
use Rattle.sak_exchange.specs.declared.held_key.Key.{Key}
use Rattle.lan_core.specs.declared.event.Event.{Event}
use Rattle.lan_core.specs.declared.event.Event.TheVariants as events
use Rattle.lan_core.specs.declared.fact.Fact.{Fact}
use Rattle.lan_core.specs.declared.fact.Fact.TheVariants as facts
use Rattle.lan_core.specs.declared.fact.Lack.TheVariants.{NoKey}
use Rattle.lan_core.specs.declared.settings.Settings.{Settings}
use Rattle.lan_core.specs.Claims.{claimed_by, next, waiting_under}
use Rattle.lan_core.specs.Order.{IsAllowed, IsClaimable}
use Rattle.lan_core.specs.Expected.{claim_fact, drawn_in, last_number, number_fact}
use Rattle.lan_core.specs.Ledgers.{Claim, claim_of, claims, gather}
use Rattle.lan_core.specs.Legal.{IsStep, IsStepped}
use Rattle.lan_core.specs.Lives.{transmitting_at}
use Rattle.lan_core.specs.Parts.{claimed_in, followed_by, is_claim}
use Rattle.lan_core.specs.Run.{Happening, Run}
use Rattle.lan_core.proofs.Public.{IsClaim, is-claim, never-falls, stepped-front}
use Rattle.group_safety.proofs.Public.{claims-by, kind}
use Rattle.worker_races.proofs.Public.{adds-none}
use Rattle.lan_schedule.specs.Races.{Claimed, claims_in, count_numbered}
use Rattle.lan_schedule.specs.Sound.{IsNeverSpent}
use Rattle.lan_schedule.specs.inside.Staged.{FindsLeft}
use Rattle.lan_schedule.proofs.Dealing.{all-by, claims_by}
use Rattle.lan_schedule.proofs.PartShown.{IsPlain, IsPlainBy}
use Rattle.lan_schedule.proofs.Unspent.{facts-unspent}
use Rattle.lan_schedule.proofs.WovenPart.{claimed_for, claims_of, followed-reverse, front_of, rest_of}

-- ---- how many numbers

-- whether an event claims a number
abbrev is_numbered : Event → Bool
is_numbered (events.Claim s user pn) = nat_lt 0 pn
is_numbered _ = false

one-of : Bool → ℕ
one-of true = 1
one-of false = 0

count-front : (base : ℕ) (e : Event) (later : List Claimed)
    → count_numbered (claims_by base e later) ≡ one-of (is_numbered e) + count_numbered later
unfolding one-of
count-front base (events.Claim s user pn) later = by (nat_lt 0 pn) refl where
  by : (b : Bool) → nat_lt 0 pn ≡ b
      → count_numbered (claimed_for base user pn ∷ later) ≡ one-of (nat_lt 0 pn) + count_numbered later
  by true is = rw is (omega arith)
  by false is = rw is (omega arith)
count-front base (events.Start name sci priority) later = omega arith
count-front base (events.Tick s next) later = omega arith
count-front base (events.Deliver frame s) later = omega arith
count-front base (events.Restart s) later = omega arith
count-front base events.Emit later = omega arith
count-front base (events.Inject s octets) later = omega arith

-- whether a number is there
zero-none : (pn : ℕ) → (pn == 0) ≡ true → nat_lt 0 pn ≡ false
zero-none pn none = let is : pn ≡ 0 = eqb-true pn 0 none in rw is refl

some-there : (pn : ℕ) → (pn == 0) ≡ false → nat_lt 0 pn ≡ true
some-there pn some = lt-ltb 0 pn (positive pn (eqb-false pn 0 some))
  where
    positive : (pn : ℕ) → (pn ≡ 0 → ⊥) → 0 < pn
    positive zero not = absurd (not refl)
    positive (suc pn) not = omega arith

-- a claim tells of a number at most where it got one
told-one : (settings : Settings) (s pn : ℕ) (r : Run) (o : Option Key) (cs : List Claim)
    → length (gather claim_of (claim_fact settings s r pn o ∷ []) cs)
    ≤ one-of (nat_lt 0 pn) + length cs
unfolding one-of
told-one settings s pn r o cs = elim (cases_Bool (pn == 0)) [
  | inl none ↦ (let no = zero-none pn none in rw (none, no) (omega arith))
  | inr some ↦ (let yes = some-there pn some in rw (some, yes) (told o))
] where
  told : (o : Option Key) → length (gather claim_of (number_fact s pn o ∷ []) cs) ≤ 1 + length cs
  told None = omega arith
  told (Some k) = omega arith

-- and no other event tells of one
step-claims : (settings : Settings) (users : List UserFrame) (x : Happening) (r : Run)
    → IsStep settings users x r
    → length (claims (x ∷ r)) ≤ one-of (is_numbered x.event) + length (claims r)
unfolding claims
step-claims settings users x r step =
    by x.event refl (is-claim settings users r x.event x.facts step.shows)
  where
    none : (e : Event) → x.event ≡ e → is_claim e ≡ false
        → length (gather claim_of x.facts (claims r)) ≤ one-of (is_numbered x.event) + length (claims r)
    none e at other =
        let same : gather claim_of x.facts (claims r) ≡ claims r =
        adds-none x.facts (claims r) (λ s an epoch pn i.
        (let by = claims-by settings users r x.event x.facts s an epoch pn
        (kind settings users x r step) i in
        absurd (let claim : is_claim e ≡ true = ap is_claim (sym at ∙ by.event) in
        let bad : true ≡ false = sym claim ∙ other in cc bad))) in
        let many = ap length same in omega (arith, many)

    by : (e : Event) → x.event ≡ e → IsClaim settings r x.facts e
        → length (gather claim_of x.facts (claims r)) ≤ one-of (is_numbered x.event) + length (claims r)
    by (events.Claim s user pn) at told =
        let low = told-one settings s pn r (transmitting_at settings s r) (claims r) in
        let same : length (gather claim_of (claim_fact settings s r pn (transmitting_at settings s r) ∷ [])
        (claims r)) ≡ length (gather claim_of x.facts (claims r)) =
        ap (λ (shown : List Fact). length (gather claim_of shown (claims r))) told in
        let number : one-of (is_numbered x.event) ≡ one-of (nat_lt 0 pn) =
        ap (λ (e : Event). one-of (is_numbered e)) at in
        omega (arith, low, same, number)
    by (events.Start name sci priority) at told = none (events.Start name sci priority) at refl
    by (events.Tick s next) at told = none (events.Tick s next) at refl
    by (events.Deliver frame s) at told = none (events.Deliver frame s) at refl
    by (events.Restart s) at told = none (events.Restart s) at refl
    by events.Emit at told = none events.Emit at refl
    by (events.Inject s octets) at told = none (events.Inject s octets) at refl

-- a part tells of no more numbers than its claims got
pub claims-numbered : (settings : Settings) (users : List UserFrame) (base : ℕ)
    (part : List Happening) (r : Run) → IsStepped settings users (followed_by part r)
    → length (claims (followed_by part r))
    ≤ length (claims r) + count_numbered (claims_in (claims_of base part))
claims-numbered settings users base [] r stepped = omega arith
claims-numbered settings users base (x ∷ part) r stepped =
    let rest = claims-numbered settings users base part (x ∷ r) stepped in
    let here = step-claims settings users x r
    (stepped-front settings users part (x ∷ r) stepped).0 in
    let all = ap count_numbered (all-by base x.event (front_of base part) (rest_of base part)) in
    let front = count-front base x.event (claims_in (claims_of base part)) in
    omega (arith, rest, here, all, front)

-- ---- how many of the claims got one

numbered-some : (cs : List Claimed) → count_numbered cs ≤ length cs
numbered-some [] = omega arith
numbered-some (c ∷ cs) = elim (cases_Bool (nat_lt 0 c.pn)) [
  | inl some ↦ (let rest = numbered-some cs in rw some (omega (arith, rest)))
  | inr none ↦ (let rest = numbered-some cs in rw none (omega (arith, rest)))
]

-- whether an event is a claim that got none
abbrev is_refused : Event → Bool
is_refused (events.Claim s user pn) = pn == 0
is_refused _ = false

abbrev pub HasRefused : List Happening → Type 0
HasRefused [] = ⊥
HasRefused (x ∷ part) = (is_refused x.event ≡ true) ⊎ HasRefused part

more-one : (base : ℕ) (e : Event) (later : List Claimed) → count_numbered later ≤ length later
    → (is_refused e ≡ true) ⊎ (count_numbered later + 1 ≤ length later)
    → count_numbered (claims_by base e later) + 1 ≤ length (claims_by base e later)
unfolding one-of
more-one base (events.Claim s user pn) later low (inl none) =
    let number : pn ≡ 0 = eqb-true pn 0 none in
    let count = count-front base (events.Claim s user pn) later in
    let zero_is : one-of (nat_lt 0 pn) ≡ 0 = rw number refl in
    omega (arith, low, count, zero_is)
more-one base (events.Claim s user pn) later low (inr fewer) =
    let count = count-front base (events.Claim s user pn) later in
    let one = one-most (nat_lt 0 pn) in omega (arith, fewer, count, one)
  where
    one-most : (b : Bool) → one-of b ≤ 1
    one-most true = omega arith
    one-most false = omega arith
more-one base (events.Start name sci priority) later low (inl none) = absurd (cc none)
more-one base (events.Start name sci priority) later low (inr fewer) = fewer
more-one base (events.Tick s next) later low (inl none) = absurd (cc none)
more-one base (events.Tick s next) later low (inr fewer) = fewer
more-one base (events.Deliver frame s) later low (inl none) = absurd (cc none)
more-one base (events.Deliver frame s) later low (inr fewer) = fewer
more-one base (events.Restart s) later low (inl none) = absurd (cc none)
more-one base (events.Restart s) later low (inr fewer) = fewer
more-one base events.Emit later low (inl none) = absurd (cc none)
more-one base events.Emit later low (inr fewer) = fewer
more-one base (events.Inject s octets) later low (inl none) = absurd (cc none)
more-one base (events.Inject s octets) later low (inr fewer) = fewer

-- where one got none, fewer numbers were claimed than claims made
pub refused-fewer : (base : ℕ) (part : List Happening) → HasRefused part
    → count_numbered (claims_in (claims_of base part)) + 1 ≤ length (claims_in (claims_of base part))
refused-fewer base [] has = absurd has
refused-fewer base (x ∷ part) has =
    subst (λ (cs : List Claimed). count_numbered cs + 1 ≤ length cs)
    (sym (all-by base x.event (front_of base part) (rest_of base part)))
    (more-one base x.event (claims_in (claims_of base part))
    (numbered-some (claims_in (claims_of base part))) (by (λ later. refused-fewer base part later) has))
  where
    by : (HasRefused part → count_numbered (claims_in (claims_of base part)) + 1
        ≤ length (claims_in (claims_of base part)))
        → HasRefused (x ∷ part) → (is_refused x.event ≡ true)
        ⊎ (count_numbered (claims_in (claims_of base part)) + 1
        ≤ length (claims_in (claims_of base part)))
    by fewer (inl here) = inl here
    by fewer (inr later) = inr (fewer later)

-- ---- what a claim without a number shows

no-key : (settings : Settings) (s pn : ℕ) (r : Run) (o : Option Key)
    → ((e : ℕ) → next settings s e r ≤ last_number) → (pn == 0) ≡ true
    → claim_fact settings s r pn o ≡ facts.Unclaimed s NoKey
no-key settings s pn r None low none = rw none refl
no-key settings s pn r (Some k) low none =
    let not_past = le-ltb last_number (next settings s k.epoch r) (low k.epoch) in
    rw (none, not_past) refl

plain-by : (settings : Settings) (e : Event) (shown : List Fact) (r : Run)
    → IsClaim settings r shown e
    → (is_refused e ≡ true → (s epoch : ℕ) → next settings s epoch r ≤ last_number)
    → IsPlainBy e shown
plain-by settings (events.Claim s user pn) shown r told low = λ none.
    sym told ∙ ap (λ (f : Fact). f ∷ [])
    (no-key settings s pn r (transmitting_at settings s r) (low none s) none)
plain-by settings (events.Start name sci priority) shown r told low = tt
plain-by settings (events.Tick s next) shown r told low = tt
plain-by settings (events.Deliver frame s) shown r told low = tt
plain-by settings (events.Restart s) shown r told low = tt
plain-by settings events.Emit shown r told low = tt
plain-by settings (events.Inject s octets) shown r told low = tt

rises : (settings : Settings) (part : List Happening) (r : Run) (s epoch : ℕ)
    → next settings s epoch r ≤ next settings s epoch (followed_by part r)
rises settings part r s epoch = subst (λ (q : Run). next settings s epoch r ≤ next settings s epoch q)
    (sym (followed-reverse part r)) (never-falls settings s epoch (reverse part) r)

-- where no next number is past the last one in the end, it shows that no key transmits
pub are-plain : (settings : Settings) (users : List UserFrame) (part : List Happening) (r : Run)
    → IsStepped settings users (followed_by part r)
    → (HasRefused part → (s epoch : ℕ) → next settings s epoch (followed_by part r) ≤ last_number)
    → AllByRecursion IsPlain part
are-plain settings users [] r stepped low = tt
are-plain settings users (x ∷ part) r stepped low = (
  plain-by settings x.event x.facts r
      (is-claim settings users r x.event x.facts
      (stepped-front settings users part (x ∷ r) stepped).0.shows)
      (λ refused s epoch.
      let most = low (inl refused) s epoch in
      let rise = rises settings (x ∷ part) r s epoch in omega (arith, most, rise)),
  are-plain settings users part (x ∷ r) stepped (λ later. low (inr later)),
)

-- ---- no claim of it finds a key without a number left

finds : (settings : Settings) (e : Event) (r : Run)
    → (is_refused e ≡ true → (s epoch : ℕ) → next settings s epoch r ≤ last_number)
    → FindsLeft settings r e
finds settings (events.Claim s user pn) r low = λ none k is. low none s k.epoch
finds settings (events.Start name sci priority) r low = tt
finds settings (events.Tick s next) r low = tt
finds settings (events.Deliver frame s) r low = tt
finds settings (events.Restart s) r low = tt
finds settings events.Emit r low = tt
finds settings (events.Inject s octets) r low = tt

pub part-unspent : (settings : Settings) (users : List UserFrame) (part : List Happening) (r : Run)
    → IsStepped settings users (followed_by part r)
    → (HasRefused part → (s epoch : ℕ) → next settings s epoch (followed_by part r) ≤ last_number)
    → IsNeverSpent r → IsNeverSpent (followed_by part r)
part-unspent settings users [] r stepped low never = never
part-unspent settings users (x ∷ part) r stepped low never =
    part-unspent settings users part (x ∷ r) stepped (λ later. low (inr later)) (
      facts-unspent settings users r x.event (drawn_in x.facts) x.facts
          (stepped-front settings users part (x ∷ r) stepped).0.shows
          (finds settings x.event r (λ refused s epoch.
          let most = low (inl refused) s epoch in
          let rise = rises settings (x ∷ part) r s epoch in omega (arith, most, rise))),
      never,
    )

-- ---- claims that wait

waits-by : (settings : Settings) (s user pn : ℕ) (r : Run) (o : Option Key)
    → (pn ≡ 0) ⊎ IsClaimable settings s r pn o
    → length (waiting_under s user pn o) ≡ one-of (nat_lt 0 pn)
unfolding one-of
waits-by settings s user pn r None (inl none) = rw none refl
waits-by settings s user pn r None (inr may) = absurd may
waits-by settings s user pn r (Some k) may = elim (cases_Bool (pn == 0)) [
  | inl none ↦ (let no = zero-none pn none in rw (none, no) refl)
  | inr some ↦ (let yes = some-there pn some in rw (some, yes) refl)
]

step-waits : (settings : Settings) (users : List UserFrame) (x : Happening) (r : Run) (e : Event)
    → IsAllowed settings users r x e
    → length (claimed_by settings r e) ≡ one-of (is_numbered e)
unfolding one-of
step-waits settings users x r (events.Claim s user pn) may =
    waits-by settings s user pn r (transmitting_at settings s r) may.2
step-waits settings users x r (events.Start name sci priority) may = refl
step-waits settings users x r (events.Tick s next) may = refl
step-waits settings users x r (events.Deliver frame s) may = refl
step-waits settings users x r (events.Restart s) may = refl
step-waits settings users x r events.Emit may = refl
step-waits settings users x r (events.Inject s octets) may = refl

-- each claim that got a number waits for its emission
pub claims-wait : (settings : Settings) (users : List UserFrame) (base : ℕ)
    (part : List Happening) (r : Run) → IsStepped settings users (followed_by part r)
    → length (claimed_in settings part r) ≡ count_numbered (claims_in (claims_of base part))
claims-wait settings users base [] r stepped = refl
claims-wait settings users base (x ∷ part) r stepped =
    let rest = claims-wait settings users base part (x ∷ r) stepped in
    let here = step-waits settings users x r x.event
    (stepped-front settings users part (x ∷ r) stepped).0.in_order.1 in
    let both = length-append (claimed_by settings r x.event) (claimed_in settings part (x ∷ r)) in
    let all = ap count_numbered (all-by base x.event (front_of base part) (rest_of base part)) in
    let front = count-front base x.event (claims_in (claims_of base part)) in
    omega (arith, rest, here, both, all, front)
