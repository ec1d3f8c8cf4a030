-- What the places know of a merged list is what the run with that list behind it says.
use Rattle.std.proofs.Common.{◌≡◌, ◌≤◌, ℕ, max, Bool, true, false, cond, ◌&&◌, eqb}
use Rattle.std.proofs.Common.{List, [], ◌∷◌, refl, sym, ap, ◌∙◌, subst, arith, inl, inr}
use Rattle.std.proofs.Common.{Option, Some, None}
use Rattle.std.proofs.lemmas.Bool.{eqb-true, eq-eqb, ne_eqb, cond-true, cond-false, cases_Bool}
use Rattle.lan_base.specs.declared.frame.UserFrame.{UserFrame}
use Rattle.sak_exchange.specs.declared.held_key.Key.{Key}
use Rattle.lan_core.specs.declared.event.Event.{Event}
use Rattle.lan_core.specs.declared.event.Event.TheVariants as events
use Rattle.lan_core.specs.declared.fact.Fact.{Fact}
use Rattle.lan_core.specs.declared.fact.Fact.TheVariants as facts
use Rattle.lan_core.specs.declared.settings.Settings.{Settings}
use Rattle.lan_core.specs.Run.{Run, Happening, started}
use Rattle.lan_core.specs.Lives.{transmitting_at}
use Rattle.lan_core.specs.Claims.{next, shown_by, after_claim, is_epoch}
use Rattle.lan_core.specs.Expected.{claim_fact, number_fact, lack}
use Rattle.lan_core.specs.Order.{IsShown, IsAllowed, is_event_of}
use Rattle.worker_races.specs.merge.Places.{Move}
use Rattle.worker_races.specs.merge.Raced.{epoch_of, epoch_at, shown_of, IsMove}
use Rattle.lan_core.proofs.Public.{AreOther, IsClaim, is-claim}
use Rattle.lan_core.specs.Parts.{AreAlike}
use Rattle.lan_core.proofs.Public.{TellsClaim, transmits-same}

-- ---- one event of a station

-- whether it is an event of another
pub own-of : (s t : ℕ) (e : Event) → is_event_of t e ≡ true → is_event_of s e ≡ (eqb t s)
own-of s t (events.Start name sci priority) own = absurd (cc own)
own-of s t (events.Tick station next) own = ap (λ n. eqb n s) (eqb-true station t own)
own-of s t (events.Deliver frame station) own = ap (λ n. eqb n s) (eqb-true station t own)
own-of s t (events.Restart station) own = ap (λ n. eqb n s) (eqb-true station t own)
own-of s t (events.Claim station user pn) own = absurd (cc own)
own-of s t events.Emit own = absurd (cc own)
own-of s t (events.Inject station octets) own = ap (λ n. eqb n s) (eqb-true station t own)

pub starts-none : (t : ℕ) (e : Event) → is_event_of t e ≡ true → started e ≡ []
starts-none t (events.Start name sci priority) own = absurd (cc own)
starts-none t (events.Tick station next) own = refl
starts-none t (events.Deliver frame station) own = refl
starts-none t (events.Restart station) own = refl
starts-none t (events.Claim station user pn) own = absurd (cc own)
starts-none t events.Emit own = absurd (cc own)
starts-none t (events.Inject station octets) own = refl

-- facts that are no claims tell of no number
pub after-other : (s e : ℕ) (shown : List Fact) → AreOther shown → after_claim s e shown ≡ 0
after-other s e [] are = refl
after-other s e (facts.Claimed t an epoch pn ∷ later) are = absurd are
after-other s e (facts.Unclaimed t why ∷ later) are = refl
after-other s e (fact ∷ later) are = refl

-- what a tick shows under an epoch
tick-shows : (e n : ℕ) (b : Bool) (o : Option Key) → (o ≡ None → n ≡ 0)
    → cond (b && is_epoch e o) n 0 ≡ cond (b && eqb (epoch_of o) e) n 0
tick-shows e n b (Some k) none = refl
tick-shows e n b None none = go b (eqb 0 e)
  where
    go : (a b : Bool) → cond (a && false) n 0 ≡ cond (a && b) n 0
    go false b = refl
    go true false = refl
    go true true = sym (none refl)

tick-at : (t s e n : ℕ) (f : ℕ → Option Key) → (f t ≡ None → n ≡ 0)
    → cond (eqb t s && is_epoch e (f s)) n 0 ≡ cond (eqb t s && eqb (epoch_of (f t)) e) n 0
tick-at t s e n f none = elim (cases_Bool (eqb t s)) [
  | inl same ↦ subst (λ v. cond (eqb t v && is_epoch e (f v)) n 0
      ≡ cond (eqb t v && eqb (epoch_of (f t)) e) n 0) (eqb-true t s same)
      (tick-shows e n (eqb t t) (f t) none)
  | inr other ↦ rw other refl
]

-- the number that a tick shows is none where no key transmits
none-shown : (settings : Settings) (s n : ℕ) (x : Happening) (q : Run) (o : Option Key)
    → IsShown settings s n x q o → o ≡ None → n ≡ 0
none-shown settings s n x q None shown none = shown
none-shown settings s n x q (Some k) shown none = absurd (cc none)

-- What an event of a station shows of next numbers, after the run in which it is in order.
pub shows-next : (settings : Settings) (users : List UserFrame) (c : Run) (m : Move) (s e : ℕ)
    → IsMove settings users c m
    → shown_by settings s e c m.x.facts m.x.event
    ≡ cond (eqb m.station s && eqb (epoch_at settings m.station c) e) m.shown 0
shows-next settings users c m s e move =
    go m.x.event move.own move.shown move.step.in_order.1
    (is-claim settings users c m.x.event m.x.facts move.step.shows)
  where
    none : (b : Bool) → ◌≡◌ {A = ℕ} 0 (cond b 0 0)
    none true = refl
    none false = refl

    quiet : m.shown ≡ 0 → AreOther m.x.facts → after_claim s e m.x.facts
        ≡ cond (eqb m.station s && eqb (epoch_at settings m.station c) e) m.shown 0
    quiet nil other =
        after-other s e m.x.facts other
        ∙ (none (eqb m.station s && eqb (epoch_at settings m.station c) e)
        ∙ ap (λ n. cond (eqb m.station s && eqb (epoch_at settings m.station c) e) n 0) (sym nil))

    go : (f : Event) → is_event_of m.station f ≡ true → m.shown ≡ shown_of f
        → IsAllowed settings users c m.x f → IsClaim settings c m.x.facts f
        → shown_by settings s e c m.x.facts f
        ≡ cond (eqb m.station s && eqb (epoch_at settings m.station c) e) m.shown 0
    go (events.Start name sci priority) own shown allowed first = absurd (cc own)
    go (events.Tick t n) own shown allowed first =
        subst (λ v. cond (eqb t s && is_epoch e (transmitting_at settings s c)) n 0
        ≡ cond (eqb v s && eqb (epoch_at settings v c) e) n 0) (eqb-true t m.station own)
        (tick-at t s e n (λ v. transmitting_at settings v c)
        (none-shown settings t n m.x c (transmitting_at settings t c) allowed.1))
        ∙ ap (λ n. cond (eqb m.station s && eqb (epoch_at settings m.station c) e) n 0) (sym shown)
    go (events.Deliver frame station) own shown allowed first = quiet shown first
    go (events.Restart station) own shown allowed first = quiet shown first
    go (events.Claim station user pn) own shown allowed first = absurd (cc own)
    go events.Emit own shown allowed first = absurd (cc own)
    go (events.Inject station octets) own shown allowed first = quiet shown first

-- after two runs that are seen alike an event shows the same number
pub shown-same : (settings : Settings) (q c : Run) → AreAlike settings q c → (s e : ℕ)
    (shown : List Fact) (f : Event) → shown_by settings s e q shown f ≡ shown_by settings s e c shown f
shown-same settings q c seen s e shown (events.Start name sci priority) = refl
shown-same settings q c seen s e shown (events.Tick t n) = rw (transmits-same settings q c seen s) refl
shown-same settings q c seen s e shown (events.Deliver frame station) = refl
shown-same settings q c seen s e shown (events.Restart station) = refl
shown-same settings q c seen s e shown (events.Claim station user pn) = refl
shown-same settings q c seen s e shown events.Emit = refl
shown-same settings q c seen s e shown (events.Inject station octets) = refl

pub max-when : (b : Bool) (n k : ℕ) → max (cond b n 0) k ≡ cond b (max n k) k
max-when true n k = refl
max-when false n k = omega arith

pub max-zero : (n : ℕ) → max 0 n ≡ n
max-zero n = omega arith

-- ---- one claim

-- what it tells, whatever key transmits
pub tells-claim : (settings : Settings) (s pn : ℕ) (q : Run) (o : Option Key)
    → TellsClaim (claim_fact settings s q pn o)
tells-claim settings s pn q None = go (eqb pn 0)
  where
    go : (b : Bool) → TellsClaim (cond b (facts.Unclaimed s (lack settings s q None)) (number_fact s pn None))
    go true = tt
    go false = tt
tells-claim settings s pn q (Some k) = go (eqb pn 0)
  where
    go : (b : Bool) → TellsClaim (cond b (facts.Unclaimed s (lack settings s q (Some k))) (number_fact s pn (Some k)))
    go true = tt
    go false = tt

-- a claim that got a number, under the key that transmits
pub number-told : (settings : Settings) (s pn : ℕ) (q : Run) (o : Option Key) (k : Key) → 1 ≤ pn
    → o ≡ Some k → claim_fact settings s q pn o ≡ facts.Claimed s k.an k.epoch pn
number-told settings s pn q o k some is =
    rw is (cond-false (eqb pn 0) _ _ (ne_eqb pn 0 (λ z. omega arith)))

-- one that got none
pub none-told : (settings : Settings) (s pn : ℕ) (q : Run) (o : Option Key) → pn ≡ 0
    → claim_fact settings s q pn o ≡ facts.Unclaimed s (lack settings s q o)
none-told settings s pn q o nil = cond-true (eqb pn 0) _ _ (eq-eqb pn 0 nil)
