-- The tables of next numbers follow an event.
use Rattle.std.proofs.Common.{◌≡◌, ℕ, ◌==◌, Bool, true, false, List, ◌∷◌, Option, Some}
use Rattle.std.proofs.Common.{None, refl, sym, ap, ◌∙◌, arith}
use Rattle.std.specs.Prelude.{cond, max, ◌&&◌, Result, Ok, Err, OnOk, option_map}
use Rattle.std.specs.declared.alloc.AllocError.{AllocError}
use Rattle.lan_base.specs.declared.association_number.AssociationNumber.{AssociationNumber}
use Rattle.sak_exchange.specs.declared.held_key.Key.{Key}
use Rattle.lan_core.specs.declared.event.Event.{Event}
use Rattle.lan_core.specs.declared.event.Event.TheVariants as events
use Rattle.lan_core.specs.declared.fact.Fact.{Fact}
use Rattle.lan_core.specs.declared.settings.Settings.{Settings}
use Rattle.lan_core.specs.Run.{Run, happened}
use Rattle.lan_core.specs.Lives.{transmitting_at}
use Rattle.lan_core.specs.Claims.{next, is_epoch, shown_by, after_claim}
use Rattle.next_numbers.specs.Numbers.{shown_next, counted_next, TellNext}
use Rattle.lan_core.specs.Unstopped.{next_under}
use Rattle.next_numbers.specs.Numbers.{is_tick, ShowsNext}

equal : (a b : ℕ) → (a == b) ≡ true → a ≡ b
equal a b e = grind arith

-- the next number itself raises nothing
under-key : (settings : Settings) (s epoch shown : ℕ) (r : Run) (k : Option Key)
    → shown ≡ next_under settings s r k
    → max (cond (is_epoch epoch k) shown 0) (next settings s epoch r) ≡ next settings s epoch r
under-key settings s epoch shown r None is = omega arith
under-key settings s epoch shown r (Some k) is = by (k.epoch == epoch) refl where
  by : (b : Bool) → (k.epoch == epoch) ≡ b
      → max (cond b shown 0) (next settings s epoch r) ≡ next settings s epoch r
  by true e =
      let same : next settings s k.epoch r
      ≡ next settings s epoch r = ap (λ n. next settings s n r) (equal k.epoch epoch e) in
      omega arith
  by false e = omega arith

tick-raises-nothing : (settings : Settings) (s epoch station shown : ℕ) (r : Run)
    → shown ≡ shown_next settings station r
    → max (cond ((station == s) && is_epoch epoch (transmitting_at settings s r)) shown 0)
    (next settings s epoch r) ≡ next settings s epoch r
tick-raises-nothing settings s epoch station shown r is = by (station == s) refl where
  by : (b : Bool) → (station == s) ≡ b
      → max (cond (b && is_epoch epoch (transmitting_at settings s r)) shown 0)
      (next settings s epoch r) ≡ next settings s epoch r
  by true e =
      under-key settings s epoch shown r (transmitting_at settings s r)
      (is ∙ ap (λ n. shown_next settings n r) (equal station s e))
  by false e = omega arith

pub tell-tick : (settings : Settings) (r : Run) (tables : List (List ℕ)) (event : Event)
    (facts : List Fact) → is_tick event ≡ true
    → TellNext settings r tables → ShowsNext settings r event
    → TellNext settings (happened event facts ∷ r) tables
unfolding next
tell-tick settings r tables (events.Tick station shown) facts tick tell shows = λ s epoch.
    tell s epoch ∙ sym (tick-raises-nothing settings s epoch station shown r shows)
tell-tick settings r tables (events.Start name sci priority) facts tick tell shows =
    absurd (cc tick)
tell-tick settings r tables (events.Deliver frame s) facts tick tell shows = absurd (cc tick)
tell-tick settings r tables (events.Restart s) facts tick tell shows = absurd (cc tick)
tell-tick settings r tables (events.Claim s user pn) facts tick tell shows = absurd (cc tick)
tell-tick settings r tables events.Emit facts tick tell shows = absurd (cc tick)
tell-tick settings r tables (events.Inject s octets) facts tick tell shows = absurd (cc tick)

other-shows : (settings : Settings) (s epoch : ℕ) (r : Run) (facts : List Fact) (event : Event)
    → is_tick event ≡ false
    → shown_by settings s epoch r facts event ≡ after_claim s epoch facts
other-shows settings s epoch r facts (events.Tick station shown) other = absurd (cc other)
other-shows settings s epoch r facts (events.Start name sci priority) other = refl
other-shows settings s epoch r facts (events.Deliver frame station) other = refl
other-shows settings s epoch r facts (events.Restart station) other = refl
other-shows settings s epoch r facts (events.Claim station user pn) other = refl
other-shows settings s epoch r facts events.Emit other = refl
other-shows settings s epoch r facts (events.Inject station octets) other = refl

pub tell-other : (settings : Settings) (r : Run) (old new : List (List ℕ)) (event : Event)
    (facts : List Fact) → is_tick event ≡ false
    → ((s e : ℕ) → counted_next new s e ≡ max (after_claim s e facts) (counted_next old s e))
    → TellNext settings r old → TellNext settings (happened event facts ∷ r) new
unfolding next
tell-other settings r old new event facts other raised tell = λ s epoch.
    raised s epoch ∙ ap (λ n. max n (counted_next old s epoch))
    (sym (other-shows settings s epoch r facts event other))
    ∙ ap (λ n. max (shown_by settings s epoch r facts event) n) (tell s epoch)

pub told-other : (settings : Settings) (r : Run) (old new : List (List ℕ)) (event : Event)
    (facts : List Fact) (result : Result (Unit {0}) AllocError) → is_tick event ≡ false
    → OnOk result ((s e : ℕ) → counted_next new s e
    ≡ max (after_claim s e facts) (counted_next old s e))
    → TellNext settings r old → OnOk result (TellNext settings (happened event facts ∷ r) new)
told-other settings r old new event facts (Ok done) other raised tell =
    tell-other settings r old new event facts other raised tell
told-other settings r old new event facts (Err e) other raised tell = tt

-- what transmits, by its association number and epoch
abbrev pub by_epoch : Option Key → Option (AssociationNumber × ℕ)
by_epoch k = option_map (λ key. (key.an, key.epoch)) k

pub shown-none : (settings : Settings) (s : ℕ) (r : Run) (k : Option Key) → None ≡ by_epoch k
    → 0 ≡ next_under settings s r k
shown-none settings s r None e = refl
shown-none settings s r (Some key) e = absurd (cc e)

abbrev second_of : ℕ → Option (AssociationNumber × ℕ) → ℕ
second_of default None = default
second_of default (Some pair) = pair.1

pub shown-some : (settings : Settings) (s : ℕ) (an : AssociationNumber) (epoch n : ℕ) (r : Run)
    (k : Option Key)
    → Some (an, epoch) ≡ by_epoch k → n ≡ next settings s epoch r → n ≡ next_under settings s r k
shown-some settings s an epoch n r None e is = absurd (cc e)
shown-some settings s an epoch n r (Some key) e is = is
    ∙ ap (λ m. next settings s m r) (ap (λ o. second_of epoch o) e)
