-- No packet number is told of a place without a station.
use Rattle.std.proofs.Common.{◌≡◌, ◌≤◌, ℕ, ◌==◌, false, List, [], ◌∷◌, length}
use Rattle.std.proofs.Common.{Option, Some, None, refl, sym, ap, ◌∙◌, inl, inr, arith}
use Rattle.std.proofs.lemmas.Bool.{cases_Bool, ne_eqb}
use Rattle.std.proofs.lemmas.List.{length-append}
use Rattle.lan_base.specs.declared.frame.UserFrame.{UserFrame}
use Rattle.sak_exchange.specs.declared.held_key.Key.{Key}
use Rattle.lan_core.specs.declared.event.Event.{Event}
use Rattle.lan_core.specs.declared.event.Event.TheVariants as events
use Rattle.lan_core.specs.declared.fact.Fact.TheVariants as facts
use Rattle.lan_core.specs.declared.settings.Settings.{Settings}
use Rattle.lan_core.specs.Claims.{after_claim, next, shown_by}
use Rattle.lan_core.specs.Expected.{claim_fact, number_fact}
use Rattle.lan_core.specs.Legal.{IsStep, IsStepped}
use Rattle.lan_core.specs.Lives.{transmitting_at}
use Rattle.lan_core.specs.Order.{Exists, IsAllowed}
use Rattle.lan_core.specs.Parts.{followed_by}
use Rattle.lan_core.specs.Run.{Happening, Run, started, stations}
use Rattle.lan_core.proofs.Public.{IsClaim, is-claim, stepped-front}
use Rattle.worker_races.proofs.weaving.Agree.{after-other}

stations-grow : (part : List Happening) (r : Run) → length (stations r) ≤ length (stations (followed_by part r))
unfolding stations
stations-grow [] r = omega arith
stations-grow (x ∷ part) r =
    let rest = stations-grow part (x ∷ r) in
    let more = length-append (stations r) (started x.event) in omega (arith, rest, more)

none-claimed : (settings : Settings) (s e t pn : ℕ) (r : Run) (o : Option Key) → (t == s) ≡ false
    → after_claim s e (claim_fact settings t r pn o ∷ []) ≡ 0
none-claimed settings s e t pn r o other = elim (cases_Bool (pn == 0)) [
  | inl none ↦ rw none refl
  | inr some ↦ rw some (told o)
] where
  told : (o : Option Key) → after_claim s e (number_fact t pn o ∷ []) ≡ 0
  told None = refl
  told (Some k) = rw other refl

elsewhere : (s t : ℕ) (r : Run) → Exists t r → length (stations r) ≤ s → (t == s) ≡ false
elsewhere s t r there past = ne_eqb t s (λ same. absurd (omega (arith, there, past, same)))

none-shown : (settings : Settings) (users : List UserFrame) (s epoch : ℕ) (x : Happening) (r : Run) (e : Event)
    → IsAllowed settings users r x e → IsClaim settings r x.facts e → length (stations r) ≤ s
    → shown_by settings s epoch r x.facts e ≡ 0
none-shown settings users s epoch x r (events.Tick t shown) may told past =
    let other = elsewhere s t r may.0 past in rw other refl
none-shown settings users s epoch x r (events.Claim t user pn) may told past =
    ap (after_claim s epoch) (sym told)
    ∙ none-claimed settings s epoch t pn r (transmitting_at settings t r) (elsewhere s t r may.0 past)
none-shown settings users s epoch x r (events.Start name sci priority) may told past = after-other s epoch x.facts told
none-shown settings users s epoch x r (events.Deliver frame t) may told past = after-other s epoch x.facts told
none-shown settings users s epoch x r (events.Restart t) may told past = after-other s epoch x.facts told
none-shown settings users s epoch x r events.Emit may told past = after-other s epoch x.facts told
none-shown settings users s epoch x r (events.Inject t octets) may told past = after-other s epoch x.facts told

next-one : (settings : Settings) (users : List UserFrame) (s epoch : ℕ) (x : Happening) (r : Run) → IsStep settings users x r
    → length (stations r) ≤ s → next settings s epoch (x ∷ r) ≡ next settings s epoch r
unfolding next
next-one settings users s epoch x r step low =
    let none = none-shown settings users s epoch x r x.event step.in_order.1
    (is-claim settings users r x.event x.facts step.shows) low in
    omega (arith, none)

pub next-none : (settings : Settings) (users : List UserFrame) (s epoch : ℕ) (part : List Happening) (r : Run)
    → IsStepped settings users (followed_by part r) → length (stations (followed_by part r)) ≤ s
    → next settings s epoch (followed_by part r) ≡ next settings s epoch r
next-none settings users s epoch [] r stepped past = refl
next-none settings users s epoch (x ∷ part) r stepped past =
    next-none settings users s epoch part (x ∷ r) stepped past
    ∙ next-one settings users s epoch x r (stepped-front settings users part (x ∷ r) stepped).0
    (let grow = stations-grow (x ∷ part) r in omega (arith, grow, past))
