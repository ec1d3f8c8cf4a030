-- What a twin event is in a group may come there.
use Rattle.std.proofs.Common.{◌≡◌, ◌⊎◌, ◌<◌, ◌≤◌, ◌==◌, ◌++◌, ℕ, zero, suc, Bool, true, false, List, []}
use Rattle.std.proofs.Common.{◌∷◌, inl, inr, length, Option, Some, None, cond, refl}
use Rattle.std.proofs.Common.{subst, arith}
use Rattle.std.proofs.lemmas.Bool.{and_parts, ltb-true, le-ltb}
use Rattle.std.specs.Prelude.{◌^◌, is_some, nat_lt, not, option_map, option_to_list, slice_get}
use Rattle.lan_base.specs.declared.frame.UserFrame.{UserFrame}
use Rattle.sak_exchange.specs.declared.held_key.Key.{Key}
use Rattle.lan_core.specs.declared.event.Event.{Event}
use Rattle.lan_core.specs.declared.event.Event.TheVariants as events
use Rattle.lan_core.specs.declared.settings.Settings.{Settings}
use Rattle.lan_core.specs.Run.{Run, Profile, started, stations}
use Rattle.lan_core.specs.Ledgers.{air, emitted}
use Rattle.lan_core.specs.Lives.{transmitting_at}
use Rattle.lan_core.specs.Claims.{next, claimed, user_at}
use Rattle.lan_core.specs.Expected.{last_number}
use Rattle.lan_core.specs.Types.{IsTyped}
use Rattle.lan_core.specs.Order.{Exists, IsSendable, most_stations}
use Rattle.lan_core.specs.Legal.{IsStepped}
use Rattle.lan_core.specs.Stops.{IsNextShown, IsDemanded}
use Rattle.lan_core.specs.Unstopped.{next_under}
use Rattle.next_numbers.proofs.Public.{next-positive, stays-in-turn}
use Rattle.cak_roll.specs.declared.event.GroupNumber.{GroupNumber}
use Rattle.cak_roll.specs.declared.event.GroupNumber.TheVariants.{First, Second}
use Rattle.cak_roll.specs.declared.event.TwinEvent.{TwinEvent}
use Rattle.cak_roll.specs.declared.event.TwinEvent.TheVariants as twins
use Rattle.cak_roll.specs.Twin.{Pair, Twin, same_group, setting_of, run_of, adopters}
use Rattle.cak_roll.specs.Twin.{events_in, start_of, sent_as, only, place_in, has_joined, has_left}
use Rattle.cak_roll.specs.Twin.{takes_part, next_in, claimed_in, transmits, carrier}
use Rattle.cak_roll.specs.Twin.{MayComeTwin, IsTwinRun}
use Rattle.cak_roll.specs.Unstopped.{IsTypedTwin}
use Rattle.cak_roll.proofs.Twins.{twin-stepped}
use Rattle.cak_roll.proofs.Sends.{next-within}
use Rattle.cak_roll.proofs.Adopted.{new-there}
use Rattle.cak_roll.proofs.JoinedRun.{joined-run}
use Rattle.cak_roll.proofs.PartsOn.{AreReady, nothing, single, sending}

-- ---- stations

pub few-stations : (settings : Settings) (users : List UserFrame) (r : Run)
    → IsStepped settings users r → length (stations r) ≤ most_stations
unfolding stations
few-stations settings users [] stepped = omega arith
few-stations settings users (x ∷ r) (step, before) = step.within.stations

low-place : (settings : Settings) (users : List UserFrame) (r : Run) (s : ℕ)
    → IsStepped settings users r → Exists s r → s < 2 ^ 8
low-place settings users r s stepped there =
    let few = few-stations settings users r stepped in omega (arith, few, there)

-- what starts a station is typed
abbrev AreTyped : List Profile → Type 0
AreTyped [] = Unit {0}
AreTyped (p ∷ ps) = IsTyped (start_of p) × AreTyped ps

typed-more : (ps qs : List Profile) → AreTyped ps → AreTyped qs → AreTyped (ps ++ qs)
typed-more [] qs first then = then
typed-more (p ∷ ps) qs (here, first) then = (here, typed-more ps qs first then)

typed-at : (ps : List Profile) (s : ℕ) (p : Profile) → AreTyped ps → slice_get ps s ≡ Some p
    → IsTyped (start_of p)
typed-at [] s p typed is = absurd (cc is)
typed-at (q ∷ ps) zero p (here, typed) is =
    let same : q ≡ p = cc is in subst (λ (w : Profile). IsTyped (start_of w)) same here
typed-at (q ∷ ps) (suc s) p (here, typed) is = typed-at ps s p typed is

started-typed : (e : Event) → IsTyped e → AreTyped (started e)
started-typed (events.Start name sci priority) typed = (typed, tt)
started-typed (events.Tick s next) typed = tt
started-typed (events.Deliver frame s) typed = tt
started-typed (events.Restart s) typed = tt
started-typed (events.Claim s user pn) typed = tt
started-typed events.Emit typed = tt
started-typed (events.Inject s octets) typed = tt

all-typed : (settings : Settings) (users : List UserFrame) (r : Run)
    → IsStepped settings users r → AreTyped (stations r)
unfolding stations
all-typed settings users [] stepped = tt
all-typed settings users (x ∷ r) (step, before) =
    typed-more (stations r) (started x.event) (all-typed settings users r before)
    (started-typed x.event step.in_order.0)

-- no more is emitted than got a number
in-turn : (settings : Settings) (users : List UserFrame) (r : Run) → IsStepped settings users r
    → length (emitted r) ≤ length (claimed settings r)
unfolding claimed air
in-turn settings users [] stepped = omega arith
in-turn settings users (x ∷ r) (step, before) =
    stays-in-turn settings users x r step (in-turn settings users r before)

-- ---- a station that takes part is there

there-of : (g : GroupNumber) (s : ℕ) (t : Twin) → takes_part g s t ≡ true
    → Exists (place_in g s t) (run_of g t)
there-of g s t part =
    let parts = and_parts (has_joined g s t) (not (has_left g s t)) part in
    ltb-true (place_in g s t) (length (stations (run_of g t))) parts.0

carries : (pair : Pair) (s : ℕ) (t : Twin)
    → (takes_part First s t ≡ true) ⊎ (takes_part Second s t ≡ true)
    → takes_part (carrier pair s t) s t ≡ true
carries pair s t part = go (transmits pair Second s t) (takes_part First s t) refl refl part
  where
    go : (b c : Bool) → transmits pair Second s t ≡ b → takes_part First s t ≡ c
        → (c ≡ true) ⊎ (takes_part Second s t ≡ true)
        → takes_part (cond b Second (cond c First Second)) s t ≡ true
    go true c sends first part =
        (and_parts (takes_part Second s t)
        (is_some (transmitting_at (setting_of pair Second) (place_in Second s t)
        (run_of Second t))) sends).0
    go false true sends first part = first
    go false false sends first (inl one) = absurd (cc one)
    go false false sends first (inr other) = other

-- ---- numbers

shows-next : (settings : Settings) (s : ℕ) (r : Run) (k : Option Key)
    → IsNextShown settings s r (next_under settings s r k) k
shows-next settings s r None = refl
shows-next settings s r (Some k) = (next-positive settings s k.epoch r, omega arith)

demands : (settings : Settings) (s : ℕ) (r : Run) (k : Option Key) (given : Option UserFrame)
    → next_under settings s r k ≤ last_number
    → IsDemanded settings s r (cond (nat_lt last_number (next_under settings s r k)) 0
    (next_under settings s r k)) given given k
demands settings s r None given low = refl
demands settings s r (Some k) given low =
    let some = next-positive settings s k.epoch r in
    let fits = le-ltb last_number (next settings s k.epoch r) low in
    rw fits (inr (some, omega arith, low, refl))

low-claim : (b : Bool) (n : ℕ) → n ≤ last_number → cond b 0 n < 2 ^ 32
low-claim true n low = omega arith
low-claim false n low = omega (arith, low)

-- ---- what is ready

module _ (pair : Pair) (users : List UserFrame) (t : Twin) (run : IsTwinRun pair users t) where
  tick-ready : (g : GroupNumber) (s : ℕ) → takes_part g s t ≡ true
      → AreReady (setting_of pair g) users (run_of g t)
      (events.Tick (place_in g s t) (next_in pair g s t) ∷ [])
  tick-ready g s part =
      let settings = setting_of pair g in
      let r = run_of g t in
      let place = place_in g s t in
      let there = there-of g s t part in
      let low = next-within pair users t g s run in
      single (events.Tick place (next_in pair g s t)) None
      (low-place settings users r place (twin-stepped pair users t g run) there, omega (arith, low))
      (there, shows-next settings place r (transmitting_at settings place r)) tt

  deliver-ready : (g : GroupNumber) (frame s : ℕ) → MayComeTwin users t (twins.Deliver g frame s)
      → frame < 2 ^ 32 → AreReady (setting_of pair g) users (run_of g t)
      (events.Deliver frame (place_in g s t) ∷ [])
  deliver-ready g frame s may typed =
      let there = there-of g s t may.0 in
      single (events.Deliver frame (place_in g s t)) None (
        typed,
        low-place (setting_of pair g) users (run_of g t) (place_in g s t)
            (twin-stepped pair users t g run) there,
      )
      (there, may.1) tt

  restart-ready : (g : GroupNumber) (s : ℕ) (b : Bool) → takes_part g s t ≡ b
      → AreReady (setting_of pair g) users (run_of g t)
      (only b (events.Restart (place_in g s t) ∷ []))
  restart-ready g s false part = nothing
  restart-ready g s true part =
      let there = there-of g s t part in
      single (events.Restart (place_in g s t)) None
      (low-place (setting_of pair g) users (run_of g t) (place_in g s t)
      (twin-stepped pair users t g run) there) there tt

  adopt-ready : (s : ℕ) → MayComeTwin users t (twins.Adopt s) → (o : Option Profile)
      → slice_get (stations (run_of First t)) s ≡ o
      → AreReady pair.second users (run_of Second t) (option_to_list (option_map start_of o))
  adopt-ready s may None at = nothing
  adopt-ready s may (Some p) at =
      let j = joined-run pair users t run in
      single (start_of p) None
      (typed-at (stations (run_of First t)) s p
      (all-typed pair.first users (run_of First t) (twin-stepped pair users t First run)) at)
      (new-there (stations (run_of First t)) (stations (run_of Second t)) (adopters t) s p j.joined
      j.names j.scis at may.1) tt

  send-ready : (g : GroupNumber) (s user : ℕ) → takes_part g s t ≡ true
      → IsSendable (user_at users user) → user < 2 ^ 32 → (b : Bool)
      → (claimed_in pair g s t == 0) ≡ b
      → AreReady (setting_of pair g) users (run_of g t)
      (cond b (events.Claim (place_in g s t) user (claimed_in pair g s t) ∷ [])
      (events.Emit ∷ events.Claim (place_in g s t) user (claimed_in pair g s t) ∷ []))
  send-ready g s user part sendable typed b none = go b none
    where
      settings : Settings
      settings = setting_of pair g

      r : Run
      r = run_of g t

      place : ℕ
      place = place_in g s t

      there : Exists (place_in g s t) (run_of g t)
      there = there-of g s t part

      fits : IsTyped (events.Claim (place_in g s t) user (claimed_in pair g s t))
      fits = (
        low-place (setting_of pair g) users (run_of g t) (place_in g s t)
            (twin-stepped pair users t g run) there,
        typed,
        low-claim (nat_lt last_number (next_in pair g s t)) (next_in pair g s t)
            (next-within pair users t g s run),
      )

      may : Exists (place_in g s t) (run_of g t)
          × IsSendable (user_at users user)
          × IsDemanded (setting_of pair g) (place_in g s t) (run_of g t) (claimed_in pair g s t)
          (user_at users user) (user_at users user)
          (transmitting_at (setting_of pair g) (place_in g s t) (run_of g t))
      may = (
        there,
        sendable,
        demands (setting_of pair g) (place_in g s t) (run_of g t)
            (transmitting_at (setting_of pair g) (place_in g s t) (run_of g t))
            (user_at users user) (next-within pair users t g s run),
      )

      go : (b : Bool) → (claimed_in pair g s t == 0) ≡ b
          → AreReady (setting_of pair g) users (run_of g t)
          (cond b (events.Claim (place_in g s t) user (claimed_in pair g s t) ∷ [])
          (events.Emit ∷ events.Claim (place_in g s t) user (claimed_in pair g s t) ∷ []))
      go true none =
          single (events.Claim (place_in g s t) user (claimed_in pair g s t))
          (user_at users user) fits may tt
      go false some =
          sending (place_in g s t) user (claimed_in pair g s t) (user_at users user) fits may some
          (in-turn (setting_of pair g) users (run_of g t) (twin-stepped pair users t g run))

  pub ready : (g : GroupNumber) (e : TwinEvent) → MayComeTwin users t e → IsTypedTwin e
      → AreReady (setting_of pair g) users (run_of g t) (events_in pair g t e)
  ready First (twins.Start name sci priority) may typed =
      single (events.Start name sci priority) None typed may tt
  ready Second (twins.Start name sci priority) may typed = nothing
  ready First (twins.Adopt station) may typed = nothing
  ready Second (twins.Adopt station) may typed =
      adopt-ready station may (slice_get (stations (run_of First t)) station) refl
  ready g (twins.Leave station group) may typed = nothing
  ready First (twins.Tick station First) may typed = tick-ready First station may
  ready Second (twins.Tick station Second) may typed = tick-ready Second station may
  ready First (twins.Tick station Second) may typed = nothing
  ready Second (twins.Tick station First) may typed = nothing
  ready First (twins.Deliver First frame station) may typed =
      deliver-ready First frame station may typed
  ready Second (twins.Deliver Second frame station) may typed =
      deliver-ready Second frame station may typed
  ready First (twins.Deliver Second frame station) may typed = nothing
  ready Second (twins.Deliver First frame station) may typed = nothing
  ready g (twins.Restart station) may typed =
      restart-ready g station (takes_part g station t) refl
  ready g (twins.Send station user) may typed = sent (carrier pair station t) refl
    where
      sent : (h : GroupNumber) → carrier pair station t ≡ h
          → AreReady (setting_of pair g) users (run_of g t)
          (only (same_group h g)
          (sent_as (place_in g station t) user (claimed_in pair g station t)))
      sent h is = by h g (subst (λ k. takes_part k station t ≡ true) is (carries pair station t may.0))
        where
          by : (h g : GroupNumber) → takes_part h station t ≡ true
              → AreReady (setting_of pair g) users (run_of g t)
              (only (same_group h g)
              (sent_as (place_in g station t) user (claimed_in pair g station t)))
          by First First part =
              send-ready First station user part may.1 typed
              (claimed_in pair First station t == 0) refl
          by Second Second part =
              send-ready Second station user part may.1 typed
              (claimed_in pair Second station t == 0) refl
          by First Second part = nothing
          by Second First part = nothing
