-- A station of a group has no more ticks in its life, and no more installs, than there may be.
use Rattle.std.proofs.Common.{◌≡◌, ◌≤◌, ◌+◌, ℕ, Bool, true, false, cond, List, [], ◌∷◌, length}
use Rattle.std.proofs.Common.{Option, Some, None, inl, inr, refl, subst, arith}
use Rattle.std.specs.Prelude.{◌==◌, option_map, option_and_then, slice_get, IsSomeAnd}
use Rattle.lan_base.specs.declared.address.Mi.{Mi}
use Rattle.lan_base.specs.declared.frame.UserFrame.{UserFrame}
use Rattle.aes_block.specs.declared.secret.Secret.{Secret}
use Rattle.gcm_frames.specs.Tags.{is_sec}
use Rattle.peer_lists.specs.Histories.{clock}
use Rattle.mka_station.specs.Hearing.{judged, frame_turn}
use Rattle.mka_station.specs.Lives.{Member, peers_of}
use Rattle.lan_core.specs.declared.event.Event.{Event}
use Rattle.lan_core.specs.declared.event.Event.TheVariants as events
use Rattle.lan_core.specs.declared.fact.Fact.{Fact}
use Rattle.lan_core.specs.declared.settings.Settings.{Settings}
use Rattle.lan_core.specs.Run.{Run, Profile, stations}
use Rattle.lan_core.specs.Ledgers.{installs_at}
use Rattle.lan_core.specs.Lives.{Life, life, life_after, begun, drawn_mi, setup_of, reaches, sak_in}
use Rattle.lan_core.specs.Lives.{lived, lived_reached, lived_ticking, seen_at}
use Rattle.lan_core.specs.Order.{ticks, ticks_of}
use Rattle.lan_core.specs.Standing.{State, StandsFor}
use Rattle.lan_core.specs.inside.Seats.{IsPast}
use Rattle.lan_core.proofs.CarriedOver.{IsThere}
use Rattle.lan_core.proofs.SlotsFollow.{heard-clock, tick-clock}

-- how many ticks a life has
abbrev clock_of : Option Life → ℕ
clock_of None = 0
clock_of (Some l) = clock (peers_of l.member l.past)

none-yet : (m : Member) → clock (peers_of m []) ≡ 0
unfolding peers_of
none-yet m = refl

begun-none : (settings : Settings) (s : ℕ) (r : Run) (shown : List Fact) (p : Profile)
    → clock_of (begun settings s r shown p) ≡ 0
begun-none settings s r shown p = go (drawn_mi shown)
  where
    go : (o : Option Mi) → clock_of (option_map (λ mi. record {
      member = record { setup = setup_of settings p; mi = mi; base = length (installs_at s r) };
      past = [];
    }) o) ≡ 0
    go None = refl
    go (Some mi) = none-yet (record { setup = setup_of settings p; mi = mi; base = length (installs_at s r) })

begun-again : (settings : Settings) (s : ℕ) (r : Run) (shown : List Fact) (o : Option Profile)
    → clock_of (option_and_then (begun settings s r shown) o) ≡ 0
begun-again settings s r shown None = refl
begun-again settings s r shown (Some p) = begun-none settings s r shown p

reached-same : (l : Option Life) (o : Option (List ℕ)) → clock_of (lived_reached l o) ≡ clock_of l
reached-same l None = refl
reached-same None (Some octets) = refl
reached-same (Some l) (Some octets) = go (is_sec octets)
  where
    go : (b : Bool) → clock_of (Some (cond b l (lived l (frame_turn l.member octets l.past)))) ≡ clock_of (Some l)
    go true = refl
    go false = heard-clock l.member (judged l.member.setup octets) l.past

ticked-once : (settings : Settings) (s : ℕ) (r : Run) (next : ℕ) (sak : Secret) (l : Option Life)
    → clock_of (option_map (lived_ticking settings s r next sak) l) ≤ clock_of l + 1
ticked-once settings s r next sak None = omega arith
ticked-once settings s r next sak (Some l) =
    let one = tick-clock l.member (seen_at settings s r l next) sak l.past in omega (arith, one)

clock-after : (settings : Settings) (s : ℕ) (r : Run) (shown : List Fact) (e : Event) (l : Option Life) (n : ℕ)
    → clock_of l ≤ n → clock_of (life_after settings s r shown e l) ≤ ticks_of e + n
clock-after settings s r shown (events.Start name sci priority) l n few = go (length (stations r) == s)
  where
    p : Profile
    p = record { name = name; sci = sci; priority = priority }

    go : (b : Bool) → clock_of (cond b (begun settings s r shown p) l) ≤ 0 + n
    go true = let none = begun-none settings s r shown p in omega (arith, none)
    go false = omega (arith, few)
clock-after settings s r shown (events.Tick station next) l n few = go (station == s)
  where
    go : (b : Bool) → clock_of (cond b (option_map (lived_ticking settings s r next (sak_in shown)) l) l) ≤ 1 + n
    go true = let one = ticked-once settings s r next (sak_in shown) l in omega (arith, few, one)
    go false = omega (arith, few)
clock-after settings s r shown (events.Deliver frame station) l n few =
    let same = reached-same l (reaches s r (events.Deliver frame station)) in omega (arith, few, same)
clock-after settings s r shown (events.Restart station) l n few = go (station == s)
  where
    go : (b : Bool) → clock_of (cond b (option_and_then (begun settings s r shown) (slice_get (stations r) s)) l) ≤ 0 + n
    go true = let none = begun-again settings s r shown (slice_get (stations r) s) in omega (arith, none)
    go false = omega (arith, few)
clock-after settings s r shown (events.Claim station user pn) l n few = omega (arith, few)
clock-after settings s r shown events.Emit l n few = omega (arith, few)
clock-after settings s r shown (events.Inject station octets) l n few =
    let same = reached-same l (reaches s r (events.Inject station octets)) in omega (arith, few, same)

-- no life has more ticks than the run
clocks-few : (settings : Settings) (s : ℕ) (r : Run) → clock_of (life settings s r) ≤ ticks r
unfolding life
clocks-few settings s [] = omega arith
clocks-few settings s (x ∷ r) =
    clock-after settings s r x.facts x.event (life settings s r) (ticks r) (clocks-few settings s r)

pub never-past : (settings : Settings) (users : List UserFrame) (r : Run) (lan : State)
    → StandsFor settings users lan r → (s : ℕ) (p : Profile) (there : IsThere settings s r lan.seats p)
    → IsSomeAnd (slice_get lan.seats s) IsPast → ⊥
never-past settings users r lan stands s p there past =
    by (subst (λ o. IsSomeAnd o IsPast) there.there past)
  where
    by : IsPast there.seat → ⊥
    by (inl many) =
        let clocked = subst (λ (o : Option Life). clock_of o ≤ ticks r) there.lives (clocks-few settings s r) in
        let counted = there.seated.0.ticks in
        let few = stands.within.ticks in
        omega (arith, many, clocked, counted, few)
    by (inr many) =
        let counted = there.seated.2 in
        let few = stands.within.installs s in
        omega (arith, many, counted, few)
