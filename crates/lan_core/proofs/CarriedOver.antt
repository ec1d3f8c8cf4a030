-- What a group stands for, carried over one more event.
use Rattle.std.proofs.Common.{◌≡◌, ◌≢◌, ◌≤◌, ℕ, Bool, true, false, List, [], ◌∷◌, length, map, drop}
use Rattle.std.proofs.Common.{Option, Some, None, refl, sym, subst, arith}
use Rattle.std.specs.Prelude.{◌==◌, option_map, slice_get, sum, unwrap_or}
use Rattle.std.proofs.lemmas.Bool.{eqb-true, eqb-false}
use Rattle.std.proofs.lemmas.List.{append-nil, length-append, map-append}
use Rattle.std.proofs.lemmas.Grind.{common_steps}
use Rattle.lan_base.specs.declared.association_number.AssociationNumber.{AssociationNumber}
use Rattle.lan_base.specs.declared.frame.UserFrame.{UserFrame}
use Rattle.lan_base.specs.declared.suite.Suite.{Suite}
use Rattle.rx_slots.specs.Histories.{Receiving}
use Rattle.sak_exchange.specs.declared.held_key.HeldKey.{HeldKey}
use Rattle.sak_exchange.specs.declared.held_key.Key.{Key}
use Rattle.sak_exchange.specs.Histories.{Keying}
use Rattle.sak_exchange.specs.Held.{held}
use Rattle.lan_core.specs.declared.event.Event.{Event}
use Rattle.lan_core.specs.declared.fact.Fact.{Fact}
use Rattle.lan_core.specs.declared.settings.Settings.{Settings}
use Rattle.lan_core.specs.declared.waiting.Sealed.{Sealed}
use Rattle.lan_core.specs.Run.{Run, Happening, Profile, started, stations}
use Rattle.lan_core.specs.Ledgers.{Frame, emitted, installs, installs_at}
use Rattle.lan_core.specs.Lives.{Life, life, receiving, drawn_mi, reaches}
use Rattle.lan_core.specs.Claims.{Waiting, claimed, claimed_by}
use Rattle.lan_core.specs.Expected.{expected, drawn_from}
use Rattle.lan_core.specs.Stops.{draws_needed, is_spent, first_stop, stop_at, draws_in, mi_number, sak_number, sak_of_tick}
use Rattle.lan_core.specs.Standing.{Seat, Sits, IsSeated, Numbers, AreDrawn, in_order, sealed_of}
use Rattle.lan_core.proofs.OwnLedgers.{AreOf, installs-of-others, slots-of-others}

-- ---- stops

pub meets : (settings : Settings) (users : List UserFrame) (r : Run) (e : Event) (nth : ℕ → Option (List ℕ))
    (shown : List Fact) → is_spent (draws_needed settings r e) nth ≡ false
    → expected settings users r e (drawn_from settings.suite nth) ≡ Some shown
    → first_stop settings users r e nth ≡ stop_at settings r e shown
unfolding first_stop
meets settings users r e nth shown enough shows = rw (enough, shows) refl

-- ---- stations

pub no-station : (x : Happening) (r : Run) → started x.event ≡ [] → stations (x ∷ r) ≡ stations r
unfolding stations
no-station x r none = rw none (append-nil (stations r))

-- ---- seats

-- the seats of the other stations stay
pub other-seats : (settings : Settings) (x : Happening) (r : Run) (s : ℕ) (old new : List Seat)
    → ((t : ℕ) → IsSeated settings (receiving t r) (length (installs_at t r)) (slice_get old t) (life settings t r)
    (slice_get (stations r) t))
    → stations (x ∷ r) ≡ stations r
    → ((t : ℕ) → t ≢ s → slice_get new t ≡ slice_get old t)
    → ((t : ℕ) → t ≢ s → life settings t (x ∷ r) ≡ life settings t r)
    → ((t : ℕ) → t ≢ s → receiving t (x ∷ r) ≡ receiving t r)
    → ((t : ℕ) → t ≢ s → installs_at t (x ∷ r) ≡ installs_at t r)
    → IsSeated settings (receiving s (x ∷ r)) (length (installs_at s (x ∷ r))) (slice_get new s)
    (life settings s (x ∷ r)) (slice_get (stations (x ∷ r)) s)
    → (t : ℕ) → IsSeated settings (receiving t (x ∷ r)) (length (installs_at t (x ∷ r))) (slice_get new t)
    (life settings t (x ∷ r)) (slice_get (stations (x ∷ r)) t)
other-seats settings x r s old new seats same places lives slots counts own t = go (t == s) refl
  where
    go : (b : Bool) → (t == s) ≡ b
        → IsSeated settings (receiving t (x ∷ r)) (length (installs_at t (x ∷ r))) (slice_get new t)
        (life settings t (x ∷ r)) (slice_get (stations (x ∷ r)) t)
    go true here =
        subst (λ t. IsSeated settings (receiving t (x ∷ r)) (length (installs_at t (x ∷ r))) (slice_get new t)
        (life settings t (x ∷ r)) (slice_get (stations (x ∷ r)) t)) (sym (eqb-true t s here)) own
    go false differ =
        let other : t ≢ s = eqb-false t s differ in
        rw (same, places t other, lives t other, slots t other, counts t other) (seats t)

-- a place with a profile has a seat and a life
pub record IsThere (settings : Settings) (s : ℕ) (r : Run) (seats : List Seat) (p : Profile) : Type 0 where
  pub seat : Seat
  pub alive : Life
  pub there : slice_get seats s ≡ Some seat
  pub lives : life settings s r ≡ Some alive
  pub seated : IsSeated settings (receiving s r) (length (installs_at s r)) (Some seat) (Some alive) (Some p)

pub is-there : (settings : Settings) (s : ℕ) (r : Run) (seats : List Seat) (p : Profile)
    → IsSeated settings (receiving s r) (length (installs_at s r)) (slice_get seats s) (life settings s r)
    (slice_get (stations r) s) → slice_get (stations r) s ≡ Some p → IsThere settings s r seats p
is-there settings s r seats p seated profile =
    go (slice_get seats s) (life settings s r) refl refl (subst (λ q. IsSeated settings (receiving s r)
    (length (installs_at s r)) (slice_get seats s) (life settings s r) q) profile seated)
  where
    go : (a : Option Seat) (b : Option Life) → slice_get seats s ≡ a → life settings s r ≡ b
        → IsSeated settings (receiving s r) (length (installs_at s r)) a b (Some p)
        → IsThere settings s r seats p
    go (Some seat) (Some alive) there lives seated =
        record { seat = seat; alive = alive; there = there; lives = lives; seated = seated }
    go (Some seat) None there lives seated = absurd seated
    go None (Some alive) there lives seated = absurd seated
    go None None there lives seated = absurd seated

-- ---- what the ledgers of others keep

pub others-installs : (x : Happening) (r : Run) (s : ℕ) → AreOf s x.facts → (t : ℕ) → t ≢ s
    → installs_at t (x ∷ r) ≡ installs_at t r
unfolding installs
others-installs x r s are t differ = installs-of-others t s differ x.facts are (installs r)

pub others-slots : (x : Happening) (r : Run) (s : ℕ) → AreOf s x.facts
    → ((t : ℕ) → t ≢ s → reaches t r x.event ≡ None) → (t : ℕ) → t ≢ s
    → receiving t (x ∷ r) ≡ receiving t r
unfolding receiving
others-slots x r s are silent t differ =
    rw (silent t differ) (slots-of-others t s differ x.facts are (receiving t r))

-- ---- draws

pub draws-none : (suite : Suite) (x : Happening) (r : Run) (n : Numbers) → drawn_mi x.facts ≡ None
    → sak_of_tick x.facts x.event ≡ None → AreDrawn suite r n → AreDrawn suite (x ∷ r) n
unfolding draws_in mi_number sak_number
draws-none suite x r n no_mi no_sak are = record {
  count = rw (no_mi, no_sak) (omega (arith, are.count));
  mis = λ mi. rw no_mi (are.mis mi);
  saks = λ sak. rw no_sak (are.saks sak);
}

-- ---- frames that wait

pub sealed-same : (users : List UserFrame) (q r : Run) → stations q ≡ stations r → (ws : List Waiting)
    → map (sealed_of users q) ws ≡ map (sealed_of users r) ws
sealed-same users q r same [] = refl
sealed-same users q r same (w ∷ ws) = rw (same, sealed-same users q r same ws) refl

-- an event that claims nothing and emits nothing
pub record IsStill (settings : Settings) (users : List UserFrame) (x : Happening) (r : Run) (waiting : List Sealed) :
    Type 0 where
  pub waits : map Some waiting
      ≡ map (sealed_of users (x ∷ r)) (drop (length (emitted (x ∷ r))) (claimed settings (x ∷ r)))
  pub in_turn : length (emitted (x ∷ r)) ≤ length (claimed settings (x ∷ r))

pub still : (settings : Settings) (users : List UserFrame) (x : Happening) (r : Run) (waiting : List Sealed)
    → stations (x ∷ r) ≡ stations r → claimed_by settings r x.event ≡ [] → emitted (x ∷ r) ≡ emitted r
    → map Some waiting ≡ map (sealed_of users r) (drop (length (emitted r)) (claimed settings r))
    → length (emitted r) ≤ length (claimed settings r) → IsStill settings users x r waiting
unfolding claimed
still settings users x r waiting same none quiet waits turn = record {
  waits = rw (
    quiet,
    none,
    append-nil (claimed settings r),
    sealed-same users (x ∷ r) r same (drop (length (emitted r)) (claimed settings r)),
  ) waits;
  in_turn = rw (quiet, none, append-nil (claimed settings r)) turn;
}

-- ---- the air

pub order-length : (fs : List Frame) → length (in_order fs) ≡ length fs
order-length [] = refl
order-length (f ∷ fs) =
    let one = length-append (in_order fs) (f.octets ∷ []) in
    let before = order-length fs in
    omega (arith, one, before)

pub order-sum : (fs : List Frame)
    → sum (map (λ octets. length octets) (in_order fs)) ≡ sum (map (λ f. length f.octets) fs)
order-sum [] = refl
order-sum (f ∷ fs) =
    let before = order-sum fs in
    let parts = map-append (λ octets. length octets) (in_order fs) (f.octets ∷ []) in
    grind (arith, common_steps, before, parts)

-- ---- what is asked of a station, if it is there

pub no-life : (settings : Settings) (h : List Receiving) (count : ℕ) (a : Option Seat) (b : Option Life) (c : Option Profile)
    → IsSeated settings h count a b c → a ≡ None → b ≡ None
no-life settings h count None None None seated none = refl
no-life settings h count None None (Some p) seated none = absurd seated
no-life settings h count None (Some l) None seated none = absurd seated
no-life settings h count None (Some l) (Some p) seated none = absurd seated
no-life settings h count (Some seat) b c seated none = absurd (cc none)

pub its-life : (settings : Settings) (h : List Receiving) (count : ℕ) (a : Option Seat) (b : Option Life) (c : Option Profile)
    (seat : Seat) → IsSeated settings h count a b c → a ≡ Some seat
    → (l : Life) × ((b ≡ Some l) × Sits settings.window l h seat)
its-life settings h count None b c seat seated some = absurd (cc some)
its-life settings h count (Some other) None None seat seated some = absurd seated
its-life settings h count (Some other) None (Some p) seat seated some = absurd seated
its-life settings h count (Some other) (Some l) None seat seated some = absurd seated
its-life settings h count (Some other) (Some l) (Some p) seat seated some =
    (l, (refl, subst (λ o. Sits settings.window l h (unwrap_or o other)) some seated.0))

abbrev pub numbers_of_key : Key → AssociationNumber × ℕ
numbers_of_key k = (k.an, k.epoch)

abbrev pub numbers_of_held : HeldKey → AssociationNumber × ℕ
numbers_of_held h = (h.key.an, h.key.epoch)

pub numbers-held : (h : List Keying) (k : Option Key)
    → option_map numbers_of_held (option_map (held h) k) ≡ option_map numbers_of_key k
numbers-held h None = refl
numbers-held h (Some k) = refl
