-- A group after an event at one of its stations.
use Rattle.std.proofs.Common.{◌≡◌, ◌≢◌, ◌+◌, ◌-◌, ℕ, Bool, true, false, cond, List, [], ◌∷◌, ◌++◌, length}
use Rattle.std.proofs.Common.{Option, Some, None, refl, arith}
use Rattle.std.specs.Prelude.{◌==◌, option_map, slice_get}
use Rattle.std.specs.List.{find}
use Rattle.std.proofs.lemmas.Bool.{eqb-true, eqb-false, ne_eqb}
use Rattle.lan_base.specs.declared.frame.UserFrame.{UserFrame}
use Rattle.lan_core.specs.declared.settings.Settings.{Settings}
use Rattle.lan_core.specs.Run.{Run, Happening, Profile, started, stations}
use Rattle.lan_core.specs.Ledgers.{Frame, air, emitted, installs, installs_at, AreNumbered}
use Rattle.lan_core.specs.Lives.{Life, life, receiving, reaches, setup_of}
use Rattle.lan_core.specs.Claims.{claimed_by}
use Rattle.lan_core.specs.Order.{ticks}
use Rattle.lan_core.specs.Stops.{passed}
use Rattle.lan_core.specs.Standing.{Seat, State, StandsFor, IsSeated, Numbers, AreDrawn, in_order, octets_at}
use Rattle.lan_core.specs.inside.Seats.{IsMoved, installs_in}
use Rattle.lan_core.proofs.ListPlaces.{last-here, before-last}
use Rattle.lan_core.proofs.OwnLedgers.{AreOf, installs-of-own}
use Rattle.lan_core.proofs.LimitsPassed.{within-where}
use Rattle.lan_core.proofs.CarriedOver.{no-station, other-seats, others-installs, others-slots, still, order-length}

pub same-place : (s : ℕ) → (s == s) ≡ true
same-place s = grind arith

-- what an event at a station is, besides what it shows
pub record IsQuiet (settings : Settings) (r : Run) (s : ℕ) (x : Happening) : Type 0 where
  pub starts : started x.event ≡ []
  pub claims : claimed_by settings r x.event ≡ []
  pub reaching : (t : ℕ) → t ≢ s → reaches t r x.event ≡ None
  pub others : (t : ℕ) → t ≢ s → life settings t (x ∷ r) ≡ life settings t r
  pub facts : AreOf s x.facts
  pub emits : emitted (x ∷ r) ≡ emitted r
  pub numbers : AreNumbered (air (x ∷ r))

-- how the station goes on
pub record GoesOnAs (settings : Settings) (r : Run) (s : ℕ) (x : Happening) (p : Profile) (l : Life)
    (old new : List Seat) (count : ℕ) : Type 0 where
  pub profile : slice_get (stations r) s ≡ Some p
  pub lives : life settings s (x ∷ r) ≡ Some l
  pub setup : l.member.setup ≡ setup_of settings p
  pub moved : IsMoved settings.window l (receiving s (x ∷ r)) s old new count
  pub counted : count ≡ length (installs_at s (x ∷ r))

pub seated-after : (settings : Settings) (r : Run) (s : ℕ) (x : Happening) (p : Profile) (l : Life)
    (old new : List Seat) (count : ℕ) → stations (x ∷ r) ≡ stations r → GoesOnAs settings r s x p l old new count
    → IsSeated settings (receiving s (x ∷ r)) (length (installs_at s (x ∷ r))) (slice_get new s)
    (life settings s (x ∷ r)) (slice_get (stations (x ∷ r)) s)
seated-after settings r s x p l old new count same on =
    rw (same, on.moved.there, on.lives, on.profile)
    (on.moved.sits, on.setup, cc (on.moved.installs, on.counted))

pub stands-after : (settings : Settings) (users : List UserFrame) (r : Run) (lan : State)
    → StandsFor settings users lan r → (s : ℕ) (x : Happening) → IsQuiet settings r s x
    → (p : Profile) (l : Life) (seats : List Seat) (count : ℕ) → GoesOnAs settings r s x p l lan.seats seats count
    → (frames : List (List ℕ)) → frames ≡ in_order (air (x ∷ r))
    → (past : ℕ) → past ≡ ticks (x ∷ r) → (drawn : Numbers) → AreDrawn settings.suite (x ∷ r) drawn
    → passed (x ∷ r) ≡ None
    → StandsFor settings users (record lan { air = frames; seats = seats; ticks = past; drawn = drawn }) (x ∷ r)
stands-after settings users r lan stands s x quiet p l seats count on frames put past ticked drawn are within =
    let same = no-station x r quiet.starts in
    let waits = still settings users x r lan.waiting same quiet.claims quiet.emits stands.waiting stands.in_turn in
    record {
      set_up = stands.set_up;
      setting = stands.setting;
      goes = stands.goes;
      names = rw same stands.names;
      on_air = put;
      numbered = quiet.numbers;
      seats = other-seats settings x r s lan.seats seats stands.seats same on.moved.others quiet.others
          (others-slots x r s quiet.facts quiet.reaching) (others-installs x r s quiet.facts)
          (seated-after settings r s x p l lan.seats seats count same on);
      waiting = waits.waits;
      in_turn = waits.in_turn;
      ticked = ticked;
      drawn = are;
      within = within-where (x ∷ r) within;
    }

-- installs are counted on
pub counted-on : (r : Run) (s : ℕ) (x : Happening) → AreOf s x.facts → (before count : ℕ)
    → before ≡ length (installs_at s r) → count ≡ before + installs_in x.facts
    → count ≡ length (installs_at s (x ∷ r))
unfolding installs
counted-on r s x are before count was more =
    let own = installs-of-own s x.facts are (installs r) in
    omega (arith, own, was, more)

-- ---- frames by their numbers

none_either : {A : Type 0} (b : Bool) (o : Option A) → o ≡ None → cond b None o ≡ None
none_either true o is = refl
none_either false o is = is

pub frame-of : (fs : List Frame) (n : ℕ) → AreNumbered fs
    → octets_at (in_order fs) n ≡ option_map (λ f. f.octets) (find (λ f. f.number == n) fs)
frame-of [] n are = none_either (n == 0) (slice_get [] (n - 1)) refl
frame-of (f ∷ fs) n (is, are) = go (f.number == n) refl (frame-of fs n are)
  where
    there : n ≡ length fs + 1
        → octets_at (in_order fs ++ f.octets ∷ []) n ≡ Some f.octets
    there here =
        let count = order-length fs in
        let some : (n == 0) ≡ false = ne_eqb n 0 (λ none. omega (arith, here, none)) in
        let at : n - 1 ≡ length (in_order fs) = omega (arith, here, count) in
        rw (some, at) (last-here (in_order fs) f.octets)

    elsewhere : n ≢ length fs + 1
        → octets_at (in_order fs ++ f.octets ∷ []) n ≡ octets_at (in_order fs) n
    elsewhere differ = pick (n == 0) refl
      where
        pick : (b : Bool) → (n == 0) ≡ b
            → cond b None (slice_get (in_order fs ++ f.octets ∷ []) (n - 1))
            ≡ cond b None (slice_get (in_order fs) (n - 1))
        pick true none = refl
        pick false some =
            let count = order-length fs in
            let more = eqb-false n 0 some in
            before-last (in_order fs) f.octets (n - 1) (λ same. differ (omega (arith, same, count, more)))

    go : (b : Bool) → (f.number == n) ≡ b
        → octets_at (in_order fs) n ≡ option_map (λ f. f.octets) (find (λ f. f.number == n) fs)
        → octets_at (in_order (f ∷ fs)) n
        ≡ option_map (λ f. f.octets) (cond b (Some f) (find (λ f. f.number == n) fs))
    go true same before =
        let here : n ≡ length fs + 1 = cc (eqb-true f.number n same, is) in there here
    go false differ before =
        let not = eqb-false f.number n differ in
        cc (elsewhere (λ here. not (cc (is, here))), before)
