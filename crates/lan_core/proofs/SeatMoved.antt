-- A seat among seats that an event moves on.
use Rattle.std.proofs.Common.{◌≡◌, ◌+◌, ◌⊎◌, ℕ, Bool, true, List, Some, Result, Err, inl, inr, refl, ap, sym, subst}
use Rattle.std.specs.Prelude.{slice_get, set, get_or}
use Rattle.std.proofs.lemmas.Option.{get_or_from_slice_get}
use Rattle.mka_station.specs.declared.tick_error.TickError.{TickError}
use Rattle.mka_station.specs.declared.tick_error.TickError.TheVariants as faults
use Rattle.rx_slots.specs.Histories.{Receiving}
use Rattle.lan_core.specs.declared.fact.Fact.{Fact}
use Rattle.lan_core.specs.Ledgers.{gather}
use Rattle.lan_core.specs.Lives.{Life, slot_change}
use Rattle.lan_core.specs.Standing.{Seat, Sits}
use Rattle.lan_core.specs.inside.Seats.{IsMoved}
use Rattle.lan_core.proofs.ListPlaces.{set-here, set-others}

-- a seat that a reference to a place gives is the one that stands there
pub same-seat : (s : ℕ) (old xs : List Seat) (seat given : Seat) → xs ≡ old → slice_get old s ≡ Some seat
    → given ≡ get_or xs s given → seat ≡ given
same-seat s old xs seat given same there is =
    let found : slice_get xs s ≡ Some seat = subst (λ ys. slice_get ys s ≡ Some seat) (sym same) there in
    let got = get_or_from_slice_get xs s seat given found in
    cc (is, got)

pub more-installs : (seat given new : Seat) (count more : ℕ) → seat ≡ given → count ≡ new.installs
    → new.installs ≡ given.installs + more → count ≡ seat.installs + more
more-installs seat given new count more same is rises = rw (ap (λ s. s.installs) same) (cc (is, rises))

-- why a tick is refused
pub refused-tick : (fault : TickError) (result : Result (List Fact) TickError) (short : Bool)
    → result ≡ Err fault → (result ≡ Err faults.DrawsSpent → short ≡ true)
    → (fault ≡ faults.Memory) ⊎ ((fault ≡ faults.DrawsSpent) × (short ≡ true))
refused-tick faults.DrawsSpent result short is spent = inr (refl, spent is)
refused-tick faults.Memory result short is spent = inl refl

-- so it sits as that one does
pub is-the-seat : (window : ℕ) (l : Life) (h : List Receiving) (s : ℕ) (old xs : List Seat) (seat given : Seat)
    → xs ≡ old → slice_get old s ≡ Some seat → given ≡ get_or xs s given → Sits window l h seat
    → Sits window l h given
is-the-seat window l h s old xs seat given same there is sits =
    let found : slice_get xs s ≡ Some seat = subst (λ ys. slice_get ys s ≡ Some seat) (sym same) there in
    let got = get_or_from_slice_get xs s seat given found in
    let equal : seat ≡ given = cc (is, got) in
    subst (λ g. Sits window l h g) equal sits

pub moves : (window : ℕ) (l : Life) (before : List Receiving) (s : ℕ) (old xs : List Seat) (seat new : Seat)
    (count : ℕ) (shown want : List Fact) → xs ≡ old → slice_get old s ≡ Some seat → shown ≡ want
    → Sits window l (gather (slot_change s) want before) new → count ≡ new.installs
    → IsMoved window l (gather (slot_change s) shown before) s old (set xs s new) count
moves window l before s old xs seat new count shown want same there is sits counted =
    let found : slice_get xs s ≡ Some seat = subst (λ ys. slice_get ys s ≡ Some seat) (sym same) there in
    record {
      seat = new;
      there = set-here xs s seat new found;
      others = λ t differ.
          subst (λ ys. slice_get (set xs s new) t ≡ slice_get ys t) same (set-others xs s t new differ);
      sits = subst (λ fs. Sits window l (gather (slot_change s) fs before) new) (sym is) sits;
      installs = sym counted;
    }
