-- The SCIs that a group has are those of its run's stations.
use Rattle.std.proofs.Common.{◌≡◌, ◌∙◌, ℕ, suc, Bool, List, [], ◌∷◌, map, Option, Some, None, refl, ap}
use Rattle.std.specs.Prelude.{◌||◌, slice_get}
use Rattle.std.specs.List.{list_any}
use Rattle.lan_base.specs.declared.address.Sci.{Sci}
use Rattle.lan_base.specs.declared.frame.UserFrame.{UserFrame}
use Rattle.rx_slots.specs.Histories.{Receiving}
use Rattle.mka_station.specs.Lives.{Setup}
use Rattle.lan_core.specs.declared.settings.Settings.{Settings}
use Rattle.lan_core.specs.Run.{Run, Profile, stations}
use Rattle.lan_core.specs.Lives.{Life}
use Rattle.lan_core.specs.Standing.{Seat, State, StandsFor, IsSeated, scis_in}

-- a seat and a profile have one SCI, or neither is there
abbrev HaveOneSci : Option Seat → Option Profile → Type 0
HaveOneSci (Some seat) (Some p) = seat.station.setup.sci ≡ p.sci
HaveOneSci None None = Unit {0}
HaveOneSci _ _ = ⊥

seated-sci : (settings : Settings) (h : List Receiving) (count : ℕ) (a : Option Seat) (b : Option Life)
    (c : Option Profile) → IsSeated settings h count a b c → HaveOneSci a c
seated-sci settings h count None None None seated = tt
seated-sci settings h count None None (Some p) seated = absurd seated
seated-sci settings h count None (Some l) None seated = absurd seated
seated-sci settings h count None (Some l) (Some p) seated = absurd seated
seated-sci settings h count (Some seat) None None seated = absurd seated
seated-sci settings h count (Some seat) None (Some p) seated = absurd seated
seated-sci settings h count (Some seat) (Some l) None seated = absurd seated
seated-sci settings h count (Some seat) (Some l) (Some p) seated =
    ap (λ (setup : Setup). setup.sci) seated.0.station.setup
    ∙ ap (λ (setup : Setup). setup.sci) seated.1

by-place : (seats : List Seat) (ps : List Profile)
    → ((s : ℕ) → HaveOneSci (slice_get seats s) (slice_get ps s))
    → map (λ (seat : Seat). seat.station.setup.sci) seats ≡ map (λ (p : Profile). p.sci) ps
by-place [] [] same = refl
by-place [] (p ∷ ps) same = absurd (same 0)
by-place (seat ∷ seats) [] same = absurd (same 0)
by-place (seat ∷ seats) (p ∷ ps) same =
    let e : seat.station.setup.sci ≡ p.sci = same 0 in
    let later = by-place seats ps (λ s. same (suc s)) in
    cc (e, later)

pub same-scis : (settings : Settings) (users : List UserFrame) (lan : State) (r : Run)
    → StandsFor settings users lan r → scis_in lan ≡ map (λ (p : Profile). p.sci) (stations r)
same-scis settings users lan r stands =
    by-place lan.seats (stations r) (λ s. seated-sci settings _ _ _ _ _ (stands.seats s))

pub any-sci : (f : List ℕ → Bool) (seats : List Seat)
    → list_any (λ (seat : Seat). f seat.station.setup.sci.0) seats
    ≡ list_any (λ (sci : Sci). f sci.0) (map (λ (seat : Seat). seat.station.setup.sci) seats)
any-sci f [] = refl
any-sci f (seat ∷ seats) = ap (λ (b : Bool). f seat.station.setup.sci.0 || b) (any-sci f seats)
