-- A station of a group begins its first life.
use Rattle.std.proofs.Common.{◌≡◌, ◌≢◌, ◌<◌, ◌≤◌, ◌+◌, ℕ, Bool, suc, true, false, cond, List, [], ◌∷◌, ◌++◌, length, map, drop}
use Rattle.std.proofs.Common.{Option, Some, None, refl, ap, sym, subst, arith}
use Rattle.std.specs.Prelude.{◌==◌, option_map, option_and_then, slice_get, sum, nat_lt, is_some}
use Rattle.std.specs.Option.{option_or}
use Rattle.std.proofs.lemmas.Bool.{eqb-true, eqb-false, le-ltb, lt-ltb}
use Rattle.std.proofs.lemmas.List.{append-nil, length-append, length-map, map-append}
use Rattle.lan_base.specs.declared.address.Mi.{Mi}
use Rattle.lan_base.specs.declared.address.Sci.{Sci}
use Rattle.lan_base.specs.declared.name.Name.{Name}
use Rattle.lan_base.specs.declared.frame.UserFrame.{UserFrame}
use Rattle.rx_slots.specs.Histories.{Receiving}
use Rattle.mka_station.specs.Lives.{keys_of}
use Rattle.mka_station.specs.Standing.{drawn_mi as mi_of_draw, born}
use Rattle.lan_core.specs.declared.event.Event.TheVariants as events
use Rattle.lan_core.specs.declared.fact.Fact.{Fact}
use Rattle.lan_core.specs.declared.fact.Fact.TheVariants as facts
use Rattle.lan_core.specs.declared.settings.Settings.{Settings}
use Rattle.lan_core.specs.declared.stop.Stop.TheVariants.{Limit}
use Rattle.lan_core.specs.declared.stop.Which.TheVariants.{Stations}
use Rattle.lan_core.specs.declared.waiting.Sealed.{Sealed}
use Rattle.lan_core.specs.Run.{Run, Happening, happened, Profile, stations}
use Rattle.lan_core.specs.Ledgers.{air, emitted, installs, installs_at}
use Rattle.lan_core.specs.Lives.{Life, life, receiving, setup_of}
use Rattle.lan_core.specs.Claims.{Waiting, claimed, frame_by, user_at}
use Rattle.lan_core.specs.Expected.{expected, drawn_from}
use Rattle.lan_base.specs.Ranges.{most_ticks, most_frames}
use Rattle.lan_core.specs.Order.{ticks, IsWithin, most_stations, most_octets, most_installs}
use Rattle.lan_core.specs.Stops.{first_stop, passed, is_over_installs}
use Rattle.lan_core.specs.Standing.{Seat, Sits, State, StandsFor, IsSeated, Numbers, number_of_mi, sealed_of}
use Rattle.lan_core.specs.Answers.{GoesOn}
use Rattle.lan_core.specs.Noting.{MiIsNoted}
use Rattle.lan_core.specs.inside.Drawing.{stop_of}
use Rattle.lan_core.specs.inside.Limits.{passed_by}
use Rattle.lan_core.proofs.ListPlaces.{last-here, before-last, stays}
use Rattle.lan_core.proofs.LimitsPassed.{none-over, passed-is, within-where}
use Rattle.lan_core.proofs.CarriedOver.{meets}
use Rattle.lan_core.proofs.RestartGoesOn.{mi-noted, mi-stop, or-nothing}

abbrev pub starting : Name → Sci → ℕ → Run → Mi → Happening
starting name sci priority r mi = happened (events.Start name sci priority) (facts.Life (length (stations r)) mi ∷ [])

abbrev pub profile_of : Name → Sci → ℕ → Profile
profile_of name sci priority = record { name = name; sci = sci; priority = priority }

-- ---- frames that wait are those of stations that stay

sealed-stays : (users : List UserFrame) (q r : Run) (p : Profile) → stations q ≡ stations r ++ p ∷ [] → (w : Waiting) (z : Sealed)
    → Some z ≡ sealed_of users r w → Some z ≡ sealed_of users q w
sealed-stays users q r p more w z is = go (slice_get (stations r) w.station) refl is
  where
    go : (o : Option Profile) → slice_get (stations r) w.station ≡ o
        → Some z ≡ option_map (λ octets. record { station = w.station; octets = octets })
        (option_and_then (λ p. option_map (frame_by w p) (user_at users w.user)) o)
        → Some z ≡ sealed_of users q w
    go None none is = absurd (cc is)
    go (Some of) some is =
        let there : slice_get (stations q) w.station ≡ Some of = rw more (stays (stations r) (p ∷ []) w.station of some) in
        rw there is

sealed-stay : (users : List UserFrame) (q r : Run) (p : Profile) → stations q ≡ stations r ++ p ∷ [] → (zs : List Sealed) (ws : List Waiting)
    → map Some zs ≡ map (sealed_of users r) ws → map Some zs ≡ map (sealed_of users q) ws
sealed-stay users q r p more [] [] is = refl
sealed-stay users q r p more [] (w ∷ ws) is = absurd (cc is)
sealed-stay users q r p more (z ∷ zs) [] is = absurd (cc is)
sealed-stay users q r p more (z ∷ zs) (w ∷ ws) is =
    let first : Some z ≡ sealed_of users r w = cc is in
    let rest : map Some zs ≡ map (sealed_of users r) ws = cc is in
    cc (sealed-stays users q r p more w z first, sealed-stay users q r p more zs ws rest)

-- ---- seats

same-count : {A B : Type 0} (xs : List A) (ys : List B) → ((s : ℕ) → is_some (slice_get xs s) ≡ is_some (slice_get ys s))
    → length xs ≡ length ys
same-count [] [] same = refl
same-count [] (y ∷ ys) same = absurd (cc (same 0))
same-count (x ∷ xs) [] same = absurd (cc (same 0))
same-count (x ∷ xs) (y ∷ ys) same = ap suc (same-count xs ys (λ s. same (suc s)))

past-end : {A : Type 0} (xs : List A) → slice_get xs (length xs) ≡ None
past-end [] = refl
past-end (x ∷ xs) = past-end xs

both-there : (settings : Settings) (h : List Receiving) (count : ℕ) (a : Option Seat) (b : Option Life) (c : Option Profile)
    → IsSeated settings h count a b c → is_some a ≡ is_some c
both-there settings h count (Some a) (Some b) (Some c) seated = refl
both-there settings h count (Some a) (Some b) None seated = absurd seated
both-there settings h count (Some a) None c seated = absurd seated
both-there settings h count None (Some b) c seated = absurd seated
both-there settings h count None None (Some c) seated = absurd seated
both-there settings h count None None None seated = refl

none-there : (settings : Settings) (h : List Receiving) (count : ℕ) (a : Option Seat) (b : Option Life) (c : Option Profile)
    → IsSeated settings h count a b c → c ≡ None → (h ≡ []) × (count ≡ 0)
none-there settings h count (Some a) (Some b) (Some c) seated is = absurd (cc is)
none-there settings h count (Some a) (Some b) None seated is = absurd seated
none-there settings h count (Some a) None c seated is = absurd seated
none-there settings h count None (Some b) c seated is = absurd seated
none-there settings h count None None (Some c) seated is = absurd seated
none-there settings h count None None None seated is = seated

seat-count : (settings : Settings) (users : List UserFrame) (r : Run) (lan : State) → StandsFor settings users lan r
    → length lan.seats ≡ length (stations r)
seat-count settings users r lan stands =
    same-count lan.seats (stations r) (λ s. both-there settings (receiving s r) (length (installs_at s r)) (slice_get lan.seats s) (life settings s r)
    (slice_get (stations r) s) (stands.seats s))

seats-after : (settings : Settings) (users : List UserFrame) (r : Run) (lan : State) → StandsFor settings users lan r
    → (name : Name) (sci : Sci) (priority : ℕ) (draw : List ℕ) (seat : Seat)
    → Sits settings.window (record { member = born (setup_of settings (profile_of name sci priority)) 0 draw; past = [] }) [] seat
    → (t : ℕ) → let x = starting name sci priority r (mi_of_draw draw) in
    IsSeated settings (receiving t (x ∷ r)) (length (installs_at t (x ∷ r))) (slice_get (lan.seats ++ seat ∷ []) t)
    (life settings t (x ∷ r)) (slice_get (stations (x ∷ r)) t)
unfolding life receiving installs stations keys_of
seats-after settings users r lan stands name sci priority draw seat sits t = go (length (stations r) == t) refl
  where
    go : (b : Bool) → (length (stations r) == t) ≡ b
        → let x = starting name sci priority r (mi_of_draw draw) in
        IsSeated settings (receiving t (x ∷ r)) (length (installs_at t (x ∷ r))) (slice_get (lan.seats ++ seat ∷ []) t)
        (life settings t (x ∷ r)) (slice_get (stations (x ∷ r)) t)
    go true here =
        let p = profile_of name sci priority in
        let is : length (stations r) ≡ t = eqb-true (length (stations r)) t here in
        let counted : length lan.seats ≡ t = cc (seat-count settings users r lan stands, is) in
        let seated : slice_get (lan.seats ++ seat ∷ []) t ≡ Some seat =
        subst (λ n. slice_get (lan.seats ++ seat ∷ []) n ≡ Some seat) counted (last-here lan.seats seat) in
        let profiled : slice_get (stations r ++ p ∷ []) t ≡ Some p =
        subst (λ n. slice_get (stations r ++ p ∷ []) n ≡ Some p) is (last-here (stations r) p) in
        let past : slice_get (stations r) t ≡ None = subst (λ n. slice_get (stations r) n ≡ None) is (past-end (stations r)) in
        let nothing = none-there settings (receiving t r) (length (installs_at t r)) (slice_get lan.seats t) (life settings t r)
        (slice_get (stations r) t) (stands.seats t) past in
        let at : seat.installs ≡ 0 = sits.installs in
        rw (here, seated, profiled, nothing.0, nothing.1) (sits, refl, at)
    go false differ =
        let p = profile_of name sci priority in
        let is : length (stations r) ≢ t = eqb-false (length (stations r)) t differ in
        let counted = seat-count settings users r lan stands in
        let seated = before-last lan.seats seat t (λ same. is (cc (same, counted))) in
        let profiled = before-last (stations r) p t (λ same. is (sym same)) in
        rw (differ, seated, profiled) (stands.seats t)

-- ---- what a start comes to

pub start-expected : (settings : Settings) (users : List UserFrame) (r : Run) (name : Name) (sci : Sci) (priority : ℕ) (draw : List ℕ)
    (nth : ℕ → Option (List ℕ)) → nth 0 ≡ Some draw
    → expected settings users r (events.Start name sci priority) (drawn_from settings.suite nth)
    ≡ Some (facts.Life (length (stations r)) (mi_of_draw draw) ∷ [])
unfolding expected
start-expected settings users r name sci priority draw nth drawn = rw drawn refl

start-counts : (name : Name) (sci : Sci) (priority : ℕ) (r : Run) (mi : Mi)
    → length (stations (starting name sci priority r mi ∷ r)) ≡ length (stations r) + 1
unfolding stations
start-counts name sci priority r mi = length-append (stations r) (profile_of name sci priority ∷ [])

pub start-passes : (r : Run) → IsWithin r → (name : Name) (sci : Sci) (priority : ℕ) (mi : Mi)
    → passed (starting name sci priority r mi ∷ r) ≡ cond (nat_lt most_stations (length (stations r) + 1)) (Some Stations) None
unfolding air installs
start-passes r within name sci priority mi =
    let x = starting name sci priority r mi in
    let over : is_over_installs (x ∷ r) ≡ nat_lt most_installs 0 = none-over (installs r) within.installs in
    cc (
      passed-is (x ∷ r) (length (air r)) (sum (map (λ frame. length frame.octets) (air r))) (ticks r) 0 (length (stations r) + 1)
          refl refl (omega arith) over (start-counts name sci priority r mi),
      only-stations,
    )
  where
    only-stations : passed_by (length (air r)) (sum (map (λ frame. length frame.octets) (air r))) (ticks r) 0 (length (stations r) + 1)
        ≡ cond (nat_lt most_stations (length (stations r) + 1)) (Some Stations) None
    only-stations =
        rw (le-ltb most_frames _ within.frames, le-ltb most_octets _ within.octets, le-ltb most_ticks _ within.ticks) refl

-- the first stop, where there is a draw
pub start-stops : (settings : Settings) (users : List UserFrame) (r : Run) (lan : State)
    → StandsFor settings users lan r → (name : Name) (sci : Sci) (priority : ℕ) (draw : List ℕ) (nth : ℕ → Option (List ℕ)) → nth 0 ≡ Some draw
    → first_stop settings users r (events.Start name sci priority) nth
    ≡ option_or (cond (nat_lt most_stations (length (stations r) + 1)) (Some (Limit Stations)) None)
    (stop_of lan.drawn (number_of_mi lan.drawn (mi_of_draw draw)))
start-stops settings users r lan stands name sci priority draw nth drawn =
    let mi = mi_of_draw draw in
    let x = starting name sci priority r mi in
    rw (
      meets settings users r (events.Start name sci priority) nth x.facts (rw drawn refl)
          (start-expected settings users r name sci priority draw nth drawn),
      start-passes r stands.within name sci priority mi,
      mi-stop settings r lan.drawn x mi stands.drawn refl refl,
      or-nothing (stop_of lan.drawn (number_of_mi lan.drawn mi)),
    )
    (go (nat_lt most_stations (length (stations r) + 1)))
  where
    go : (b : Bool) → option_or (option_map Limit (cond b (Some Stations) None)) (stop_of lan.drawn (number_of_mi lan.drawn (mi_of_draw draw)))
        ≡ option_or (cond b (Some (Limit Stations)) None) (stop_of lan.drawn (number_of_mi lan.drawn (mi_of_draw draw)))
    go true = refl
    go false = refl

-- where there is no place
pub start-full : (settings : Settings) (users : List UserFrame) (r : Run) (lan : State)
    → StandsFor settings users lan r → (name : Name) (sci : Sci) (priority : ℕ) (draw : List ℕ) (nth : ℕ → Option (List ℕ)) → nth 0 ≡ Some draw
    → most_stations ≤ length lan.names → first_stop settings users r (events.Start name sci priority) nth ≡ Some (Limit Stations)
start-full settings users r lan stands name sci priority draw nth drawn full =
    let counted : length lan.names ≡ length (stations r) = rw stands.names (length-map (stations r) (λ p. p.name)) in
    let over = lt-ltb most_stations (length (stations r) + 1) (omega (arith, full, counted)) in
    rw (start-stops settings users r lan stands name sci priority draw nth drawn, over) refl

-- and where there is one
pub start-fits : (settings : Settings) (users : List UserFrame) (r : Run) (lan : State)
    → StandsFor settings users lan r → (name : Name) (sci : Sci) (priority : ℕ) (draw : List ℕ) (nth : ℕ → Option (List ℕ)) → nth 0 ≡ Some draw
    → length lan.names < most_stations
    → first_stop settings users r (events.Start name sci priority) nth ≡ stop_of lan.drawn (number_of_mi lan.drawn (mi_of_draw draw))
start-fits settings users r lan stands name sci priority draw nth drawn room =
    let counted : length lan.names ≡ length (stations r) = rw stands.names (length-map (stations r) (λ p. p.name)) in
    let under = le-ltb most_stations (length (stations r) + 1) (omega (arith, room, counted)) in
    rw (start-stops settings users r lan stands name sci priority draw nth drawn, under) refl

pub start-stands : (settings : Settings) (users : List UserFrame) (r : Run) (lan : State)
    → StandsFor settings users lan r → (name : Name) (sci : Sci) (priority : ℕ) (draw : List ℕ)
    → length lan.names < most_stations → (seat : Seat)
    → Sits settings.window (record { member = born (setup_of settings (profile_of name sci priority)) 0 draw; past = [] }) [] seat
    → (drawn : Numbers) → MiIsNoted lan.drawn drawn (mi_of_draw draw)
    → StandsFor settings users (record lan { names = lan.names ++ name ∷ []; seats = lan.seats ++ seat ∷ []; drawn = drawn })
    (starting name sci priority r (mi_of_draw draw) ∷ r)
unfolding air stations claimed
start-stands settings users r lan stands name sci priority draw room seat sits drawn noted =
    let mi = mi_of_draw draw in
    let x = starting name sci priority r mi in
    let p = profile_of name sci priority in
    let counted : length lan.names ≡ length (stations r) = rw stands.names (length-map (stations r) (λ p. p.name)) in
    let under = le-ltb most_stations (length (stations r) + 1) (omega (arith, room, counted)) in
    let within : passed (x ∷ r) ≡ None = rw (start-passes r stands.within name sci priority mi, under) refl in
    record {
      set_up = stands.set_up;
      setting = stands.setting;
      goes = stands.goes;
      names = rw (stands.names, map-append (λ p. p.name) (stations r) (p ∷ [])) refl;
      on_air = stands.on_air;
      numbered = stands.numbered;
      seats = seats-after settings users r lan stands name sci priority draw seat sits;
      waiting = rw (append-nil (claimed settings r))
          (sealed-stay users (x ∷ r) r p refl lan.waiting (drop (length (emitted r)) (claimed settings r)) stands.waiting);
      in_turn = rw (append-nil (claimed settings r)) stands.in_turn;
      ticked = omega (arith, stands.ticked);
      drawn = mi-noted settings.suite r lan.drawn drawn x mi stands.drawn refl refl noted;
      within = within-where (x ∷ r) within;
    }

pub start-goes-on : (settings : Settings) (users : List UserFrame) (r : Run) (lan : State)
    → StandsFor settings users lan r → (name : Name) (sci : Sci) (priority : ℕ) (draw : List ℕ)
    → length lan.names < most_stations → (seat : Seat)
    → Sits settings.window (record { member = born (setup_of settings (profile_of name sci priority)) 0 draw; past = [] }) [] seat
    → (nth after : ℕ → Option (List ℕ)) → nth 0 ≡ Some draw → ((k : ℕ) → after k ≡ nth (k + 1))
    → stop_of lan.drawn (number_of_mi lan.drawn (mi_of_draw draw)) ≡ None
    → (drawn : Numbers) → MiIsNoted lan.drawn drawn (mi_of_draw draw)
    → (shown : List Fact) → shown ≡ facts.Life (length lan.names) (mi_of_draw draw) ∷ []
    → (names : List Name) → names ≡ lan.names ++ name ∷ [] → (seats : List Seat) → seats ≡ lan.seats ++ seat ∷ []
    → GoesOn settings users r (events.Start name sci priority) nth after
    (record lan { names = names; seats = seats; drawn = drawn }) shown
start-goes-on settings users r lan stands name sci priority draw room seat sits nth after first taken goes drawn noted shown told names named seats seated =
    let counted : length lan.names ≡ length (stations r) = rw stands.names (length-map (stations r) (λ p. p.name)) in
    let is : shown ≡ facts.Life (length (stations r)) (mi_of_draw draw) ∷ [] =
    rw told (ap (λ n. facts.Life n (mi_of_draw draw) ∷ []) counted) in
    record {
      goes = rw (start-fits settings users r lan stands name sci priority draw nth first room) goes;
      shows = rw is (start-expected settings users r name sci priority draw nth first);
      stands = rw (is, named, seated) (start-stands settings users r lan stands name sci priority draw room seat sits drawn noted);
      drawn = taken;
    }
