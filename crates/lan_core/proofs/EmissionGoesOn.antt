-- The oldest frame that waits is put on the air.
use Rattle.std.proofs.Common.{◌≡◌, ◌≤◌, ◌+◌, ℕ, zero, suc, true, List, [], ◌∷◌, ◌++◌, length, map, drop}
use Rattle.std.proofs.Common.{Option, Some, None, refl, ap, subst, arith}
use Rattle.std.specs.Prelude.{option_map, slice_get}
use Rattle.std.specs.Option.{option_or}
use Rattle.std.proofs.lemmas.List.{append-nil, length-map}
use Rattle.lan_base.specs.declared.frame.UserFrame.{UserFrame}
use Rattle.lan_core.specs.declared.event.Event.TheVariants as events
use Rattle.lan_core.specs.declared.fact.Fact.{Fact}
use Rattle.lan_core.specs.declared.fact.Fact.TheVariants as facts
use Rattle.lan_core.specs.declared.settings.Settings.{Settings}
use Rattle.lan_core.specs.declared.stop.Stop.{Stop}
use Rattle.lan_core.specs.declared.stop.Stop.TheVariants.{Limit}
use Rattle.lan_core.specs.declared.waiting.Sealed.{Sealed}
use Rattle.lan_core.specs.Run.{Run, Happening, happened, stations}
use Rattle.lan_core.specs.Ledgers.{Frame, air, emitted, installs, installs_at, next_frame}
use Rattle.lan_core.specs.Lives.{life, receiving}
use Rattle.lan_core.specs.Claims.{Waiting, claimed, waiting, frame_of_claim}
use Rattle.lan_core.specs.Expected.{expected, drawn_from}
use Rattle.lan_core.specs.Order.{ticks}
use Rattle.lan_core.specs.Stops.{first_stop, passed}
use Rattle.lan_core.specs.Standing.{State, StandsFor, IsSeated, in_order, sealed_of}
use Rattle.lan_core.specs.Answers.{GoesOn}
use Rattle.lan_core.specs.inside.Limits.{passed_with, passed_by}
use Rattle.lan_core.specs.declared.limits.Extent.{Extent}
use Rattle.lan_core.proofs.ListPlaces.{front-of, front-mapped, none-left, none-mapped}
use Rattle.lan_core.proofs.LimitsPassed.{none-over, none-passed, passed-is, within-where}
use Rattle.lan_core.proofs.CarriedOver.{meets, draws-none, sealed-same, order-length, order-sum}

-- the emission of a frame, as it happens
abbrev pub emission : ℕ → Sealed → Happening
emission number frame =
    happened events.Emit (facts.Framed number frame.station true frame.octets ∷ [])

-- what is put on the air is the frame of the earliest claim that waits
pub record IsNext (settings : Settings) (users : List UserFrame) (r : Run) (frame : Sealed) (rest : List Sealed) :
    Type 0 where
  pub claim : Waiting
  pub waits : waiting settings r ≡ Some claim
  pub octets : frame_of_claim users r claim ≡ Some frame.octets
  pub station : claim.station ≡ frame.station
  pub behind : map Some rest ≡ map (sealed_of users r) (drop (suc (length (emitted r))) (claimed settings r))
  pub fewer : suc (length (emitted r)) ≤ length (claimed settings r)

unseal : (o : Option (List ℕ)) (station : ℕ) (frame : Sealed)
    → option_map (λ octets. record { station = station; octets = octets }) o ≡ Some frame
    → (o ≡ Some frame.octets) × (station ≡ frame.station)
unseal None station frame is = absurd (cc is)
unseal (Some octets) station frame is =
    let same : record { station = station; octets = octets } ≡ frame = cc is in
    (ap (λ f. Some f.octets) same, ap (λ f. f.station) same)

left : {A : Type 0} (xs : List A) (n : ℕ) (w : A) (ws : List A) → drop n xs ≡ w ∷ ws → suc n ≤ length xs
left [] zero w ws is = absurd (cc is)
left [] (suc n) w ws is = absurd (cc is)
left (x ∷ xs) zero w ws is = omega arith
left (x ∷ xs) (suc n) w ws is = let more = left xs n w ws is in omega (arith, more)

pub next-is : (settings : Settings) (users : List UserFrame) (r : Run) (lan : State)
    → StandsFor settings users lan r → (frame : Sealed) (rest : List Sealed) → lan.waiting ≡ frame ∷ rest
    → IsNext settings users r frame rest
next-is settings users r lan stands frame rest is =
    let n = length (emitted r) in
    let all = claimed settings r in
    let listed : Some frame ∷ map Some rest ≡ map (sealed_of users r) (drop n all) =
    subst (λ ws. map Some ws ≡ map (sealed_of users r) (drop n all)) is stands.waiting in
    let front = front-mapped (sealed_of users r) (drop n all) (Some frame) (map Some rest) listed in
    let stood = front-of all n front.0 front.1.0 front.1.1.0 in
    let parts = unseal (frame_of_claim users r front.0) front.0.station frame front.1.1.1 in
    record {
      claim = front.0;
      waits = stood.0;
      octets = parts.0;
      station = parts.1;
      behind = rw stood.1 front.1.1.2;
      fewer = left all n front.0 front.1.0 front.1.1.0;
    }

pub shows : (settings : Settings) (users : List UserFrame) (r : Run) (nth : ℕ → Option (List ℕ)) (frame : Sealed)
    (rest : List Sealed) → IsNext settings users r frame rest
    → expected settings users r events.Emit (drawn_from settings.suite nth)
    ≡ Some (facts.Framed (next_frame r) frame.station true frame.octets ∷ [])
unfolding expected
shows settings users r nth frame rest next = rw (next.waits, next.octets, next.station) refl

pub none-waits : (settings : Settings) (users : List UserFrame) (r : Run) (lan : State)
    → StandsFor settings users lan r → lan.waiting ≡ [] → waiting settings r ≡ None
none-waits settings users r lan stands is =
    let n = length (emitted r) in
    let all = claimed settings r in
    none-left all n (none-mapped (sealed_of users r) (drop n all)
    (subst (λ ws. map Some ws ≡ map (sealed_of users r) (drop n all)) is stands.waiting))

-- ---- limits

pub emission-passes : (settings : Settings) (users : List UserFrame) (r : Run) (lan : State)
    → StandsFor settings users lan r → (number : ℕ) (frame : Sealed)
    → passed (emission number frame ∷ r)
    ≡ passed_with (lan.air ++ frame.octets ∷ []) lan.ticks 0 (length lan.names)
unfolding air installs stations
emission-passes settings users r lan stands number frame =
    let x = emission number frame in
    let f : Frame = record { number = number; station = frame.station; sec = true; octets = frame.octets } in
    let on : lan.air ++ frame.octets ∷ [] ≡ in_order (f ∷ air r) = rw stands.on_air refl in
    let count = length-map (stations r) (λ p. p.name) in
    let named : length lan.names ≡ length (stations r) = rw stands.names count in
    rw (on, order-length (f ∷ air r), order-sum (f ∷ air r), named, stands.ticked)
    (passed-is (x ∷ r) _ _ (ticks r) 0 _ refl refl (omega arith) (none-over (installs r) stands.within.installs)
    (ap (λ ps. length ps) (append-nil (stations r))))

pub emission-stops : (settings : Settings) (users : List UserFrame) (r : Run) (lan : State)
    → StandsFor settings users lan r → (nth : ℕ → Option (List ℕ)) (frame : Sealed) (rest : List Sealed)
    → IsNext settings users r frame rest
    → first_stop settings users r events.Emit nth
    ≡ option_map Limit (passed_with (lan.air ++ frame.octets ∷ []) lan.ticks 0 (length lan.names))
emission-stops settings users r lan stands nth frame rest next =
    let shown = facts.Framed (next_frame r) frame.station true frame.octets ∷ [] in
    rw (
      meets settings users r events.Emit nth shown refl (shows settings users r nth frame rest next),
      emission-passes settings users r lan stands (next_frame r) frame,
    )
    (go (option_map Limit (passed_with (lan.air ++ frame.octets ∷ []) lan.ticks 0 (length lan.names))))
  where
    go : (o : Option Stop) → option_or o (option_or None None) ≡ o
    go None = refl
    go (Some stop) = refl

-- ---- what it leaves

pub emits : (settings : Settings) (users : List UserFrame) (r : Run) (lan : State)
    → StandsFor settings users lan r → (nth : ℕ → Option (List ℕ)) (frame : Sealed) (rest : List Sealed)
    → IsNext settings users r frame rest
    → option_map Limit (passed_with (lan.air ++ frame.octets ∷ []) lan.ticks 0 (length lan.names)) ≡ None
    → StandsFor settings users (record lan { air = lan.air ++ frame.octets ∷ []; waiting = rest })
    (emission (next_frame r) frame ∷ r)
unfolding air installs stations life receiving claimed
emits settings users r lan stands nth frame rest next within =
    let x = emission (next_frame r) frame in
    let same = append-nil (stations r) in
    let seats : (t : ℕ) → IsSeated settings (receiving t (x ∷ r)) (length (installs_at t (x ∷ r)))
    (slice_get lan.seats t) (life settings t (x ∷ r)) (slice_get (stations (x ∷ r)) t) =
    λ t. rw same (stands.seats t) in
    record {
      set_up = stands.set_up;
      setting = stands.setting;
      goes = stands.goes;
      names = rw same stands.names;
      on_air = rw stands.on_air refl;
      numbered = (refl, stands.numbered);
      seats = seats;
      waiting = rw (
        append-nil (claimed settings r),
        sealed-same users (x ∷ r) r same
            (drop (suc (length (emitted r))) (claimed settings r)),
      ) next.behind;
      in_turn = rw (append-nil (claimed settings r)) next.fewer;
      ticked = omega (arith, stands.ticked);
      drawn = draws-none settings.suite x r lan.drawn refl refl stands.drawn;
      within = within-where (x ∷ r) (none-passed (emission (next_frame r) frame ∷ r) _ (emission-passes settings users r lan stands (next_frame r) frame) within);
    }

pub emission-goes-on : (settings : Settings) (users : List UserFrame) (r : Run) (lan : State)
    → StandsFor settings users lan r → (nth : ℕ → Option (List ℕ)) (frame : Sealed) (rest : List Sealed)
    → lan.waiting ≡ frame ∷ rest → (number : ℕ) → number ≡ length lan.air + 1
    → option_map Limit (passed_with (lan.air ++ frame.octets ∷ []) lan.ticks 0 (length lan.names)) ≡ None
    → (shown : List Fact) → shown ≡ facts.Framed number frame.station true frame.octets ∷ []
    → (frames : List (List ℕ)) → frames ≡ lan.air ++ frame.octets ∷ []
    → GoesOn settings users r events.Emit nth nth (record lan { air = frames; waiting = rest }) shown
emission-goes-on settings users r lan stands nth frame rest waits number counted within shown is frames put =
    let next = next-is settings users r lan stands frame rest waits in
    let so : number ≡ next_frame r =
    cc (counted, ap (λ fs. length fs + 1) stands.on_air, ap (λ n. n + 1) (order-length (air r))) in
    let told : shown ≡ facts.Framed (next_frame r) frame.station true frame.octets ∷ [] = cc (is, so) in
    record {
      goes = rw (emission-stops settings users r lan stands nth frame rest next) within;
      shows = rw told (shows settings users r nth frame rest next);
      stands = rw (told, put) (emits settings users r lan stands nth frame rest next within);
      drawn = λ k. ap nth (omega arith);
    }

-- how far a group comes, judged
pub judged : (e f : Extent) (o : Option Stop) → e ≡ f
    → option_map Limit (passed_by e.frames e.octets e.ticks e.installs e.stations) ≡ o
    → option_map Limit (passed_by f.frames f.octets f.ticks f.installs f.stations) ≡ o
judged e f o same is =
    subst (λ e. option_map Limit (passed_by e.frames e.octets e.ticks e.installs e.stations) ≡ o) same is
