-- A station of a group claims a packet number.
use Rattle.std.proofs.Common.{◌≡◌, ◌≤◌, ◌+◌, ℕ, Bool, true, false, cond, List, [], ◌∷◌, ◌++◌, length, map, drop}
use Rattle.std.proofs.Common.{Option, Some, None, inl, inr, refl, ap, subst, arith}
use Rattle.std.specs.Prelude.{◌==◌, option_map, option_to_list, slice_get}
use Rattle.std.proofs.lemmas.Bool.{ne_eqb, lt-ltb, le-ltb}
use Rattle.std.proofs.lemmas.List.{append-nil, length-append, map-append, drop-append-le}
use Rattle.lan_base.specs.declared.association_number.AssociationNumber.{AssociationNumber}
use Rattle.lan_base.specs.declared.frame.UserFrame.{UserFrame}
use Rattle.lan_base.specs.Ranges.{IsUserData}
use Rattle.aes_block.specs.Secrets.{secret_octets}
use Rattle.gcm_frames.specs.Protected.{protected}
use Rattle.sak_exchange.specs.declared.held_key.HeldKey.{HeldKey}
use Rattle.sak_exchange.specs.declared.held_key.Key.{Key}
use Rattle.sak_exchange.specs.Histories.{Keying}
use Rattle.sak_exchange.specs.Held.{held, transmitting}
use Rattle.lan_core.specs.declared.event.Event.TheVariants as events
use Rattle.lan_core.specs.declared.fact.Fact.{Fact}
use Rattle.lan_core.specs.declared.fact.Fact.TheVariants as facts
use Rattle.lan_core.specs.declared.fact.Lack.{Lack}
use Rattle.lan_core.specs.declared.fact.Lack.TheVariants.{NoKey}
use Rattle.lan_core.specs.declared.settings.Settings.{Settings}
use Rattle.lan_core.specs.declared.waiting.Sealed.{Sealed}
use Rattle.lan_core.specs.Run.{Run, Happening, happened, Profile, stations}
use Rattle.lan_core.specs.Ledgers.{air, emitted, framed, gather, installs, installs_at, install_of, Install, Frame}
use Rattle.lan_core.specs.Lives.{Life, life, keys_in, receiving, setup_of, slot_change, drawn_mi, transmitting_at}
use Rattle.rx_slots.specs.Histories.{Receiving}
use Rattle.lan_core.specs.Claims.{claimed, next, user_at, waiting_under}
use Rattle.lan_core.specs.Expected.{expected, drawn_from, claim_fact, number_fact, lack, last_number}
use Rattle.lan_base.specs.Ranges.{most_frames, most_ticks}
use Rattle.lan_core.specs.Order.{IsWithin, IsSendable, most_octets, most_stations}
use Rattle.lan_core.specs.Stops.{IsDemanded, passed}
use Rattle.lan_core.specs.Standing.{State, StandsFor, IsSeated, sealed_of}
use Rattle.lan_core.specs.Answers.{GoesOn}
use Rattle.lan_core.specs.inside.Shown.{claim_shown}
use Rattle.lan_core.proofs.LimitsPassed.{none-over}
use Rattle.lan_core.proofs.CarriedOver.{meets, draws-none, sealed-same, IsThere}

-- ---- what a claim shows

-- it is one of two kinds of fact
pub claim-cases : (P : Fact → Type 0) (settings : Settings) (s : ℕ) (r : Run) (pn : ℕ) (k : Option Key)
    → ((why : Lack) → P (facts.Unclaimed s why)) → ((an : AssociationNumber) (epoch : ℕ) → P (facts.Claimed s an epoch pn))
    → P (claim_fact settings s r pn k)
claim-cases P settings s r pn k not got = go (pn == 0) k
  where
    go : (b : Bool) (j : Option Key)
        → P (cond b (facts.Unclaimed s (lack settings s r j)) (number_fact s pn j))
    go true j = not (lack settings s r j)
    go false None = not NoKey
    go false (Some j) = got j.an j.epoch

pub claim-shown : (settings : Settings) (s : ℕ) (r : Run) (pn : ℕ) (given named : Option UserFrame) (h : List Keying)
    (k : Option Key) → IsDemanded settings s r pn given named k
    → claim_shown s pn (option_map (held h) k) ≡ claim_fact settings s r pn k
claim-shown settings s r pn given named h None is = rw is refl
claim-shown settings s r pn given named h (Some k) (inl (is, none)) =
    rw (is, lt-ltb last_number (next settings s k.epoch r) none) refl
claim-shown settings s r pn given named h (Some k) (inr (least, after, most, same)) =
    rw (ne_eqb pn 0 (λ zero. omega (arith, zero, least))) refl

pub claim-expected : (settings : Settings) (users : List UserFrame) (r : Run) (s user pn : ℕ) (l : Life)
    (nth : ℕ → Option (List ℕ)) → life settings s r ≡ Some l
    → expected settings users r (events.Claim s user pn) (drawn_from settings.suite nth)
    ≡ Some (claim_fact settings s r pn (transmitting_at settings s r) ∷ [])
unfolding expected
claim-expected settings users r s user pn l nth lives = rw lives refl

-- ---- limits

pub within-passes : (q : Run) → IsWithin q → passed q ≡ None
unfolding installs
within-passes q within =
    rw (
      le-ltb most_frames _ within.frames,
      le-ltb most_octets _ within.octets,
      le-ltb most_ticks _ within.ticks,
      none-over (installs q) within.installs,
      le-ltb most_stations _ within.stations,
    ) refl

-- ---- what it leaves

abbrev claiming : Settings → ℕ → Run → ℕ → ℕ → Option Key → Happening
claiming settings s r user pn k = happened (events.Claim s user pn) (claim_fact settings s r pn k ∷ [])

claim_air : (settings : Settings) (s : ℕ) (r : Run) (pn : ℕ) (k : Option Key) (fs : List Frame)
    → gather framed (claim_fact settings s r pn k ∷ []) fs ≡ fs
claim_air settings s r pn k fs =
    claim-cases (λ f. gather framed (f ∷ []) fs ≡ fs) settings s r pn k (λ why. refl) (λ an epoch. refl)

claim_installs : (settings : Settings) (s : ℕ) (r : Run) (pn : ℕ) (k : Option Key) (is : List Install)
    → gather install_of (claim_fact settings s r pn k ∷ []) is ≡ is
claim_installs settings s r pn k is =
    claim-cases (λ f. gather install_of (f ∷ []) is ≡ is) settings s r pn k (λ why. refl) (λ an epoch. refl)

claim_slots : (settings : Settings) (t s : ℕ) (r : Run) (pn : ℕ) (k : Option Key) (h : List Receiving)
    → gather (slot_change t) (claim_fact settings s r pn k ∷ []) h ≡ h
claim_slots settings t s r pn k h =
    claim-cases (λ f. gather (slot_change t) (f ∷ []) h ≡ h) settings s r pn k (λ why. refl) (λ an epoch. refl)

claim_draws : (settings : Settings) (s : ℕ) (r : Run) (pn : ℕ) (k : Option Key)
    → drawn_mi (claim_fact settings s r pn k ∷ []) ≡ None
claim_draws settings s r pn k =
    claim-cases (λ f. drawn_mi (f ∷ []) ≡ None) settings s r pn k (λ why. refl) (λ an epoch. refl)

claim_within : (settings : Settings) (s user : ℕ) (r : Run) (pn : ℕ) (k : Option Key) → IsWithin r
    → IsWithin (claiming settings s r user pn k ∷ r)
unfolding air installs stations
claim_within settings s user r pn k within = record {
  frames = rw (claim_air settings s r pn k (air r)) within.frames;
  octets = rw (claim_air settings s r pn k (air r)) within.octets;
  ticks = omega (arith, within.ticks);
  installs = λ t. rw (claim_installs settings s r pn k (installs r)) (within.installs t);
  stations = rw (append-nil (stations r)) within.stations;
}

-- the frame of the claim waits
abbrev pub sealed_by : ℕ → Option (List ℕ) → List Sealed
sealed_by s octets = option_to_list (option_map (λ octets. record { station = s; octets = octets }) octets)

-- what is protected for a claim is the frame of what waits
pub record IsSealed (settings : Settings) (users : List UserFrame) (r : Run) (s user pn : ℕ) (k : Option Key)
    (octets : Option (List ℕ)) : Type 0 where
  pub waits : map Some (sealed_by s octets) ≡ map (sealed_of users r) (waiting_under s user pn k)

pub claim-stands : (settings : Settings) (users : List UserFrame) (r : Run) (lan : State)
    → StandsFor settings users lan r → (s user pn : ℕ) (k : Option Key) → transmitting_at settings s r ≡ k
    → (octets : Option (List ℕ)) → IsSealed settings users r s user pn k octets
    → StandsFor settings users (record lan { waiting = lan.waiting ++ sealed_by s octets })
    (claiming settings s r user pn k ∷ r)
unfolding air installs stations life receiving claimed
claim-stands settings users r lan stands s user pn k key octets sealed =
    let x = claiming settings s r user pn k in
    let same = append-nil (stations r) in
    let silent = claim_air settings s r pn k (air r) in
    let quiet : emitted (x ∷ r) ≡ emitted r = rw silent refl in
    let n = length (emitted r) in
    let all = claimed settings r in
    let seats : (t : ℕ) → IsSeated settings (receiving t (x ∷ r)) (length (installs_at t (x ∷ r)))
    (slice_get lan.seats t) (life settings t (x ∷ r)) (slice_get (stations (x ∷ r)) t) =
    λ t. rw (same, claim_slots settings t s r pn k (receiving t r), claim_installs settings s r pn k (installs r))
    (stands.seats t) in
    let more : length (all ++ waiting_under s user pn k) ≡ length all + length (waiting_under s user pn k) =
    length-append all (waiting_under s user pn k) in
    record {
      set_up = stands.set_up;
      setting = stands.setting;
      goes = stands.goes;
      names = rw same stands.names;
      on_air = rw silent stands.on_air;
      numbered = rw silent stands.numbered;
      seats = seats;
      waiting = rw (
        quiet,
        key,
        drop-append-le n all (waiting_under s user pn k) stands.in_turn,
        sealed-same users (x ∷ r) r same (drop n all ++ waiting_under s user pn k),
        map-append (sealed_of users r) (drop n all) (waiting_under s user pn k),
        map-append Some lan.waiting (sealed_by s octets),
        stands.waiting,
        sealed.waits,
      ) refl;
      in_turn = rw (quiet, key, more) (omega (arith, stands.in_turn));
      ticked = omega (arith, stands.ticked);
      drawn = draws-none settings.suite x r lan.drawn (claim_draws settings s r pn k) refl stands.drawn;
      within = claim_within settings s user r pn k stands.within;
    }

sealed_is : (settings : Settings) (users : List UserFrame) (r : Run) (s user pn : ℕ) (p : Profile) (l : Life)
    → slice_get (stations r) s ≡ Some p → l.member.setup ≡ setup_of settings p
    → (given named : Option UserFrame) → user_at users user ≡ named → (k : Option Key)
    → IsSendable named → IsDemanded settings s r pn given named k → (octets : Option (List ℕ))
    → (pn ≡ 0 → octets ≡ None)
    → ((u : UserFrame) → 1 ≤ pn → given ≡ Some u → IsUserData u.body → octets
    ≡ option_map (λ k. protected (secret_octets k.sak) l.member.setup.sci k.an pn k.conf u) k)
    → map Some (sealed_by s octets) ≡ map (sealed_of users r) (waiting_under s user pn k)
sealed_is settings users r s user pn p l profile setup given named find None sends is octets none some =
    rw (none is) refl
sealed_is settings users r s user pn p l profile setup given named find (Some k) sends (inl (is, over)) octets none some =
    rw (none is, is) refl
sealed_is settings users r s user pn p l profile setup given None find (Some k) sends (inr (least, after, most, same)) octets none some =
    absurd sends
sealed_is settings users r s user pn p l profile setup given (Some u) find (Some k) sends (inr (least, after, most, same)) octets none some =
    let is = some u least same sends.body in
    let own : l.member.setup.sci ≡ p.sci = ap (λ q. q.sci) setup in
    rw (is, ne_eqb pn 0 (λ zero. omega (arith, zero, least)), profile, find, own) refl

pub claim-goes-on : (settings : Settings) (users : List UserFrame) (r : Run) (lan : State)
    → StandsFor settings users lan r → (s user pn : ℕ) (given : Option UserFrame)
    → IsSendable (user_at users user) → IsDemanded settings s r pn given (user_at users user) (transmitting_at settings s r)
    → (p : Profile) → slice_get (stations r) s ≡ Some p → (there : IsThere settings s r lan.seats p)
    → (key : Option HeldKey)
    → key ≡ option_map (held (keys_in there.alive)) (transmitting (keys_in there.alive))
    → (octets : Option (List ℕ)) → (pn ≡ 0 → octets ≡ None)
    → ((u : UserFrame) → 1 ≤ pn → given ≡ Some u → IsUserData u.body → octets
    ≡ option_map (λ k. protected (secret_octets k.sak) there.alive.member.setup.sci k.an pn k.conf u)
    (transmitting (keys_in there.alive)))
    → (nth : ℕ → Option (List ℕ)) (shown : List Fact) → shown ≡ claim_shown s pn key ∷ []
    → (waits : List Sealed) → waits ≡ lan.waiting ++ sealed_by s octets
    → GoesOn settings users r (events.Claim s user pn) nth nth (record lan { waiting = waits }) shown
claim-goes-on settings users r lan stands s user pn given sends comes p profile there key is octets none some nth shown told waits put =
    let l = there.alive in
    let k = transmitting (keys_in l) in
    let now : transmitting_at settings s r ≡ k = rw there.lives refl in
    let comes : IsDemanded settings s r pn given (user_at users user) k =
    subst (λ k. IsDemanded settings s r pn given (user_at users user) k) now comes in
    let fact : shown ≡ claim_fact settings s r pn k ∷ [] =
    cc (told, is, claim-shown settings s r pn given (user_at users user) (keys_in l) k comes) in
    let shows : expected settings users r (events.Claim s user pn) (drawn_from settings.suite nth) ≡ Some shown =
    rw fact (rw (claim-expected settings users r s user pn l nth there.lives, now) refl) in
    let sealed : IsSealed settings users r s user pn k octets = record {
      waits = sealed_is settings users r s user pn p l profile there.seated.1 given (user_at users user) refl k sends comes
          octets none some;
    } in
    let within = within-passes _ (claim_within settings s user r pn k stands.within) in
    record {
      goes = rw (
        meets settings users r (events.Claim s user pn) nth shown refl shows,
        fact,
        within,
        claim_draws settings s r pn k,
      ) refl;
      shows = shows;
      stands = rw (fact, put) (claim-stands settings users r lan stands s user pn k now octets sealed);
      drawn = λ j. ap nth (omega arith);
    }
