-- A frame's way from its claim to a delivery.
use Rattle.std.proofs.Common.{◌≡◌, ◌≢◌, inl, inr, ℕ, zero, suc, ◌≤◌, ◌<◌, Bool, true, false, List}
use Rattle.std.proofs.Common.{[], ◌∷◌, ◌++◌, length, refl, ap, sym, ◌∙◌, subst, arith}
use Rattle.std.proofs.Common.{Option, Some, None}
use Rattle.std.proofs.lemmas.Bool.{cases_lt, eqb-true, eqb-false}
use Rattle.std.proofs.lemmas.List.{length-append, append_assoc}
use Rattle.std.specs.Prelude.{◌==◌, option_map, slice_get}
use Rattle.lan_base.specs.declared.association_number.AssociationNumber.{AssociationNumber}
use Rattle.lan_base.specs.declared.frame.UserFrame.{UserFrame}
use Rattle.lan_base.specs.declared.address.Sci.{Sci}
use Rattle.lan_base.specs.Identifiers.{same_sci}
use Rattle.aes_block.specs.declared.secret.Secret.{Secret}
use Rattle.aes_block.specs.declared.secret.Secret.TheVariants.{S128, S256}
use Rattle.group_safety.proofs.Members.{In, contains-in, by_sum}
use Rattle.group_safety.proofs.once.KeysSound.{installed-key, IsKeyIn}
use Rattle.group_safety.proofs.rollover.KeyFacts.{received-installed, transmitting-received}
use Rattle.aes_block.specs.Secrets.{secret_octets}
use Rattle.aes_block.specs.Aes.{IsKey as IsCipherKey}
use Rattle.gcm_frames.specs.Protected.{IsSent, protected}
use Rattle.gcm_frames.specs.Tags.{is_sec}
use Rattle.gcm_frames.proofs.Public.{reread, reopened}
use Rattle.rx_slots.specs.Histories.{Receiving, standing_key}
use Rattle.rx_slots.specs.Numbers.{answer, accepted, admitted, is_late, next_number}
use Rattle.rx_slots.specs.Answers.{checked}
use Rattle.sak_exchange.specs.declared.held_key.Key.{Key}
use Rattle.sak_exchange.specs.Histories.{installs}
use Rattle.sak_exchange.specs.Held.{received, transmitting}
use Rattle.sak_exchange.specs.Lives.{Has}
use Rattle.sak_exchange.proofs.Public.{by_test}
use Rattle.lan_core.specs.declared.event.Event.{Event}
use Rattle.lan_core.specs.declared.event.Event.TheVariants as events
use Rattle.lan_core.specs.declared.fact.Fact.{Fact}
use Rattle.lan_core.specs.declared.fact.Fact.TheVariants as facts
use Rattle.lan_core.specs.declared.settings.Settings.{Settings}
use Rattle.lan_core.specs.Run.{Run, Happening, Profile, stations}
use Rattle.lan_core.specs.Ledgers.{Frame, air, framed, gather, frame_at, next_frame, emitted}
use Rattle.lan_core.specs.Ledgers.{AreNumbered}
use Rattle.lan_core.specs.Lives.{Life, life, receiving, transmitting_at, keys_in}
use Rattle.lan_core.specs.Claims.{Waiting, waiting, claimed, claimed_by, frame_by, frame_of_claim}
use Rattle.lan_core.specs.Claims.{user_at}
use Rattle.lan_core.specs.Order.{IsSendable}
use Rattle.lan_core.specs.Types.{IsSetting, IsSecret, IsTyped, IsUserFrame}
use Rattle.lan_core.specs.Legal.{IsStep, IsStepped}
use Rattle.lan_base.specs.Differing.{AllDiffer}
use Rattle.lan_core.specs.Fresh.{IsUnforged, drawn_mis}
use Rattle.lan_core.proofs.Public.{air-numbered}
use Rattle.group_safety.specs.Moments.{upto, At}
use Rattle.group_safety.specs.Stations.{keys_at}
use Rattle.group_safety.specs.Time.{Claims, Flight, IsFlight, Answers}
use Rattle.group_safety.proofs.once.Ciphers.{encrypts}
use Rattle.group_safety.proofs.once.Living.{IsLiving}
use Rattle.group_safety.proofs.once.Nexts.{in-get, get-less, in-later, in-gathered, mapped, chained}
use Rattle.group_safety.proofs.once.LiveHeard.{in-find}
use Rattle.group_safety.proofs.rollover.Spans.{from_to}
use Rattle.group_safety.proofs.rollover.AtMoments.{along, event-at, to-upto}
use Rattle.group_safety.proofs.rollover.EventKinds.{Kind, kind}
use Rattle.group_safety.proofs.rollover.EventKinds as kinds
use Rattle.group_safety.proofs.rollover.Shows.{claims-by}
use Rattle.group_safety.proofs.rollover.OneLife.{step-at, stands-at}
use Rattle.group_safety.proofs.rollover.Said.{known-at, frames-by}
use Rattle.group_safety.proofs.rollover.Said as said
use Rattle.group_safety.proofs.rollover.Lived.{life-kept}
use Rattle.group_safety.proofs.rollover.Slots.{Stands}
use Rattle.group_safety.proofs.rollover.Receiving.{on-stands}

-- ---- lists

get-at : {A : Type 0} (xs ys : List A) (a : A) → slice_get (xs ++ a ∷ ys) (length xs) ≡ Some a
get-at [] ys a = refl
get-at (x ∷ xs) ys a = get-at xs ys a

-- frames on the air are told by their numbers
below : (fs : List Frame) (y : Frame) → AreNumbered fs → In y fs → y.number ≤ length fs
below [] y n i = absurd i
below (f ∷ fs) y n (inl e) = let m = ap (λ (w : Frame). w.number) e in let k = n.0 in omega arith
below (f ∷ fs) y n (inr i) = let b = below fs y n.1 i in omega arith

pub one-number : (fs : List Frame) (y z : Frame) → AreNumbered fs → In y fs → In z fs
    → y.number ≡ z.number → y ≡ z
one-number [] y z n i j e = absurd i
one-number (f ∷ fs) y z n (inl a) (inl b) e = a ∙ sym b
one-number (f ∷ fs) y z n (inl a) (inr j) e =
    let m = ap (λ (w : Frame). w.number) a in let k = n.0 in let b = below fs z n.1 j in
    absurd (omega arith)
one-number (f ∷ fs) y z n (inr i) (inl b) e =
    let m = ap (λ (w : Frame). w.number) b in let k = n.0 in let l = below fs y n.1 i in
    absurd (omega arith)
one-number (f ∷ fs) y z n (inr i) (inr j) e = one-number fs y z n.1 i j e

-- facts only add frames
gather-length : (f : List Fact) (fs : List Frame) → length fs ≤ length (gather framed f fs)
gather-length [] fs = omega arith
gather-length (facts.Framed n s sec o ∷ later) fs = let r =
    gather-length later (record { number = n; station = s; sec = sec; octets = o } ∷ fs) in
    omega arith
gather-length (fact ∷ later) fs = gather-length later fs

air-step : (x : Happening) (r : Run) (y : Frame) → In y (air r) → In y (air (x ∷ r))
unfolding air
air-step x r y i = in-later framed x.facts (air r) y i

air-length : (x : Happening) (r : Run) → length (air r) ≤ length (air (x ∷ r))
unfolding air
air-length x r = gather-length x.facts (air r)

air-new : (x : Happening) (r : Run) (n s : ℕ) (sec : Bool) (o : List ℕ)
    → In (facts.Framed n s sec o) x.facts
    → In (record { number = n; station = s; sec = sec; octets = o }) (air (x ∷ r))
unfolding air
air-new x r n s sec o i =
    in-gathered framed x.facts (air r) (facts.Framed n s sec o) _ i refl

one-at-least : (n : ℕ) → n ≢ 0 → 1 ≤ n
one-at-least zero d = absurd (d refl)
one-at-least (suc n) d = omega arith

-- ---- the answer to a frame of a key that stands

answered-data : (window : ℕ) (past : List _) (sci : Sci) (an : AssociationNumber) (pn : ℕ)
    (body : List ℕ)
    → Answers (admitted window past
    (Rattle.rx_slots.specs.declared.arrival.Checked.TheVariants.Sealed sci an pn body))
answered-data window past sci an pn body =
    by_test (is_late window (next_number past an sci) pn) (λ t. rw t tt) (λ t. rw t tt)

pub answers-it : (own : Sci) (window : ℕ) (s : List Receiving) (sak : Secret)
    (sci : Sci) (an : AssociationNumber) (pn : ℕ) (conf : Bool) (user : UserFrame)
    → IsCipherKey (secret_octets sak) → IsSent sci pn user → standing_key s an ≡ Some sak
    → Answers (answer own window s (protected (secret_octets sak) sci an pn conf user))
answers-it own window s sak sci an pn conf user key sent stands =
    let octets = protected (secret_octets sak) sci an pn conf user in
    let read = reread (secret_octets sak) sci an pn conf user encrypts key sent in
    let open_it = reopened (secret_octets sak) sci an pn conf user encrypts key sent in
    by_test (same_sci sci own)
    (λ t. let c : checked own (standing_key s) octets
    ≡ Rattle.rx_slots.specs.declared.arrival.Checked.TheVariants.Own = rw read (rw t refl) in
    subst (λ v. Answers (admitted window (accepted own window s) v)) (sym c) tt)
    (λ t. let c : checked own (standing_key s) octets
    ≡ Rattle.rx_slots.specs.declared.arrival.Checked.TheVariants.Sealed sci an pn user.body =
    rw read (rw (t, stands) (rw open_it refl)) in
    subst (λ v. Answers (admitted window (accepted own window s) v)) (sym c)
    (answered-data window (accepted own window s) sci an pn user.body))

slots-none : (settings : Settings) (t : ℕ) → Stands (keys_at settings t []) (receiving t [])
unfolding receiving keys_at life received
slots-none settings t an = refl

-- a received key is installed
pub has-in : (k : Key) (ks : List Key) → Has k ks → In k ks
has-in k [] has = has
has-in k (j ∷ ks) (inl e) = inl (sym e)
has-in k (j ∷ ks) (inr h) = inr (has-in k ks h)

secret-key : (sak : Secret) → IsSecret sak → IsCipherKey (secret_octets sak)
secret-key (S128 octets) is = record { count = inl is.0; octets = is.1 }
secret-key (S256 octets) is = record { count = inr (inr is.0); octets = is.1 }

-- ---- over a run

module _ (settings : Settings) (users : List UserFrame) (run : Run) (is : IsSetting settings)
    (stepped : IsStepped settings users run) (unforged : IsUnforged settings run)
    (fresh : AllDiffer (drawn_mis run)) where
  step-of : (n : ℕ) (x : Happening) → n < length run → At run n x
      → IsStep settings users x (upto n run)
  step-of n x high at = step-at settings users run stepped fresh n x high at

  -- the slots of each station
  pub slots-at : (n : ℕ) → n ≤ length run → (t : ℕ)
      → Stands (keys_at settings t (upto n run)) (receiving t (upto n run))
  slots-at n high =
      along (λ r. (t : ℕ) → Stands (keys_at settings t r) (receiving t r)) run n high
      (slots-none settings)
      (λ k x p at h t. on-stands settings users x (upto k run) t
      (kind settings users x (upto k run) (step-of k x (omega arith) at))
      (λ l living. life-kept settings users run is stepped unforged fresh k
      (omega arith) t l living)
      (λ l living. (stands-at settings users run stepped fresh k (omega arith)).there t l.member.mi
      (Rattle.group_safety.proofs.rollover.Makers.mi-of-life settings t (upto k run) l living))
      (h t))

  -- claims stand in the order in which they came
  claimed-on : (x : Happening) (r : Run)
      → claimed settings (x ∷ r) ≡ claimed settings r ++ claimed_by settings r x.event
  unfolding claimed
  claimed-on x r = refl

  claimed-more : (a b : ℕ) → a ≤ b → b ≤ length run
      → (more : List Waiting) × (claimed settings (upto b run) ≡ claimed settings
      (upto a run) ++ more)
  claimed-more a b low high =
      from_to (λ n. (more : List Waiting) ×
      (claimed settings (upto n run) ≡ claimed settings (upto a run) ++ more)) a b low
      ([], sym (Rattle.std.proofs.lemmas.List.append-nil (claimed settings (upto a run))))
      (λ n p q h. let s = event-at n run (omega arith) in (
        h.0 ++ claimed_by settings (upto n run) s.0.event,
        ap (claimed settings) s.1 ∙ claimed-on s.0 (upto n run)
            ∙ ap (λ w. w ++ claimed_by settings (upto n run) s.0.event) h.1
            ∙ append_assoc (claimed settings (upto a run)) h.0
            (claimed_by settings (upto n run) s.0.event),
      ))

  -- the claim of a frame that is emitted
  pub emitted-claim : (c e sender pn : ℕ) (key : Key) (w : Waiting)
      → Claims settings run c sender key pn → e ≤ length run
      → waiting settings (upto e run) ≡ Some w
      → length (emitted (upto e run)) ≡ length (claimed settings (upto c run))
      → (c < e) × (w.station ≡ sender) × (w.key ≡ key) × (w.pn ≡ pn)
  emitted-claim c e sender pn key w claims high waits place =
      let by = claims-by settings users
      (upto c run) claims.event.event claims.event.facts sender key.an key.epoch pn
      (kind settings users claims.event (upto c run)
      (step-of c claims.event claims.within claims.at))
      (contains-in claims.event.facts _ claims.fact) in
      let within = claims.within in
      let here : slice_get (claimed settings (upto e run)) (length (claimed settings (upto c run)))
      ≡ Some w = subst (λ n. slice_get (claimed settings (upto e run)) n ≡ Some w) place waits
      in
      by_sum (cases_lt c e)
      (λ less. let mine : Waiting = record {
        station = sender;
        key = key;
        pn = pn;
        user =
            by.user;
      } in
      let adds : claimed_by settings (upto c run) claims.event.event ≡ mine ∷ [] =
      adds-one (upto c run) claims.event.event sender by.user pn key by.event claims.sends
      by.number in
      let on = ap (claimed settings) claims.at ∙ claimed-on claims.event (upto c run)
      ∙ ap (λ v. claimed settings (upto c run) ++ v) adds in
      let m = claimed-more (suc c) e less high in
      let whole = m.1 ∙ ap (λ v. v ++ m.0) on
      ∙ append_assoc (claimed settings (upto c run)) (mine ∷ []) m.0 in
      let found = sym (ap (λ v. slice_get v (length (claimed settings (upto c run)))) whole)
      ∙ here in
      let same : mine ≡ w = let f = sym (get-at (claimed settings (upto c run)) m.0 mine) ∙ found in
      cc (f) in (
        less,
        ap (λ (v : Waiting). v.station) (sym same),
        ap (λ (v : Waiting). v.key) (sym same),
        ap
            (λ (v : Waiting). v.pn) (sym same),
      ))
      (λ le. let m = claimed-more e c le (omega arith) in
      let long = ap length m.1 ∙ length-append (claimed settings (upto e run)) m.0 in
      let less = get-less (claimed settings (upto e run))
      (length (claimed settings (upto c run))) w here in absurd (omega arith))
    where
      adds-one : (r : Run) (e : Event) (s user pn : ℕ) (k : Key) → e ≡ events.Claim s user pn
          → transmitting_at settings s r ≡ Some k → (pn == 0) ≡ false
          → claimed_by settings r e ≡ record { station = s; key = k; pn = pn; user = user } ∷ []
      adds-one r e s user pn k ev sends number = rw ev (rw (sends, number) refl)

  -- ---- a flight

  air-more : (a b : ℕ) → a ≤ b → b ≤ length run → (y : Frame) → In y (air (upto a run))
      → In y (air (upto b run))
  air-more a b low high y i =
      from_to (λ n. In y (air (upto n run))) a b low i
      (λ n p q j. let s = event-at n run (omega arith) in
      subst (λ r. In y (air r)) (sym s.1) (air-step s.0 (upto n run) y j))

  air-longer : (a b : ℕ) → a ≤ b → b ≤ length run
      → length (air (upto a run)) ≤ length (air (upto b run))
  air-longer a b low high =
      from_to (λ n. length (air (upto a run)) ≤ length (air (upto n run))) a b low (omega arith)
      (λ n p q j. let s = event-at n run (omega arith) in let e = ap (λ r. length (air r)) s.1 in
      let g = air-length s.0 (upto n run) in omega arith)

  numbered-at : (n : ℕ) → AreNumbered (air (upto n run))
  numbered-at n = air-numbered settings users (upto n run)
      (to-upto (IsStepped settings users) (λ y r s. s.1) n run stepped)

  -- an emission gives the next number
  emit-number : (e : ℕ) (x : Happening) (frame station : ℕ) (o : List ℕ) → e < length run
      → At run e x → x.event ≡ events.Emit → In (facts.Framed frame station true o) x.facts
      → frame ≡ next_frame (upto e run)
  emit-number e x frame station o high at ev i =
      go (kind settings users x (upto e run) (step-of e x high at))
    where
      go : Kind settings users (upto e run) x.event x.facts → frame ≡ next_frame (upto e run)
      go (kinds.starts name sci priority mi ev2 q) = let f = sym ev ∙ ev2 in absurd (cc (f))
      go (kinds.ticks s next l ev2 living q) = let f = sym ev ∙ ev2 in absurd (cc (f))
      go (kinds.reached s number oo l (kinds.delivered f there same ev2) living q) = let g = sym ev
          ∙ ev2 in absurd (cc (g))
      go (kinds.reached s number oo l (kinds.injected z ev2) living q) = let g = sym ev ∙ ev2 in
          absurd (cc (g))
      go (kinds.restarts s mi l ev2 drawn living q) = let g = sym ev ∙ ev2 in absurd (cc (g))
      go (kinds.claims s user pn ev2 q) = let g = sym ev ∙ ev2 in absurd (cc (g))
      go (kinds.emits w ev2 waits q) =
          let m = mapped (λ oo. facts.Framed (next_frame (upto e run)) w.station true oo ∷ [])
          (frame_of_claim users (upto e run) w) x.facts q in
          elim (subst (λ v. In (facts.Framed frame station true o) v) (sym m.2) i) [
            | inl f ↦
                (let g : frame ≡ next_frame (upto e run) = cc (f) in g)
            | inr none ↦ absurd none
          ]

  -- what a key that transmits is
  sending-key : (c s : ℕ) (key : Key) → transmitting_at settings s (upto c run) ≡ Some key
      → IsKeyIn key
  sending-key c s key sends = go (life settings s (upto c run)) refl sends
    where
      go : (o : Option Life) → life settings s (upto c run) ≡ o
          → transmitting_at settings s (upto c run) ≡ Some key → IsKeyIn key
      go None e f = let g = rw e at f in absurd (cc (g))
      go (Some l) e f =
          let g : transmitting (keys_in l) ≡ Some key = rw e at f in
          let v : IsLiving settings (upto c run) s l =
          (known-at settings users run is stepped unforged fresh c).living s l e in
          installed-key l.member.base (keys_in l) key v.keys.keys
          (has-in key (installs (keys_in l))
          (received-installed (keys_in l) key (transmitting-received (keys_in l) key g)))

  -- what is known of a flight
  pub record IsKnownFlight (f : Flight) : Type 0 where
    pub order : f.claim < f.delivery
    pub event : Happening
    pub at : At run f.delivery event
    pub life_then : Life
    pub living : life settings f.receiver (upto f.delivery run) ≡ Some life_then
    pub sci : Sci
    pub pn : ℕ
    pub user : UserFrame
    pub octets : List ℕ
    pub protected_so :
        octets ≡ protected (secret_octets f.key.sak) sci f.key.an pn f.key.conf user
    pub sent : IsSent sci pn user
    pub key_is : IsCipherKey (secret_octets f.key.sak)
    pub fact : In (facts.Arrived f.frame f.receiver
        (answer life_then.member.setup.sci settings.window (receiving f.receiver
        (upto f.delivery run)) octets))
        event.facts

  -- the frame that is delivered
  record IsBrought (d t frame : ℕ) (x : Happening) : Type 0 where
    l : Life
    living : life settings t (upto d run) ≡ Some l
    y : Frame
    there : frame_at (upto d run) frame ≡ Some y
    shown : x.facts ≡ Rattle.lan_core.specs.Expected.reached_facts settings t
        (upto d run) frame y.octets l

  brought : (d t frame : ℕ) (x : Happening) → d < length run → At run d x
      → x.event ≡ events.Deliver frame t → IsBrought d t frame x
  brought d t frame x high at ev = go (kind settings users x (upto d run) (step-of d x high at))
    where
      go : Kind settings users (upto d run) x.event x.facts → IsBrought d t frame x
      go (kinds.starts name sci priority mi ev2 q) = let f = sym ev ∙ ev2 in absurd (cc (f))
      go (kinds.ticks s next l ev2 living q) = let f = sym ev ∙ ev2 in absurd (cc (f))
      go (kinds.reached s number oo l (kinds.delivered f there same ev2) living q) =
          let g = sym ev2 ∙ ev in
          let same_s : s ≡ t = cc (g) in
          let same_n : number ≡ frame = cc (g) in
          record {
            l = l;
            living = subst (λ v. life settings v (upto d run) ≡ Some l) same_s living;
            y = f;
            there = subst (λ v. frame_at (upto d run) v ≡ Some f) same_n there;
            shown = q ∙ ap (λ v. Rattle.lan_core.specs.Expected.reached_facts settings v
                (upto d run) number oo l) same_s
                ∙ ap (λ v. Rattle.lan_core.specs.Expected.reached_facts settings t
                (upto d run) v oo l) same_n
                ∙ ap (λ v. Rattle.lan_core.specs.Expected.reached_facts settings t
                (upto d run) frame v l) (sym same);
          }
      go (kinds.reached s number oo l (kinds.injected z ev2) living q) = let g = sym ev ∙ ev2 in
          absurd (cc (g))
      go (kinds.restarts s mi l ev2 drawn living q) = let g = sym ev ∙ ev2 in absurd (cc (g))
      go (kinds.claims s user pn ev2 q) = let g = sym ev ∙ ev2 in absurd (cc (g))
      go (kinds.emits w ev2 waits q) = let g = sym ev ∙ ev2 in absurd (cc (g))

  arrived : (d t frame : ℕ) (octets : List ℕ) (l : Life) → is_sec octets ≡ true
      → In (facts.Arrived frame t (answer l.member.setup.sci settings.window
      (receiving t (upto d run)) octets))
      (Rattle.lan_core.specs.Expected.reached_facts settings t (upto d run) frame octets l)
  arrived d t frame octets l sec = rw sec (inl refl)

  pub flight : (f : Flight) → IsFlight settings run f → IsKnownFlight f
  flight f F =
      let C = F.claims in
      let E = F.its_frame in
      let within = E.within in
      let high = F.within in
      let frame_in = contains-in E.event.facts (facts.Framed f.frame E.station true E.octets)
      E.fact in
      let fb = frames-by settings users
      (upto E.emission run) E.event.event E.event.facts f.frame E.station true E.octets
      (kind settings users E.event (upto E.emission run) (step-of E.emission E.event within E.at))
      frame_in in
      elim fb [
        | said.says next l a s ev living said_it o ↦ absurd (cc (s))
        | said.emits w s ev waits sent st ↦
            let by = emitted-claim f.claim E.emission f.sender F.pn f.key w C (omega arith) waits
            E.place in
            let p = chained (λ (p : Profile). option_map (frame_by w p) (user_at users w.user))
            (slice_get (stations (upto E.emission run)) w.station) E.octets sent in
            let u = mapped (frame_by w p.0) (user_at users w.user) E.octets p.2 in
            let k = known-at settings users run is stepped unforged fresh E.emission in
            let sends : IsUserFrame u.0 = subst IsSendable u.1
            (k.plain.sendable w (in-get (claimed settings (upto E.emission run)) _ w waits)) in
            let channel = k.plain.typed p.0
            (in-get (stations (upto E.emission run)) w.station p.0 p.1) in
            let kin = sending-key f.claim f.sender f.key C.sends in
            let claims = claims-by settings users
            (upto f.claim run) C.event.event C.event.facts f.sender f.key.an f.key.epoch F.pn
            (kind settings users C.event (upto f.claim run) (step-of f.claim C.event C.within C.at))
            (contains-in C.event.facts _ C.fact) in
            let typed = (subst IsTyped claims.event
            ((step-of f.claim C.event C.within C.at).in_order.0)).2 in
            let positive = eqb-false F.pn 0 claims.number in
            let B = brought f.delivery f.receiver f.frame F.event high F.at F.delivered in
            let number = emit-number E.emission E.event f.frame E.station E.octets within E.at ev
            frame_in in
            let z : Frame = record {
              number = f.frame;
              station = E.station;
              sec = true;
              octets =
                  E.octets;
            } in
            let z_in : In z (air (upto (suc E.emission) run)) =
            subst (λ r. In z (air r)) (sym E.at)
            (air-new E.event (upto E.emission run) f.frame E.station true E.octets frame_in) in
            let y_in : In B.y (air (upto f.delivery run)) =
            in-find (λ (v : Frame). v.number == f.frame) (air (upto f.delivery run)) B.y B.there in
            let y_number : B.y.number ≡ f.frame =
            eqb-true B.y.number f.frame (Rattle.sak_exchange.proofs.Public.find-passes
            (λ (v : Frame). v.number == f.frame) (air (upto f.delivery run)) B.y B.there) in
            let same : B.y ≡ z = one-number (air (upto (length run) run)) B.y z
            (numbered-at (length run)) (air-more f.delivery (length run) (omega arith)
            (omega arith) B.y y_in) (air-more (suc E.emission) (length run) within
            (omega arith) z z_in) y_number in
            let low = below (air (upto f.delivery run)) B.y (numbered-at f.delivery) y_in in
            let before : E.emission < f.delivery = by_sum (cases_lt E.emission f.delivery)
            (λ less. less)
            (λ le. let longer = air-longer f.delivery E.emission le (omega arith) in absurd
            (omega arith)) in
            let octets : B.y.octets ≡ protected
            (secret_octets f.key.sak) p.0.sci f.key.an F.pn f.key.conf u.0 =
            ap (λ (v : Frame). v.octets) same ∙ sym u.2
            ∙ ap (λ (v : Key). protected (secret_octets v.sak) p.0.sci v.an w.pn v.conf u.0) by.2
            ∙ ap (λ n. protected (secret_octets f.key.sak) p.0.sci f.key.an n f.key.conf u.0)
            by.3 in
            let sec : is_sec B.y.octets ≡ true =
            subst (λ o. is_sec o ≡ true) (sym octets)
            (Rattle.group_safety.proofs.once.ClaimKept.protected-is_sec
            (secret_octets f.key.sak) p.0.sci f.key.an F.pn f.key.conf u.0 channel.count
            sends.destination.0) in
            record {
              order = omega (arith, by.0);
              event = F.event;
              at = F.at;
              life_then = B.l;
              living = B.living;
              sci = p.0.sci;
              pn = F.pn;
              user = u.0;
              octets = B.y.octets;
              protected_so = octets;
              sent = record {
                channel = channel;
                destination = sends.destination.0;
                first = one-at-least F.pn positive;
                last = typed;
                body = sends.body;
              };
              key_is = secret-key f.key.sak kin.sak;
              fact = subst (λ w. In (facts.Arrived f.frame f.receiver
                  (answer B.l.member.setup.sci settings.window
                  (receiving f.receiver (upto f.delivery run)) B.y.octets)) w) (sym B.shown)
                  (arrived f.delivery f.receiver f.frame B.y.octets B.l sec);
            }
      ]
