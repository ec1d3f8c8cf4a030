-- What an event of a stepped run is, and what it is to each station.
use Rattle.std.proofs.Common.{◌≡◌, inl, ℕ, false, List, [], ◌∷◌, length, refl, ap}
use Rattle.std.proofs.Common.{sym, ◌∙◌, subst}
use Rattle.std.proofs.Common.{Option, Some, Result, Ok, Err}
use Rattle.std.proofs.lemmas.Bool.{eqb-true}
use Rattle.std.specs.Prelude.{◌==◌, option_map, slice_get}
use Rattle.lan_base.specs.declared.name.Name.{Name}
use Rattle.lan_base.specs.declared.address.Mi.{Mi}
use Rattle.lan_base.specs.declared.address.Sci.{Sci}
use Rattle.lan_base.specs.declared.frame.UserFrame.{UserFrame}
use Rattle.gcm_frames.specs.Tags.{is_sec}
use Rattle.mkpdu_codec.specs.declared.announcement.Announcement.{Announcement}
use Rattle.sak_exchange.proofs.Public.{by_test}
use Rattle.mka_station.specs.declared.verdict.DropReason.{DropReason}
use Rattle.mka_station.specs.Hearing.{judged, hear_turn, frame_turn}
use Rattle.lan_core.specs.declared.event.Event.{Event}
use Rattle.lan_core.specs.declared.event.Event.TheVariants as events
use Rattle.lan_core.specs.declared.fact.Fact.{Fact}
use Rattle.lan_core.specs.declared.fact.Fact.TheVariants as facts
use Rattle.lan_core.specs.declared.settings.Settings.{Settings}
use Rattle.lan_core.specs.Run.{Run, Happening, Profile, stations}
use Rattle.lan_core.specs.Ledgers.{Frame, frame_at, installs_at}
use Rattle.lan_core.specs.Lives.{Life, life, life_after, lived, lived_hearing, begun, turn_at_tick}
use Rattle.lan_core.specs.Lives.{transmitting_at, drawn_mi, sak_in, setup_of}
use Rattle.lan_core.specs.Claims.{Waiting, waiting}
use Rattle.lan_core.specs.Expected.{expected, drawn_in, tick_facts, reached_facts, restart_facts}
use Rattle.lan_core.specs.Expected.{claim_fact, emit_facts}
use Rattle.lan_core.specs.Order.{Exists}
use Rattle.lan_core.specs.Legal.{IsStep}
use Rattle.group_safety.proofs.rollover.Waits.{tick_of}
use Rattle.group_safety.proofs.Members.{In}
use Rattle.group_safety.proofs.once.Nexts.{get-there, mapped, chained}

-- octets reach a station: those of a frame on the air, or foreign ones
pub data IsReached (r : Run) (e : Event) (s number : ℕ) (octets : List ℕ) : Type 0 where
  delivered : (f : Frame) → frame_at r number ≡ Some f → f.octets ≡ octets
      → e ≡ events.Deliver number s → IsReached r e s number octets
  injected : number ≡ 0 → e ≡ events.Inject s octets → IsReached r e s number octets

-- an event, with what it shows
pub data Kind (settings : Settings) (users : List UserFrame) (r : Run) (e : Event)
    (shown : List Fact) : Type 0 where
  starts : (name : Name) (sci : Sci) (priority : ℕ) (mi : Mi) → e ≡ events.Start name sci priority
      → shown ≡ facts.Life (length (stations r)) mi ∷ [] → Kind settings users r e shown
  ticks : (s next : ℕ) (l : Life) → e ≡ events.Tick s next → life settings s r ≡ Some l
      → shown ≡ tick_facts settings s r next (sak_in shown) l → Kind settings users r e shown
  reached : (s number : ℕ) (octets : List ℕ) (l : Life) → IsReached r e s number octets
      → life settings s r ≡ Some l
      → shown ≡ reached_facts settings s r number octets l → Kind settings users r e shown
  restarts : (s : ℕ) (mi : Mi) (l : Life) → e ≡ events.Restart s → drawn_mi shown ≡ Some mi
      → life settings s r ≡ Some l
      → shown ≡ restart_facts s mi l → Kind settings users r e shown
  claims : (s user pn : ℕ) → e ≡ events.Claim s user pn
      → shown ≡ claim_fact settings s r pn (transmitting_at settings s r) ∷ []
      → Kind settings users r e shown
  emits : (w : Waiting) → e ≡ events.Emit → waiting settings r ≡ Some w
      → emit_facts users r w ≡ Some shown
      → Kind settings users r e shown

kind-of : (settings : Settings) (users : List UserFrame) (r : Run) (e : Event) (shown : List Fact)
    → expected settings users r e (drawn_in shown) ≡ Some shown → Kind settings users r e shown
unfolding expected
kind-of settings users r (events.Start name sci priority) shown is =
    let m = mapped (λ mi. facts.Life (length (stations r)) mi ∷ []) (drawn_mi shown) shown is in
    starts name sci priority m.0 refl (sym m.2)
kind-of settings users r (events.Tick s next) shown is =
    let m = mapped (tick_facts settings s r next (sak_in shown)) (life settings s r) shown is in
    ticks s next m.0 refl m.1 (sym m.2)
kind-of settings users r (events.Deliver frame s) shown is =
    let c = chained (λ (f : Frame). option_map (reached_facts settings s r frame f.octets)
    (life settings s r)) (frame_at r frame) shown is in
    let f : Frame = c.0 in
    let m = mapped (reached_facts settings s r frame f.octets) (life settings s r) shown c.2 in
    reached s frame f.octets m.0 (delivered f c.1 refl refl) m.1 (sym m.2)
kind-of settings users r (events.Restart s) shown is =
    let c = chained (λ mi. option_map (restart_facts s mi) (life settings s r))
    (drawn_mi shown) shown is in
    let m = mapped (restart_facts s c.0) (life settings s r) shown c.2 in
    restarts s c.0 m.0 refl c.1 m.1 (sym m.2)
kind-of settings users r (events.Claim s user pn) shown is =
    let m = mapped (λ l. claim_fact settings s r pn (transmitting_at settings s r) ∷ [])
    (life settings s r) shown is in
    claims s user pn refl (sym m.2)
kind-of settings users r events.Emit shown is =
    let c = chained (emit_facts users r) (waiting settings r) shown is in emits c.0 refl c.1 c.2
kind-of settings users r (events.Inject s octets) shown is =
    let m = mapped (reached_facts settings s r 0 octets) (life settings s r) shown is in
    reached s 0 octets m.0 (injected refl refl) m.1 (sym m.2)

pub kind : (settings : Settings) (users : List UserFrame) (x : Happening) (r : Run)
    → IsStep settings users x r
    → Kind settings users r x.event x.facts
kind settings users x r step = kind-of settings users r x.event x.facts step.shows

-- ---- to a station

-- the event begins a life of the station
pub data IsBirth (u : ℕ) (r : Run) (e : Event) : Type 0 where
  first : (name : Name) (sci : Sci) (priority : ℕ) → e ≡ events.Start name sci priority
      → length (stations r) ≡ u → IsBirth u r e
  again : e ≡ events.Restart u → IsBirth u r e

-- What an event is to a station: nothing, a tick, a frame that is heard, or a new life.
pub data Part (settings : Settings) (u : ℕ) (r : Run) (e : Event) (shown : List Fact)
    (after : Option Life) : Type 0 where
  same : after ≡ life settings u r → tick_of u e ≡ 0 → Part settings u r e shown after
  ticks : (next : ℕ) (l : Life) → e ≡ events.Tick u next → life settings u r ≡ Some l
      → after ≡ Some (lived l (turn_at_tick settings u r l next (sak_in shown)))
      → Part settings u r e shown after
  hears : (number : ℕ) (octets : List ℕ) (l : Life) (a : Announcement)
      → IsReached r e u number octets
      → life settings u r ≡ Some l → is_sec octets ≡ false → judged l.member.setup octets ≡ Ok a
      → after ≡ Some (lived l (hear_turn l.member a l.past)) → Part settings u r e shown after
  born : (l : Life) → l.past ≡ [] → IsBirth u r e → after ≡ Some l
      → In (facts.Life u l.member.mi) shown
      → Part settings u r e shown after

begun-is : (settings : Settings) (u : ℕ) (r : Run) (shown : List Fact) (p : Profile) (mi : Mi)
    → drawn_mi shown ≡ Some mi
    → (l : Life) × (begun settings u r shown p ≡ Some l) × (l.past ≡ []) × (l.member.mi ≡ mi)
begun-is settings u r shown p mi is =
    let l : Life = record {
      member =
          record { setup = setup_of settings p; mi = mi; base = length (installs_at u r) };
      past =
          [];
    } in
    (l, rw is refl, refl, refl)

-- a frame that reaches a station and is no protected one
heard-part : (settings : Settings) (u : ℕ) (r : Run) (e : Event) (shown : List Fact) (number : ℕ)
    (octets : List ℕ) (l : Life)
    → IsReached r e u number octets → tick_of u e ≡ 0 → life settings u r ≡ Some l
    → (after : Option Life)
    → after ≡ Some (lived_hearing l octets) → Part settings u r e shown after
heard-part settings u r e shown number octets l came none living after is =
    by_test (is_sec octets)
    (λ t. let s = rw t at is in same (s ∙ sym living) none)
    (λ t. let s = rw t at is in go (judged l.member.setup octets) refl s)
  where
    go : (j : Result Announcement DropReason) → judged l.member.setup octets ≡ j
        → after ≡ Some (lived l (frame_turn l.member octets l.past))
        → Part settings u r e shown after
    go (Ok a) j s = by_test (is_sec octets)
        (λ t. let q = rw t at is in same (q ∙ sym living) none)
        (λ t. hears number octets l a came living t j (rw j at s))
    go (Err reason) j s = let q = rw j at s in same (q ∙ sym living) none

-- to the station that it reaches, and to the others
reached-part : (settings : Settings) (u s : ℕ) (r : Run) (e : Event) (shown : List Fact)
    (number : ℕ) (octets : List ℕ) (l : Life)
    → IsReached r e s number octets → life settings s r ≡ Some l
    → Part settings u r e shown (life_after settings u r shown e (life settings u r))
reached-part settings u s r e shown number octets l (delivered f there is ev) living =
    by_test (s == u)
    (λ t. let here : s ≡ u = eqb-true s u t in
    let mine : life settings u r ≡ Some l = subst (λ v. life settings v r ≡ Some l) here living in
    heard-part settings u r e shown number octets l
    (delivered f there is (ev ∙ ap (events.Deliver number) here)) (rw ev refl) mine _
    (rw ev (rw (t, there, mine) (ap (λ o. Some (lived_hearing l o)) is))))
    (λ t. same (rw ev (rw t refl)) (rw ev refl))
reached-part settings u s r e shown number octets l (injected zero_is ev) living =
    by_test (s == u)
    (λ t. let here : s ≡ u = eqb-true s u t in
    let mine : life settings u r ≡ Some l = subst (λ v. life settings v r ≡ Some l) here living in
    heard-part settings u r e shown number octets l
    (injected zero_is (ev ∙ ap (λ v. events.Inject v octets) here)) (rw ev refl) mine _
    (rw ev (rw (t, mine) refl)))
    (λ t. same (rw ev (rw t refl)) (rw ev refl))

part-of : (settings : Settings) (users : List UserFrame) (u : ℕ) (r : Run) (e : Event)
    (shown : List Fact)
    → Kind settings users r e shown → ((s : ℕ) → e ≡ events.Restart s → Exists s r)
    → Part settings u r e shown (life_after settings u r shown e (life settings u r))
part-of settings users u r e shown (starts name sci priority mi ev is) there =
    by_test (length (stations r) == u)
    (λ t. let here = eqb-true (length (stations r)) u t in
    let drawn : drawn_mi shown ≡ Some mi = ap drawn_mi is in
    let b = begun-is settings u r shown
    (record { name = name; sci = sci; priority = priority }) mi drawn in
    let l : Life = b.0 in
    born l b.2 (first name sci priority ev here) (rw ev (rw t b.1))
    (subst (λ m. In (facts.Life u m) shown) (sym b.3)
    (subst (λ w. In (facts.Life u mi) w) (sym is)
    (inl (ap (λ v. facts.Life v mi) (sym here))))))
    (λ t. same (rw ev (rw t refl)) (rw ev refl))
part-of settings users u r e shown (ticks s next l ev living is) there =
    by_test (s == u)
    (λ t. let here : s ≡ u = eqb-true s u t in
    let mine : life settings u r ≡ Some l = subst (λ v. life settings v r ≡ Some l) here living in
    ticks next l (ev ∙ ap (λ v. events.Tick v next) here) mine (rw ev (rw (t, mine) refl)))
    (λ t. same (rw ev (rw t refl)) (rw ev (rw t refl)))
part-of settings users u r e shown (reached s number octets l came living is) there =
    reached-part settings u s r e shown number octets l came living
part-of settings users u r e shown (restarts s mi l ev drawn living is) there =
    by_test (s == u)
    (λ t. let here : s ≡ u = eqb-true s u t in
    let g = get-there (stations r) s (there s ev) in
    let mine : slice_get (stations r) u ≡ Some g.0 =
    subst (λ v. slice_get (stations r) v ≡ Some g.0) here g.1 in
    let b = begun-is settings u r shown g.0 mi drawn in
    let n : Life = b.0 in
    born n b.2 (again (ev ∙ ap events.Restart here)) (rw ev (rw (t, mine) b.1))
    (subst (λ m. In (facts.Life u m) shown) (sym b.3)
    (subst (λ w. In (facts.Life u mi) w) (sym is)
    (inl (ap (λ v. facts.Life v mi) (sym here))))))
    (λ t. same (rw ev (rw t refl)) (rw ev refl))
part-of settings users u r e shown (claims s user pn ev is) there = same (rw ev refl) (rw ev refl)
part-of settings users u r e shown (emits w ev waits is) there = same (rw ev refl) (rw ev refl)

restart-there : (settings : Settings) (users : List UserFrame) (x : Happening) (r : Run)
    → IsStep settings users x r
    → (s : ℕ) → x.event ≡ events.Restart s → Exists s r
restart-there settings users x r step s ev =
    (subst (λ e. Rattle.lan_core.specs.Order.IsAllowed settings users r x e) ev step.in_order.1).0

pub part : (settings : Settings) (users : List UserFrame) (u : ℕ) (x : Happening) (r : Run)
    → IsStep settings users x r
    → Part settings u r x.event x.facts (life settings u (x ∷ r))
unfolding life
part settings users u x r step =
    part-of settings users u r x.event x.facts (kind settings users x r step)
    (restart-there settings users x r step)
