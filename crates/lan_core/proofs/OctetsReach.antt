-- Octets reach a station of a group.
use Rattle.std.proofs.Common.{◌≡◌, ◌≢◌, ℕ, Bool, true, false, cond, List, [], ◌∷◌, length, map}
use Rattle.std.proofs.Common.{Option, Some, None, Result, Ok, Err, refl, ap, sym, subst, arith}
use Rattle.std.specs.Prelude.{option_map, slice_get, sum, nat_lt, is_some, IsSomeAnd}
use Rattle.std.specs.Option.{option_or}
use Rattle.std.proofs.lemmas.Bool.{ne_eqb, le-ltb}
use Rattle.lan_base.specs.declared.frame.UserFrame.{UserFrame}
use Rattle.mkpdu_codec.specs.declared.announcement.Announcement.{Announcement}
use Rattle.gcm_frames.specs.Tags.{is_sec}
use Rattle.rx_slots.specs.Numbers.{answer}
use Rattle.mka_station.specs.declared.verdict.DropReason.{DropReason}
use Rattle.mka_station.specs.Lives.{Member, Entry}
use Rattle.mka_station.specs.Hearing.{judged, hear_turn, heard_turn, frame_turn}
use Rattle.lan_core.specs.declared.event_facts.EventFacts.{EventFacts}
use Rattle.lan_core.specs.declared.event.Event.{Event}
use Rattle.lan_core.specs.declared.event.Event.TheVariants as events
use Rattle.lan_core.specs.declared.fact.Fact.{Fact}
use Rattle.lan_core.specs.declared.fact.Fact.TheVariants as facts
use Rattle.lan_core.specs.declared.settings.Settings.{Settings}
use Rattle.lan_core.specs.declared.stop.Stop.{Stop}
use Rattle.lan_core.specs.declared.stop.Stop.TheVariants.{Limit}
use Rattle.lan_core.specs.declared.stop.Which.TheVariants.{Keys}
use Rattle.lan_core.specs.Run.{Run, Happening, happened, Profile, started, stations}
use Rattle.lan_core.specs.Ledgers.{Frame, air, installs, installs_at, framed, gather, frame_at}
use Rattle.lan_core.specs.Lives.{Life, life, receiving, reaches, setup_of, drawn_mi, lived_reached, lived_hearing, heard_data, slot_change}
use Rattle.lan_core.specs.Claims.{claimed_by}
use Rattle.lan_core.specs.Expected.{expected, drawn_from, Drawn, reached_facts, reaction_facts}
use Rattle.lan_base.specs.Ranges.{most_ticks, most_frames}
use Rattle.lan_core.specs.Order.{IsWithin, Exists, ticks, ticks_of, most_stations, most_octets, most_installs}
use Rattle.lan_core.specs.Stops.{draws_needed, first_stop, passed, is_over_installs, stop_of_forgery, sak_of_tick}
use Rattle.lan_core.specs.Standing.{Seat, State, StandsFor, octets_at}
use Rattle.lan_core.specs.inside.Seats.{IsMoved, Reaches}
use Rattle.lan_core.specs.Answers.{GoesOn}
use Rattle.lan_core.specs.inside.Limits.{passed_by}
use Rattle.lan_core.proofs.OwnLedgers.{AreOf, reached-is-of, reaction-begins-none, installs-of-others}
use Rattle.lan_core.proofs.Reactions.{reaction-air}
use Rattle.lan_core.proofs.LimitsPassed.{over-at, passed-is}
use Rattle.lan_core.proofs.CarriedOver.{meets, no-station, draws-none, IsThere, is-there}
use Rattle.lan_core.proofs.ListPlaces.{there-is}
use Rattle.lan_core.proofs.FramesNumbered.{mapped}
use Rattle.lan_core.proofs.GroupMoved.{IsQuiet, stands-after, counted-on, same-place, frame-of}

-- ---- what it shows puts nothing on the air, and begins no life

hears_none : (m : Member) (judgement : Result Announcement DropReason) (p : List Entry)
    → (heard_turn m judgement p).reaction.sent ≡ None
unfolding hear_turn
hears_none m (Ok a) p = refl
hears_none m (Err v) p = refl

pub reached-air : (settings : Settings) (s : ℕ) (r : Run) (number : ℕ) (octets : List ℕ) (l : Life) (fs : List Frame)
    → gather framed (reached_facts settings s r number octets l) fs ≡ fs
reached-air settings s r number octets l fs = go (is_sec octets)
  where
    go : (b : Bool) → gather framed (cond b
        (facts.Arrived number s
        (answer l.member.setup.sci settings.window (receiving s r) octets) ∷ [])
        (reaction_facts s number 0 (frame_turn l.member octets l.past).reaction)) fs ≡ fs
    go true = refl
    go false =
        rw (
          reaction-air s number 0 (frame_turn l.member octets l.past).reaction fs,
          hears_none l.member (judged l.member.setup octets) l.past,
        ) refl

pub reached-begins-none : (settings : Settings) (s : ℕ) (r : Run) (number : ℕ) (octets : List ℕ) (l : Life)
    → drawn_mi (reached_facts settings s r number octets l) ≡ None
reached-begins-none settings s r number octets l = go (is_sec octets)
  where
    go : (b : Bool) → drawn_mi (cond b
        (facts.Arrived number s
        (answer l.member.setup.sci settings.window (receiving s r) octets) ∷ [])
        (reaction_facts s number 0 (frame_turn l.member octets l.past).reaction)) ≡ None
    go true = refl
    go false = reaction-begins-none s number 0 (frame_turn l.member octets l.past).reaction

-- ---- limits

-- where only installs may pass one
pub only-keys : (r : Run) (count : ℕ) → IsWithin r
    → passed_by (length (air r)) (sum (map (λ frame. length frame.octets) (air r))) (ticks r) count (length (stations r))
    ≡ cond (nat_lt most_installs count) (Some Keys) None
only-keys r count within =
    rw (
      le-ltb most_frames _ within.frames,
      le-ltb most_octets _ within.octets,
      le-ltb most_ticks _ within.ticks,
      le-ltb most_stations _ within.stations,
    ) refl

pub over-of : (x : Happening) (r : Run) (s : ℕ) → IsWithin r → AreOf s x.facts
    → is_over_installs (x ∷ r) ≡ nat_lt most_installs (length (installs_at s (x ∷ r)))
unfolding installs
over-of x r s within are =
    over-at (installs (x ∷ r)) s (λ t differ. rw (installs-of-others t s differ x.facts are (installs r))
    (within.installs t))

-- ---- an event that brings octets to a station

pub record Brings (settings : Settings) (users : List UserFrame) (r : Run) (e : Event) (s number : ℕ)
    (octets : List ℕ) : Type 0 where
  pub starts : started e ≡ []
  pub claims : claimed_by settings r e ≡ []
  pub here : reaches s r e ≡ Some octets
  pub others : (t : ℕ) → t ≢ s → reaches t r e ≡ None
  pub lives : (t : ℕ) (shown : List Fact)
      → life settings t (happened e shown ∷ r) ≡ lived_reached (life settings t r) (reaches t r e)
  pub shows : (l : Life) (drawn : Drawn) → life settings s r ≡ Some l
      → expected settings users r e drawn ≡ Some (reached_facts settings s r number octets l)
  pub needs : draws_needed settings r e ≡ 0
  pub makes : (shown : List Fact) → sak_of_tick shown e ≡ None
  pub ticks : ticks_of e ≡ 0

pub delivers : (settings : Settings) (users : List UserFrame) (r : Run) (number s : ℕ) (f : Frame)
    → frame_at r number ≡ Some f → Brings settings users r (events.Deliver number s) s number f.octets
unfolding life expected
delivers settings users r number s f found = record {
  starts = refl;
  claims = refl;
  here = rw (same-place s, found) refl;
  others = λ t differ. rw (ne_eqb s t (λ same. differ (sym same))) refl;
  lives = λ t shown. refl;
  shows = λ l drawn lives. rw (found, lives) refl;
  needs = refl;
  makes = λ shown. refl;
  ticks = refl;
}

pub injects : (settings : Settings) (users : List UserFrame) (r : Run) (s : ℕ) (octets : List ℕ)
    → Brings settings users r (events.Inject s octets) s 0 octets
unfolding life expected
injects settings users r s octets = record {
  starts = refl;
  claims = refl;
  here = rw (same-place s) refl;
  others = λ t differ. rw (ne_eqb s t (λ same. differ (sym same))) refl;
  lives = λ t shown. refl;
  shows = λ l drawn lives. rw lives refl;
  needs = refl;
  makes = λ shown. refl;
  ticks = refl;
}

-- ---- what it comes to

quiet : (settings : Settings) (users : List UserFrame) (r : Run) (lan : State) → StandsFor settings users lan r
    → (e : Event) (s number : ℕ) (octets : List ℕ) → Brings settings users r e s number octets → (l : Life)
    → (shown : List Fact) → shown ≡ reached_facts settings s r number octets l
    → IsQuiet settings r s (happened e shown)
unfolding air
quiet settings users r lan stands e s number octets brings l shown is =
    let silent : gather framed shown (air r) ≡ air r = rw is (reached-air settings s r number octets l (air r)) in
    record {
      starts = brings.starts;
      claims = brings.claims;
      reaching = brings.others;
      others = λ t differ. rw (brings.lives t shown, brings.others t differ) refl;
      facts = rw is (reached-is-of settings s r number octets l);
      emits = rw silent refl;
      numbers = rw silent stands.numbered;
    }

pub reach-passes : (settings : Settings) (users : List UserFrame) (r : Run) (lan : State)
    → StandsFor settings users lan r → (e : Event) (s number : ℕ) (octets : List ℕ)
    → Brings settings users r e s number octets → (p : Profile) (there : IsThere settings s r lan.seats p)
    → (new : List Seat) (event_facts : EventFacts) → Reaches settings r s there.seat there.alive number octets lan.seats new event_facts
    → passed (happened e event_facts.facts ∷ r) ≡ cond (nat_lt most_installs event_facts.installs) (Some Keys) None
unfolding air
reach-passes settings users r lan stands e s number octets brings p there new event_facts reaches =
    let x = happened e event_facts.facts in
    let silent : gather framed event_facts.facts (air r) ≡ air r =
    rw reaches.facts (reached-air settings s r number octets there.alive (air r)) in
    let are = subst (λ fs. AreOf s fs) (sym reaches.facts) (reached-is-of settings s r number octets there.alive) in
    let count = counted-on r s x are there.seat.installs event_facts.installs there.seated.2 reaches.counted in
    let same = no-station x r brings.starts in
    cc (
      passed-is (x ∷ r) (length (air r)) (sum (map (λ frame. length frame.octets) (air r))) (ticks r) event_facts.installs
          (length (stations r)) (rw silent refl) (rw silent refl) (rw brings.ticks (omega arith))
          (rw count (over-of x r s stands.within are)) (ap (λ ps. length ps) same),
      only-keys r event_facts.installs stands.within,
    )

pub reach-stands : (settings : Settings) (users : List UserFrame) (r : Run) (lan : State)
    → StandsFor settings users lan r → (e : Event) (s number : ℕ) (octets : List ℕ)
    → Brings settings users r e s number octets → (p : Profile) → slice_get (stations r) s ≡ Some p
    → (there : IsThere settings s r lan.seats p)
    → (new : List Seat) (event_facts : EventFacts) → Reaches settings r s there.seat there.alive number octets lan.seats new event_facts
    → nat_lt most_installs event_facts.installs ≡ false
    → StandsFor settings users (record lan { seats = new }) (happened e event_facts.facts ∷ r)
unfolding air receiving
reach-stands settings users r lan stands e s number octets brings p profile there new event_facts reaches few =
    let x = happened e event_facts.facts in
    let still = quiet settings users r lan stands e s number octets brings there.alive event_facts.facts reaches.facts in
    let silent : gather framed event_facts.facts (air r) ≡ air r =
    rw reaches.facts (reached-air settings s r number octets there.alive (air r)) in
    let after : receiving s (x ∷ r) ≡ gather (slot_change s) event_facts.facts (heard_data octets (receiving s r)) =
    rw brings.here refl in
    stands-after settings users r lan stands s x still p (lived_hearing there.alive octets) new event_facts.installs
    (record {
      profile = profile;
      lives = rw (brings.lives s event_facts.facts, brings.here, there.lives) refl;
      setup = hearing_keeps there.alive octets (is_sec octets) refl there.seated.1;
      moved = subst (λ h. IsMoved settings.window (lived_hearing there.alive octets) h s lan.seats new event_facts.installs)
          (sym after) reaches.moved;
      counted = counted-on r s x still.facts there.seat.installs event_facts.installs there.seated.2 reaches.counted;
    })
    lan.air (rw silent stands.on_air) lan.ticks (rw brings.ticks (omega (arith, stands.ticked))) lan.drawn
    (draws-none settings.suite x r lan.drawn
    (rw reaches.facts (reached-begins-none settings s r number octets there.alive)) (brings.makes event_facts.facts)
    stands.drawn)
    (rw (reach-passes settings users r lan stands e s number octets brings p there new event_facts reaches, few) refl)
  where
    hearing_keeps : (l : Life) (octets : List ℕ) (b : Bool) → is_sec octets ≡ b
        → l.member.setup ≡ setup_of settings p → (lived_hearing l octets).member.setup ≡ setup_of settings p
    hearing_keeps l octets true is same = rw is same
    hearing_keeps l octets false is same = rw is same

-- the first stop
pub reach-stops : (settings : Settings) (users : List UserFrame) (r : Run) (lan : State)
    → StandsFor settings users lan r → (e : Event) (s number : ℕ) (octets : List ℕ)
    → Brings settings users r e s number octets → (p : Profile) (there : IsThere settings s r lan.seats p)
    → (new : List Seat) (event_facts : EventFacts) → Reaches settings r s there.seat there.alive number octets lan.seats new event_facts
    → (nth : ℕ → Option (List ℕ))
    → first_stop settings users r e nth
    ≡ option_or (cond (nat_lt most_installs event_facts.installs) (Some (Limit Keys)) None) (stop_of_forgery settings r e)
reach-stops settings users r lan stands e s number octets brings p there new event_facts reaches nth =
    let shows : expected settings users r e (drawn_from settings.suite nth) ≡ Some event_facts.facts =
    rw reaches.facts (brings.shows there.alive (drawn_from settings.suite nth) there.lives) in
    rw (
      meets settings users r e nth event_facts.facts (rw brings.needs refl) shows,
      reach-passes settings users r lan stands e s number octets brings p there new event_facts reaches,
      brings.makes event_facts.facts,
      subst (λ fs. drawn_mi fs ≡ None) (sym reaches.facts) (reached-begins-none settings s r number octets there.alive),
    )
    (go (nat_lt most_installs event_facts.installs))
  where
    go : (b : Bool) → option_or (option_map Limit (cond b (Some Keys) None)) (stop_of_forgery settings r e)
        ≡ option_or (cond b (Some (Limit Keys)) None) (stop_of_forgery settings r e)
    go true = refl
    go false = refl

pub reach-goes-on : (settings : Settings) (users : List UserFrame) (r : Run) (lan : State)
    → StandsFor settings users lan r → (e : Event) (s number : ℕ) (octets : List ℕ)
    → Brings settings users r e s number octets → (p : Profile) → slice_get (stations r) s ≡ Some p
    → (there : IsThere settings s r lan.seats p)
    → (new : List Seat) (event_facts : EventFacts) → Reaches settings r s there.seat there.alive number octets lan.seats new event_facts
    → (nth : ℕ → Option (List ℕ))
    → cond (nat_lt most_installs event_facts.installs) (Some (Limit Keys)) None ≡ None
    → stop_of_forgery settings r e ≡ None
    → GoesOn settings users r e nth nth (record lan { seats = new }) event_facts.facts
reach-goes-on settings users r lan stands e s number octets brings p profile there new event_facts reaches nth few right =
    record {
      goes = rw (reach-stops settings users r lan stands e s number octets brings p there new event_facts reaches nth, few, right)
          refl;
      shows = rw reaches.facts (brings.shows there.alive (drawn_from settings.suite nth) there.lives);
      stands = reach-stands settings users r lan stands e s number octets brings p profile there new event_facts reaches
          (not_over (nat_lt most_installs event_facts.installs) few);
      drawn = λ k. rw brings.needs (ap nth (omega arith));
    }
  where
    not_over : (b : Bool) → cond b (Some (Limit Keys)) None ≡ None → b ≡ false
    not_over true is = absurd (cc is)
    not_over false is = refl

-- ---- in a group

pub place-of : (settings : Settings) (users : List UserFrame) (r : Run) (lan : State)
    → StandsFor settings users lan r → (s : ℕ) → Exists s r
    → (p : Profile) × ((slice_get (stations r) s ≡ Some p) × IsThere settings s r lan.seats p)
place-of settings users r lan stands s exists =
    let p = there-is (stations r) s exists in
    (p.0, (p.1, is-there settings s r lan.seats p.0 (stands.seats s) p.1))

pub delivered : (settings : Settings) (users : List UserFrame) (r : Run) (lan : State)
    → StandsFor settings users lan r → (number s : ℕ) (octets : List ℕ) → octets_at lan.air number ≡ Some octets
    → Brings settings users r (events.Deliver number s) s number octets
delivered settings users r lan stands number s octets at =
    let found : option_map (λ f. f.octets) (frame_at r number) ≡ Some octets =
    cc (at, ap (λ fs. octets_at fs number) stands.on_air, frame-of (air r) number stands.numbered) in
    let f = mapped (λ f. f.octets) (frame_at r number) octets found in
    subst (λ octets. Brings settings users r (events.Deliver number s) s number octets) f.2
    (delivers settings users r number s f.0 f.1)

pub no-frame : (settings : Settings) (users : List UserFrame) (r : Run) (lan : State)
    → StandsFor settings users lan r → (number : ℕ) → octets_at lan.air number ≡ None
    → is_some (frame_at r number) ≡ true → ⊥
no-frame settings users r lan stands number at is =
    let found : option_map (λ f. f.octets) (frame_at r number) ≡ None =
    cc (at, ap (λ fs. octets_at fs number) stands.on_air, frame-of (air r) number stands.numbered) in
    go (frame_at r number) found is
  where
    go : (o : Option Frame) → option_map (λ f. f.octets) o ≡ None → is_some o ≡ true → ⊥
    go None none is = cc is
    go (Some f) none is = cc none

pub came-so : {A : Type 0} (P : A → Type 0) (o : Option A) (a : A) → o ≡ Some a → IsSomeAnd o P → P a
came-so P o a is so = subst (λ o. IsSomeAnd o P) is so

pub came-not : {A : Type 0} (P : A → Type 0) (o : Option A) → o ≡ None → IsSomeAnd o P → ⊥
came-not P o is so = subst (λ o. IsSomeAnd o P) is so

pub or-none : (first o : Option Stop) → first ≡ option_or o None → first ≡ o
or-none first None is = is
or-none first (Some stop) is = is

pub or-later : (first o later : Option Stop) → first ≡ option_or o later → o ≡ None → first ≡ later
or-later first None later is none = is
or-later first (Some other) later is none = absurd (cc none)
