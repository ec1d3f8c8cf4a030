-- What the lives of a run keep, and how their keys go on from moment to moment.
use Rattle.std.proofs.Common.{◌≡◌, inl, inr, ℕ, suc, ◌+◌, ◌≤◌, ◌<◌, List, [], ◌∷◌, length, refl, ap}
use Rattle.std.proofs.Common.{sym, ◌∙◌, subst, arith}
use Rattle.std.proofs.Common.{Option, Some, None, Ok, true, not}
use Rattle.std.proofs.lemmas.Bool.{eq-eqb}
use Rattle.lan_base.specs.declared.address.Mi.{Mi}
use Rattle.lan_base.specs.declared.key_id.KeyId.{KeyId}
use Rattle.lan_base.specs.declared.frame.UserFrame.{UserFrame}
use Rattle.mkpdu_codec.specs.declared.announcement.Announcement.{Announcement}
use Rattle.sak_exchange.specs.declared.held_key.Key.{Key}
use Rattle.sak_exchange.specs.Histories.{Keying, installs, begun_at}
use Rattle.sak_exchange.specs.Histories as keyings
use Rattle.sak_exchange.specs.Held.{KeepsRules}
use Rattle.sak_exchange.specs.Lives.{Has, identifiers}
use Rattle.sak_exchange.proofs.Public.{identifiers-differ}
use Rattle.mka_station.specs.Lives.{Member, Entry, keys_of}
use Rattle.mka_station.specs.Tick.{tick_turn}
use Rattle.mka_station.specs.Hearing.{judged, hear_turn}
use Rattle.mka_station.specs.Tick.{says_at}
use Rattle.mka_station.specs.Hearing.{follow_at, answer_at}
use Rattle.mka_station.specs.Hearing.{key_taken}
use Rattle.lan_core.specs.declared.event.Event.TheVariants as events
use Rattle.lan_core.specs.declared.fact.Fact.TheVariants as facts
use Rattle.lan_core.specs.declared.settings.Settings.{Settings}
use Rattle.lan_core.specs.Run.{Run, Happening}
use Rattle.lan_core.specs.Lives.{Life, life, lived, keys_in, seen_at, sak_in, turn_at_tick}
use Rattle.lan_core.specs.Types.{IsSetting}
use Rattle.lan_core.specs.Legal.{IsStep, IsStepped}
use Rattle.lan_base.specs.Differing.{AllDiffer, DiffersFrom}
use Rattle.lan_core.specs.Fresh.{IsUnforged, drawn_mis}
use Rattle.group_safety.specs.Moments.{upto, At}
use Rattle.group_safety.specs.Rounds.{Since, is_among, rounds}
use Rattle.group_safety.specs.Stations.{mi_of, mi_at, keys_of_life, keys_at}
use Rattle.group_safety.proofs.rollover.Waits.{waits, tick_of, last_tick}
use Rattle.group_safety.proofs.rollover.Course.{Course, Step, Lives}
use Rattle.group_safety.proofs.Members.{In, by_sum}
use Rattle.group_safety.proofs.once.Histories.{heard_of, heard-ticked, heard-heard}
use Rattle.group_safety.proofs.once.Ticking.{tick_key, tick_roster, tick_lead}
use Rattle.group_safety.proofs.once.Living.{IsLiving}
use Rattle.group_safety.proofs.rollover.AtMoments.{along, event-at, length-upto}
use Rattle.group_safety.proofs.rollover.Turns.{IsTurn, kept-turn, news, turn-new, news-clock}
use Rattle.group_safety.proofs.rollover.Turns.{turn-begins, tick_count, tick-is_turn, hear-is_turn}
use Rattle.group_safety.proofs.rollover.Turns.{turn-past, hear-past, IsTickTurn, tick-turned}
use Rattle.group_safety.proofs.rollover.Turns.{IsHearTurn, hear-turned}
use Rattle.group_safety.proofs.rollover.TicksAreRounds.{IsPaced, paced-upto, step-counts}
use Rattle.group_safety.proofs.rollover.TicksAreRounds.{step-rises}
use Rattle.group_safety.proofs.rollover.TicksAreRounds.{Settles, settled-waits}
use Rattle.group_safety.proofs.rollover.TicksAreRounds as settle
use Rattle.group_safety.proofs.rollover.EventKinds.{Part, IsReached, IsBirth, part, delivered}
use Rattle.group_safety.proofs.rollover.EventKinds.{injected}
use Rattle.group_safety.proofs.rollover.EventKinds as parts
use Rattle.group_safety.proofs.rollover.OneLife.{step-at, stands-at, no-birth-of}
use Rattle.group_safety.proofs.rollover.Said.{Said, known-at, reached-said}

-- ---- one install of an identifier

id-in : (k : Key) (h : List Keying) → Has k (installs h) → (ids : KeyId) → k.id ≡ ids
    → DiffersFrom ids (identifiers h) → ⊥
id-in k [] has i e none = has
id-in k (keyings.ticked s ∷ h) has i e none = id-in k h has i e none
id-in k (keyings.installed r j ∷ h) (inl same) i e none =
    none.0 (sym e ∙ ap (λ (w : Key). w.id) (sym same))
id-in k (keyings.installed r j ∷ h) (inr has) i e none = id-in k h has i e none.1
id-in k (keyings.began n ∷ h) has i e none = id-in k h has i e none

pub one-of-id : (h : List Keying) → AllDiffer (identifiers h) → (j k : Key) → Has j (installs h)
    → Has k (installs h) → j.id ≡ k.id → j ≡ k
one-of-id [] d j k hj hk e = absurd hj
one-of-id (keyings.ticked s ∷ h) d j k hj hk e = one-of-id h d j k hj hk e
one-of-id (keyings.installed r n ∷ h) d j k (inl a) (inl b) e = sym a ∙ b
one-of-id (keyings.installed r n ∷ h) d j k (inl a) (inr hk) e =
    absurd (id-in k h hk n.id (sym e ∙ ap (λ (w : Key). w.id) (sym a)) d.0)
one-of-id (keyings.installed r n ∷ h) d j k (inr hj) (inl b) e =
    absurd (id-in j h hj n.id (e ∙ ap (λ (w : Key). w.id) (sym b)) d.0)
one-of-id (keyings.installed r n ∷ h) d j k (inr hj) (inr hk) e = one-of-id h d.1 j k hj hk e
one-of-id (keyings.began n ∷ h) d j k hj hk e = one-of-id h d j k hj hk e

-- ---- the keys of a station in one event

pub data KeyPart (settings : Settings) (u : ℕ) (x : Happening) (r : Run) : Type 0 where
  rests : keys_at settings u (x ∷ r) ≡ keys_at settings u r → tick_of u x.event ≡ 0
      → KeyPart settings u x r
  ticks : (next : ℕ) (l : Life) → x.event ≡ events.Tick u next → life settings u r ≡ Some l
      → life settings u (x ∷ r) ≡ Some (lived l (turn_at_tick settings u r l next (sak_in x.facts)))
      → keys_at settings u r ≡ keys_in l
      → keys_at settings u (x ∷ r) ≡ keys_of l.member
      (tick_turn l.member (seen_at settings u r l next) (sak_in x.facts) l.past).past
      → KeyPart settings u x r
  hears : (number : ℕ) (octets : List ℕ) (l : Life) (a : Announcement)
      → IsReached r x.event u number octets → life settings u r ≡ Some l
      → judged l.member.setup octets ≡ Ok a
      → life settings u (x ∷ r) ≡ Some (lived l (hear_turn l.member a l.past))
      → keys_at settings u r ≡ keys_in l
      → keys_at settings u (x ∷ r) ≡ keys_of l.member (hear_turn l.member a l.past).past
      → KeyPart settings u x r
  born : (l : Life) → IsBirth u r x.event → keys_at settings u (x ∷ r) ≡ []
      → mi_at settings u (x ∷ r) ≡ Some l.member.mi → In (facts.Life u l.member.mi) x.facts
      → KeyPart settings u x r

keys-new : (m : Member) (p : List Entry) → p ≡ [] → keys_of m p ≡ []
unfolding keys_of
keys-new m p none = rw none refl

key-part-of : (settings : Settings) (u : ℕ) (x : Happening) (r : Run)
    → Part settings u r x.event x.facts (life settings u (x ∷ r)) → KeyPart settings u x r
unfolding keys_at mi_at
key-part-of settings u x r (parts.same is none) = rests (ap keys_of_life is) none
key-part-of settings u x r (parts.ticks next l ev living is) =
    ticks next l ev living is (ap keys_of_life living) (ap keys_of_life is)
key-part-of settings u x r (parts.hears number octets l a came living sec right is) =
    hears number octets l a came living right is (ap keys_of_life living) (ap keys_of_life is)
key-part-of settings u x r (parts.born l none birth is fact) =
    born l birth (ap keys_of_life is ∙ keys-new l.member l.past none) (ap mi_of is) fact

-- ---- over a run

module _ (settings : Settings) (users : List UserFrame) (run : Run) (is : IsSetting settings)
    (stepped : IsStepped settings users run) (unforged : IsUnforged settings run)
    (fresh : AllDiffer (drawn_mis run)) where
  step-of : (n : ℕ) (x : Happening) → n < length run → At run n x
      → IsStep settings users x (upto n run)
  step-of n x high at = step-at settings users run stepped fresh n x high at

  pub key-part : (u n : ℕ) (x : Happening) → n < length run → At run n x
      → KeyPart settings u x (upto n run)
  key-part u n x high at = key-part-of settings u x (upto n run)
      (part settings users u x (upto n run) (step-of n x high at))

  -- ---- the rules on keys are kept

  pub life-kept : (n : ℕ) → n ≤ length run → (u : ℕ) (l : Life)
      → life settings u (upto n run) ≡ Some l → KeepsRules l.member.base (keys_in l)
  unfolding life
  life-kept n high =
      along (λ r. (u : ℕ) (l : Life) → life settings u r ≡ Some l
      → KeepsRules l.member.base (keys_in l)) run n high (λ u l e. absurd (cc (e)))
      (λ k x p at h u l e. elim (part settings users u x (upto k run)
      (step-of k x (omega arith) at)) [
        | parts.same same none ↦ h u l (sym same ∙ e)
        | parts.ticks next m ev living same ↦
            let now : lived m (turn_at_tick settings u (upto k run) m next (sak_in x.facts)) ≡ l =
            let f = sym same ∙ e in cc (f) in
            subst (λ (w : Life). KeepsRules w.member.base (keys_in w)) now
            (kept-turn m.member.base (keys_in m) _
            (tick-is_turn m.member (seen_at settings u (upto k run) m next)
            (sak_in x.facts) m.past) (h u m living))
        | parts.hears number octets m a came living sec right same ↦
            let now : lived m (hear_turn m.member a m.past) ≡ l = let f = sym same ∙ e in cc (f) in
            subst (λ (w : Life). KeepsRules w.member.base (keys_in w)) now
            (kept-turn m.member.base (keys_in m) _ (hear-is_turn m.member a m.past) (h u m living))
        | parts.born m none birth same fact ↦
            let now : m ≡ l = let f = sym same ∙ e in cc (f) in
            subst (λ (w : Life). KeepsRules w.member.base (keys_in w)) now
            (subst (λ w. KeepsRules m.member.base w) (sym (keys-new m.member m.past none)) tt)
      ])

  keys-kept : (o : Option Life) → ((l : Life) → o ≡ Some l → KeepsRules l.member.base (keys_in l))
      → (base : ℕ) × KeepsRules base (keys_of_life o)
  keys-kept None f = (0, tt)
  keys-kept (Some l) f = (l.member.base, f l refl)

  pub kept-at : (u n : ℕ) → n ≤ length run
      → (base : ℕ) × KeepsRules base (keys_at settings u (upto n run))
  unfolding keys_at
  kept-at u n high = keys-kept (life settings u (upto n run)) (λ l e. life-kept n high u l e)

  -- ---- one install of an identifier in a life

  ids-of : (o : Option Life) → ((l : Life) → o ≡ Some l → AllDiffer (identifiers (keys_in l)))
      → AllDiffer (identifiers (keys_of_life o))
  ids-of None f = tt
  ids-of (Some l) f = f l refl

  pub one-install-at : (u n : ℕ) (j k : Key) → Has j (installs (keys_at settings u (upto n run)))
      → Has k (installs (keys_at settings u (upto n run))) → j.id ≡ k.id → j ≡ k
  unfolding keys_at
  one-install-at u n j k hj hk e =
      one-of-id (keys_of_life (life settings u (upto n run)))
      (ids-of (life settings u (upto n run)) (λ l living.
      let v : IsLiving settings (upto n run) u l =
      (known-at settings users run is stepped unforged fresh n).living u l living in
      identifiers-differ l.member.mi (keys_in l) v.keys.numbered v.keys.others)) j k hj hk e

  -- ---- what was heard was said

  tick-heard : (m : Member) (seen : _) (sak : _) (p : List Entry)
      → heard_of (tick_turn m seen sak p).past ≡ heard_of p
  tick-heard m seen sak p =
      ap heard_of (sym (turn-past m seen sak p))
      ∙ heard-ticked (says_at m seen sak p) (tick_roster m p) (tick_key m seen sak p)
      (tick_lead m p) p

  hear-heard : (m : Member) (a : Announcement) (p : List Entry)
      → heard_of (hear_turn m a p).past ≡ a ∷ heard_of p
  hear-heard m a p = ap heard_of (sym (hear-past m a p))
      ∙ heard-heard (follow_at m a p) (key_taken (answer_at m a p)) a p

  SaidBefore : ℕ → Announcement → Type 0
  SaidBefore n a = (z t : ℕ) × (z < n) × Said settings run z t a

  later : (n m : ℕ) (a : Announcement) → n ≤ m → SaidBefore n a → SaidBefore m a
  unfolding SaidBefore
  later n m a less s = (s.0, s.1, omega (arith, s.2), s.3)

  heard-along : (n : ℕ) → n ≤ length run → (u : ℕ) (l : Life) (a : Announcement)
      → life settings u (upto n run) ≡ Some l → In a (heard_of l.past) → SaidBefore n a
  unfolding SaidBefore life
  heard-along n high u l a e i =
      let long = length-upto n run high in
      let found = along (λ r. (u : ℕ) (l : Life) (a : Announcement) → life settings u r ≡ Some l
      → In a (heard_of l.past) → SaidBefore (length r) a) run n high
      (λ u l a e i. absurd (cc (e)))
      (λ k x p at h u l a e i. let long = length-upto k run (omega arith) in
      elim (part settings users u x (upto k run) (step-of k x (omega arith) at)) [
        | parts.same same none ↦ let s = h u l a (sym same ∙ e) i in
            (s.0, s.1, omega (arith, s.2), s.3)
        | parts.ticks next m ev living same ↦
            let now : lived m (turn_at_tick settings u (upto k run) m next (sak_in x.facts)) ≡ l =
            let f = sym same ∙ e in cc (f) in
            let j = subst (λ (w : Life). In a (heard_of w.past)) (sym now) i in
            let s = h u m a living (subst (λ w. In a w)
            (tick-heard m.member (seen_at settings u (upto k run) m next)
            (sak_in x.facts) m.past) j) in
            (s.0, s.1, omega (arith, s.2), s.3)
        | parts.hears number octets m b came living sec right same ↦
            let now : lived m (hear_turn m.member b m.past) ≡ l = let f = sym same ∙ e in cc (f) in
            let j = subst (λ w. In a w) (hear-heard m.member b m.past)
            (subst (λ (w : Life). In a (heard_of w.past)) (sym now) i) in
            by_sum j
            (λ new. let s = reached-said settings users run is stepped unforged fresh k x u number
            octets m b (omega arith) at came living right in
            (s.0, s.1, omega (arith, s.2), subst (Said settings run s.0 s.1) (sym new) s.3))
            (λ old. let s = h u m a living old in (s.0, s.1, omega (arith, s.2), s.3))
        | parts.born m none birth same fact ↦
            let now : m ≡ l = let f = sym same ∙ e in cc (f) in
            let none_heard : heard_of l.past ≡ [] = ap (λ (w : Life). heard_of w.past) (sym now)
            ∙ ap heard_of none in
            absurd (subst (λ w. In a w) none_heard i)
      ]) in
      let s = found u l a e i in (s.0, s.1, omega (arith, s.2), s.3)

  pub heard-said : (n : ℕ) → n ≤ length run → (u : ℕ) (l : Life) (a : Announcement)
      → life settings u (upto n run) ≡ Some l → In a (heard_of l.past)
      → (z t : ℕ) × (z < n) × Said settings run z t a
  unfolding SaidBefore
  heard-said n high u l a e i = heard-along n high u l a e i

  -- ---- the course of the run

  module _ (from : Since) (paced : IsPaced from run) where
    abbrev pub course : Course
    course = record {
      end = length run;
      from = from.moment;
      keys = λ u n. keys_at settings u (upto n run);
      ticks = λ u n. last_tick u (upto (suc n) run);
      rounds = λ n. rounds from (upto n run);
      waits = λ u n. waits from u (upto n run);
      counted = λ u. not (is_among u from.out);
    }

    pub tick-at : (u n : ℕ) (x : Happening) → At run n x → course.ticks u n ≡ tick_of u x.event
    unfolding last_tick
    tick-at u n x at = ap (last_tick u) at

    pub rise-at : (n : ℕ) → n < length run → course.rounds n ≤ course.rounds (suc n)
    rise-at n high =
        let s = event-at n run high in
        subst (λ r. rounds from (upto n run) ≤ rounds from r) (sym s.1)
        (step-rises from s.0 (upto n run)
        (subst (IsPaced from) s.1 (paced-upto from (suc n) run paced)))

    counts-at : (u n : ℕ) (x : Happening) (m : Mi) → n < length run → At run n x
        → mi_at settings u (upto n run) ≡ Some m → from.moment ≤ n
        → not (is_among u from.out) ≡ true → course.ticks u n + course.waits u (suc n) + course.rounds n
        ≡ course.waits u n + course.rounds (suc n)
    counts-at u n x m high at here early counted =
        let there = (stands-at settings users run stepped fresh n (omega arith)).there u m here in
        let long = length-upto n run (omega arith) in
        let c = step-counts from u x (upto n run) (omega arith) there counted
        (subst (IsPaced from) at (paced-upto from (suc n) run paced)) in
        let t = tick-at u n x at in
        let w = ap (waits from u) at in
        let r = ap (rounds from) at in
        omega arith

    settled-at : (u n : ℕ) (x : Happening) → At run n x → Settles u x.event
        → course.waits u (suc n) ≡ 0
    settled-at u n x at s = ap (waits from u) at ∙ settled-waits from u x (upto n run) s

    reached-settles : (u n number : ℕ) (x : Happening) (octets : List ℕ)
        → IsReached (upto n run) x.event u number octets → Settles u x.event
    reached-settles u n number x octets (delivered f there same ev) = settle.delivers number u ev
    reached-settles u n number x octets (injected z ev) = settle.injects u octets ev

    pub tick-settled : (u n next : ℕ) (x : Happening) → At run n x → x.event ≡ events.Tick u next
        → course.waits u (suc n) ≡ 0
    tick-settled u n next x at ev = settled-at u n x at (settle.ticks next ev)

    -- a turn is a step
    turn-step : (u n base count : ℕ) (x : Happening) (m : Mi) → n < length run → At run n x
        → mi_at settings u (upto n run) ≡ Some m
        → (t : IsTurn base (keys_at settings u (upto n run))
        (keys_at settings u (upto (suc n) run))) → tick_count t.tick ≡ course.ticks u n
        → course.waits u (suc n) ≡ 0 → Step course u n
    turn-step u n base count x m high at here t timed idle = record {
      new = news t.tick t.lead t.roster t.key t.follow;
      whole = turn-new base (keys_at settings u (upto n run))
          (keys_at settings u (upto (suc n) run)) t;
      timed = news-clock t.tick t.lead t.roster t.key t.follow ∙ timed;
      begins = λ e c begun. by_sum (turn-begins base (keys_at settings u (upto n run))
          (keys_at settings u (upto (suc n) run)) t e c begun) (λ old. inl old)
          (λ now. inr (now, idle));
      counts = counts-at u n x m high at here;
    }

    tick-own : (u next : ℕ) → tick_of u (events.Tick u next) ≡ 1
    tick-own u next = let t = eq-eqb u u refl in rw t refl

    reached-tick : (u n number : ℕ) (x : Happening) (octets : List ℕ)
        → IsReached (upto n run) x.event u number octets → tick_of u x.event ≡ 0
    reached-tick u n number x octets (delivered f there same ev) = rw ev refl
    reached-tick u n number x octets (injected z ev) = rw ev refl

    -- the turn of an event, in a life
    pub tick-turn-at : (u n next : ℕ) (x : Happening) (l : Life) → At run n x
        → keys_at settings u (upto n run) ≡ keys_in l
        → keys_at settings u (x ∷ upto n run) ≡ keys_of l.member
        (tick_turn l.member (seen_at settings u (upto n run) l next)
        (sak_in x.facts) l.past).past
        → IsTickTurn l.member (seen_at settings u (upto n run) l next) (sak_in x.facts) l.past
        (keys_at settings u (upto n run)) (keys_at settings u (upto (suc n) run))
    tick-turn-at u n next x l at before after =
        let seen = seen_at settings u (upto n run) l next in
        subst (λ g. IsTickTurn l.member seen (sak_in x.facts) l.past
        (keys_at settings u (upto n run)) g) (sym (ap (keys_at settings u) at ∙ after))
        (subst (λ h. IsTickTurn l.member seen (sak_in x.facts) l.past h
        (keys_of l.member (tick_turn l.member seen (sak_in x.facts) l.past).past)) (sym before)
        (tick-turned l.member seen (sak_in x.facts) l.past))

    pub hear-turn-at : (u n : ℕ) (x : Happening) (l : Life) (a : Announcement) → At run n x
        → keys_at settings u (upto n run) ≡ keys_in l
        → keys_at settings u (x ∷ upto n run) ≡ keys_of l.member (hear_turn l.member a l.past).past
        → IsHearTurn l.member a l.past (keys_at settings u (upto n run))
        (keys_at settings u (upto (suc n) run))
    hear-turn-at u n x l a at before after =
        subst (λ g. IsHearTurn l.member a l.past (keys_at settings u (upto n run)) g)
        (sym (ap (keys_at settings u) at ∙ after))
        (subst (λ h. IsHearTurn l.member a l.past h
        (keys_of l.member (hear_turn l.member a l.past).past)) (sym before)
        (hear-turned l.member a l.past))

    -- a life that goes on takes a step
    pub step-in : (u n : ℕ) (m : Mi) → n < length run → mi_at settings u (upto n run) ≡ Some m
        → mi_at settings u (upto (suc n) run) ≡ Some m → Step course u n
    step-in u n m high here then =
        let s = event-at n run high in
        let x : Happening = s.0 in
        let at = s.1 in
        elim (key-part u n x high at) [
          | rests same none ↦
              let whole : keys_at settings u (upto (suc n) run) ≡ keys_at settings u (upto n run) =
              ap (keys_at settings u) at ∙ same in
              record {
                new = [];
                whole = whole;
                timed = sym (tick-at u n x at ∙ none);
                begins = λ e c begun. inl (subst (λ h. begun_at h e ≡ Some c) whole begun);
                counts = counts-at u n x m high at here;
              }
          | ticks next l ev living living2 before after ↦
              let t = tick-turn-at u n next x l at before after in
              turn-step u n l.member.base 1 x m high at here t.turn
              (ap tick_count t.tick_is ∙ sym (tick-at u n x at ∙ ap (tick_of u) ev
              ∙ tick-own u next)) (tick-settled u n next x at ev)
          | hears number octets l a came living right living2 before after ↦
              let t = hear-turn-at u n x l a at before after in
              turn-step u n l.member.base 0 x m high at here t.turn
              (ap tick_count t.tick_is ∙ sym (tick-at u n x at
              ∙ reached-tick u n number x octets came))
              (settled-at u n x at (reached-settles u n number x octets came))
          | born l birth none mi fact ↦
              let same : l.member.mi ≡ m = let f = sym (ap (mi_at settings u) at ∙ mi) ∙ then in
              cc (f) in
              absurd (no-birth-of settings users run stepped fresh u u m n x high at here
              (subst (λ k. In (facts.Life u k) x.facts) same fact))
        ]

    pub lives-of : (u a : ℕ) (m : Mi)
        → ((n : ℕ) → a ≤ n → n ≤ length run → mi_at settings u (upto n run) ≡ Some m)
        → Lives course u a
    lives-of u a m stays = record {
      step =
          λ n p q. step-in u n m q (stays n p (omega arith)) (stays (suc n) (omega arith) q);
    }
