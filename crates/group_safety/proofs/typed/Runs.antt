-- The facts of a stepped run have their fields in their types.
use Rattle.std.proofs.Common.{◌≡◌, ◌≢◌, ◌<◌, ◌≤◌, ◌+◌, ◌∙◌, ◌^◌, inl, inr, ℕ, Bool, true, false, cond, List, [], ◌∷◌, length}
use Rattle.std.proofs.Common.{Option, Some, None, Result, Ok, Err, refl, sym, ap, subst, arith, nat_lt}
use Rattle.std.specs.Prelude.{All, ◌==◌, option_map, option_and_then, slice_get, unwrap_or}
use Rattle.std.proofs.lemmas.Bool.{eqb-true, eqb-false, eq-eqb, ne_eqb}
use Rattle.std.proofs.lemmas.List.Elements.{All-nil, All-cons, All-head, All-tail, All-append, All-replicate}
use Rattle.aes_block.specs.declared.secret.Secret.{Secret}
use Rattle.aes_block.specs.Secrets.{secret_octets}
use Rattle.gcm_core.proofs.Public.{IsOctet}
use Rattle.gcm_frames.specs.Protected.{IsSci}
use Rattle.gcm_frames.specs.Tags.{is_sec}
use Rattle.lan_base.specs.declared.address.Mi.{Mi}
use Rattle.lan_base.specs.declared.address.Sci.{Sci}
use Rattle.lan_base.specs.declared.name.Name.{Name}
use Rattle.lan_base.specs.declared.frame.UserFrame.{UserFrame}
use Rattle.mkpdu_codec.specs.declared.announcement.Announcement.{Announcement}
use Rattle.peer_lists.specs.Histories.{clock}
use Rattle.rx_slots.specs.Histories.{Receiving, installed as slot_installed, removed as slot_removed, heard as slot_heard}
use Rattle.rx_slots.specs.Numbers.{answer}
use Rattle.sak_exchange.specs.declared.due.Seen.{Seen}
use Rattle.sak_exchange.specs.declared.held_key.Key.{Key}
use Rattle.sak_exchange.specs.Beginning.{Beginning}
use Rattle.sak_exchange.specs.Held.{transmitting}
use Rattle.mka_station.specs.Hearing.{frame_turn, judged, heard_turn, hear_turn, answer_at, follow_at, key_taken}
use Rattle.mka_station.specs.Lives.{Member, Entry, ticked, heard, peers_of, keys_of}
use Rattle.mka_station.specs.Restart.{ending}
use Rattle.mka_station.specs.Tick.{tick_turn, with_sent, with_install, with_beginning}
use Rattle.mka_station.specs.declared.verdict.DropReason.{DropReason}
use Rattle.lan_core.specs.declared.event.Event.{Event}
use Rattle.lan_core.specs.declared.event.Event.TheVariants as events
use Rattle.lan_core.specs.declared.fact.Fact.{Fact}
use Rattle.lan_core.specs.declared.fact.Fact.TheVariants as facts
use Rattle.lan_core.specs.declared.fact.Lack.TheVariants.{NoKey, Exhausted}
use Rattle.lan_core.specs.declared.settings.Settings.{Settings}
use Rattle.lan_core.specs.Run.{Run, Profile, happened, stations, started, facts_of}
use Rattle.lan_core.specs.Ledgers.{Frame, framed, air, gather, with_one, frame_at, next_frame, installs_at, installs}
use Rattle.lan_core.specs.Lives.{Life, life, begun, keys_in, lived, lived_hearing, lived_reached, lived_ticking, receiving, reaches, with_data, slot_change, sak_in, no_sak, seen_at, drawn_mi, drawn_sak, transmitting_at}
use Rattle.lan_core.specs.Claims.{Waiting, next, claimed, claimed_by, waiting, waiting_under, frame_of_claim, frame_by, user_at}
use Rattle.lan_core.specs.Expected.{expected, reaction_facts, tick_facts, reached_facts, restart_facts, claim_fact, number_fact, lack, last_number, emit_facts}
use Rattle.lan_core.specs.Legal.{IsStep, IsStepped}
use Rattle.lan_core.specs.Order.{ticks, IsOfSuite, IsSendable}
use Rattle.lan_core.specs.Types.{AreOctets, IsMi, IsSecret, IsUserFrame, IsSetting, IfDrawn}
use Rattle.lan_core.specs.TypedFacts.{IsTypedFact}
use Rattle.lan_core.proofs.Public.{mapped, chained, lives-count}
use Rattle.group_safety.proofs.Members.{In, in-either}
use Rattle.group_safety.proofs.once.Currents.{some-same, none-some}
use Rattle.group_safety.proofs.once.KeysSound.{transmitting-installed}
use Rattle.group_safety.proofs.once.LiveHeard.{in-find}
use Rattle.group_safety.proofs.once.Living.{kek-key, ick-key}
use Rattle.group_safety.proofs.once.Nexts.{in-get}
use Rattle.group_safety.proofs.typed.OctetsMade.{protected-octets}
use Rattle.group_safety.proofs.typed.Hearings.{Refuses, hearing-typed, ending-typed}
use Rattle.group_safety.proofs.typed.Slots.{AreReceived, secret-key, answer-typed}
use Rattle.group_safety.proofs.typed.Turns.{IsTypedKey, AreTyped, IsTypedMember, AllHeard, AreFew, IsTypedTurn, reaction-told, tick-typed}

-- ---- what holds of a run

pub record IsTypedLife (l : Life) (most : ℕ) : Type 0 where
  pub member : IsTypedMember l.member
  pub heard : AllHeard l.past
  pub keys : AreTyped (keys_in l)
  pub clock : clock (peers_of l.member l.past) ≤ most

pub record IsWaiting (users : List UserFrame) (w : Waiting) : Type 0 where
  pub sak : IsSecret w.key.sak
  pub user : IsSendable (user_at users w.user)

pub record IsStation (p : Profile) : Type 0 where
  pub sci : IsSci p.sci
  pub priority : p.priority < 256

pub record Stands (settings : Settings) (users : List UserFrame) (r : Run) : Type 0 where
  pub stations : (p : Profile) → In p (stations r) → IsStation p
  pub lives : (s : ℕ) (l : Life) → life settings s r ≡ Some l → IsTypedLife l (ticks r)
  pub slots : (s : ℕ) → AreReceived (receiving s r)
  pub waits : (w : Waiting) → In w (claimed settings r) → IsWaiting users w
  pub air : (f : Frame) → In f (air r) → AreOctets f.octets
  pub told : All IsTypedFact (facts_of r)

-- ---- what typed facts add to ledgers

air-told : (fs : List Fact) (xs : List Frame) → All IsTypedFact fs
    → ((f : Frame) → In f xs → AreOctets f.octets) → (f : Frame) → In f (gather framed fs xs)
    → AreOctets f.octets
air-told [] xs all are = are
air-told (fact ∷ fs) xs all are =
    air-told fs (with_one (framed fact) xs) (All-tail IsTypedFact fact fs all)
    (one fact (All-head IsTypedFact fact fs all))
  where
    one : (fact : Fact) → IsTypedFact fact → (f : Frame) → In f (with_one (framed fact) xs)
        → AreOctets f.octets
    one (facts.Framed k s sec octets) is f (inl e) =
        subst (λ (f : Frame). AreOctets f.octets) (sym e) is.1
    one (facts.Framed k s sec octets) is f (inr i) = are f i
    one _ is f i = are f i

slots-told : (t : ℕ) (fs : List Fact) (h : List Receiving) → All IsTypedFact fs → AreReceived h
    → AreReceived (gather (slot_change t) fs h)
slots-told t [] h all are = are
slots-told t (fact ∷ fs) h all are =
    slots-told t fs (with_one (slot_change t fact) h)
    (All-tail IsTypedFact fact fs all)
    (one fact (All-head IsTypedFact fact fs all))
  where
    one : (fact : Fact) → IsTypedFact fact → AreReceived (with_one (slot_change t fact) h)
    one (facts.Installed s id an epoch sak) is = go (s == t)
      where
        go : (b : Bool)
            → AreReceived (with_one (cond b (Some (slot_installed an sak)) None) h)
        go true = (is.2, are)
        go false = are
    one (facts.Dropped s id an) is = go (s == t)
      where
        go : (b : Bool)
            → AreReceived (with_one (cond b (Some (slot_removed an)) None) h)
        go true = are
        go false = are
    one (facts.Retired s id an) is = go (s == t)
      where
        go : (b : Bool)
            → AreReceived (with_one (cond b (Some (slot_removed an)) None) h)
        go true = are
        go false = are
    one _ is = are

if-heard : (o : Option (List ℕ)) (h : List Receiving)
    → ((octets : List ℕ) → o ≡ Some octets → AreOctets octets) → AreReceived h
    → AreReceived (with_data o h)
if-heard None h is are = are
if-heard (Some octets) h is are = go (is_sec octets)
  where
    go : (b : Bool) → AreReceived (cond b (slot_heard octets ∷ h) h)
    go true = (is octets refl, are)
    go false = are

-- ---- one event more

-- what is to be shown of an event: its facts, the octets that it brings, the lives after it, and
-- what waits then
pub record IsTypedEvent (settings : Settings) (users : List UserFrame) (e : Event) (f : List Fact) (r : Run) :
    Type 0 where
  pub told : All IsTypedFact f
  pub brings : (s : ℕ) (octets : List ℕ) → reaches s r e ≡ Some octets → AreOctets octets
  pub lives : (s : ℕ) (l : Life) → life settings s (happened e f ∷ r) ≡ Some l
      → IsTypedLife l (ticks (happened e f ∷ r))
  pub waits : (w : Waiting) → In w (claimed_by settings r e) → IsWaiting users w
  pub starts : (p : Profile) → In p (started e) → IsStation p

come : (settings : Settings) (users : List UserFrame) (e : Event) (f : List Fact) (r : Run)
    → Stands settings users r → IsTypedEvent settings users e f r
    → Stands settings users (happened e f ∷ r)
unfolding air receiving claimed stations
come settings users e f r old is = record {
  stations = λ p i. elim (in-either (stations r) (started e) p i) [
    | inl j ↦ old.stations p j
    | inr j ↦ is.starts p j
  ];
  lives = is.lives;
  slots = λ s. slots-told s f (with_data (reaches s r e) (receiving s r)) is.told
      (if-heard (reaches s r e) (receiving s r) (is.brings s) (old.slots s));
  waits = λ w i. elim (in-either (claimed settings r) (claimed_by settings r e) w i) [
    | inl j ↦ old.waits w j
    | inr j ↦ is.waits w j
  ];
  air = air-told f (air r) is.told old.air;
  told = All-append IsTypedFact (facts_of r) f old.told is.told;
}

later : (l : Life) (m n : ℕ) → m ≤ n → IsTypedLife l m → IsTypedLife l n
later l m n more is =
    let less = is.clock in
    record { member = is.member; heard = is.heard; keys = is.keys; clock = omega (arith, less, more) }

-- the lives after an event at one station
at-one : (settings : Settings) (users : List UserFrame) (s : ℕ) (e : Event) (f : List Fact) (r : Run)
    → Stands settings users r
    → ((l : Life) → life settings s (happened e f ∷ r) ≡ Some l
    → IsTypedLife l (ticks (happened e f ∷ r)))
    → ((t : ℕ) → t ≢ s → life settings t (happened e f ∷ r) ≡ life settings t r)
    → (t : ℕ) (l : Life) → life settings t (happened e f ∷ r) ≡ Some l
    → IsTypedLife l (ticks (happened e f ∷ r))
at-one settings users s e f r old here others t l is = go (t == s) refl
  where
    go : (b : Bool) → (t == s) ≡ b → IsTypedLife l (ticks (happened e f ∷ r))
    go true same = here l (subst (λ u. life settings u (happened e f ∷ r) ≡ Some l) (eqb-true t s same) is)
    go false differ =
        later l (ticks r) (ticks (happened e f ∷ r)) (omega arith)
        (old.lives t l (sym (others t (eqb-false t s differ)) ∙ is))

-- the lives after an event that changes none
at-none : (settings : Settings) (users : List UserFrame) (e : Event) (f : List Fact) (r : Run)
    → Stands settings users r
    → ((t : ℕ) → life settings t (happened e f ∷ r) ≡ life settings t r)
    → (t : ℕ) (l : Life) → life settings t (happened e f ∷ r) ≡ Some l
    → IsTypedLife l (ticks (happened e f ∷ r))
at-none settings users e f r old same t l is =
    later l (ticks r) (ticks (happened e f ∷ r)) (omega arith) (old.lives t l (sym (same t) ∙ is))

no-wait : (users : List UserFrame) (w : Waiting) → In w [] → IsWaiting users w
no-wait users w i = elim i [ ]

no-start : (p : Profile) → In p [] → IsStation p
no-start p i = elim i [ ]

off : (s t : ℕ) → t ≢ s → (s == t) ≡ false
off s t other = ne_eqb s t (λ same. other (sym same))

on : (s : ℕ) → (s == s) ≡ true
on s = eq-eqb s s refl

-- the life of a station to which something happened
life-here : (f : Life → Life) (s : ℕ) (o other : Option Life) (l : Life) → o ≡ Some l
    → cond (s == s) (option_map f o) other ≡ Some (f l)
life-here f s o other l is =
    ap (λ b. cond b (option_map f o) other) (on s) ∙ ap (option_map f) is

life-reached : (s : ℕ) (o : Option Life) (l : Life) (x : Option (List ℕ)) (octets : List ℕ)
    → o ≡ Some l → x ≡ Some octets
    → lived_reached o (cond (s == s) x None) ≡ Some (lived_hearing l octets)
life-reached s o l x octets is brings =
    ap (λ b. lived_reached o (cond b x None)) (on s) ∙ ap (lived_reached o) brings
    ∙ ap (λ o. lived_reached o (Some octets)) is

-- how many installs there are, at most
few-installs : (settings : Settings) (users : List UserFrame) (r : Run) (s : ℕ)
    → IsStepped settings users r → length (installs_at s r) ≤ 4096
unfolding installs
few-installs settings users [] s stepped = omega arith
few-installs settings users (x ∷ r) s (step, before) = step.within.installs s

-- the next frame has a number of 32 bits
few-frames : (settings : Settings) (users : List UserFrame) (r : Run)
    → IsStepped settings users r → next_frame r < 2 ^ 32
unfolding air
few-frames settings users [] stepped = omega arith
few-frames settings users (x ∷ r) (step, before) =
    let few = step.within.frames in omega (arith, few)

few-in : (settings : Settings) (users : List UserFrame) (r : Run) (s : ℕ) (l : Life)
    → IsStepped settings users r → life settings s r ≡ Some l → AreFew l.member l.past
few-in settings users r s l stepped is =
    let count = lives-count settings users r stepped s l is in
    let most = few-installs settings users r s stepped in
    omega (arith, count, most)

-- ---- a new life

new-life : (settings : Settings) (s : ℕ) (r : Run) (f : List Fact) (p : Profile) (l : Life) (most : ℕ)
    → IsSetting settings → IsStation p → IfDrawn IsMi (drawn_mi f)
    → begun settings s r f p ≡ Some l → IsTypedLife l most
unfolding keys_of peers_of
new-life settings s r f p l most is station drawn e =
    let t = mapped _ (drawn_mi f) l e in
    let mi : IsMi t.0 = subst (IfDrawn IsMi) t.1 drawn in
    subst (λ l. IsTypedLife l most) t.2 (record {
      member = record {
        sci = station.sci;
        priority = station.priority;
        named = is.ckn;
        ckn = is.name_octets;
        kek = kek-key settings is;
        ick = ick-key settings p is;
        mi = mi;
      };
      heard = λ a i. elim i [ ];
      keys = λ k i. elim i [ ];
      clock = omega arith;
    })

placed-life : (settings : Settings) (users : List UserFrame) (s : ℕ) (r : Run) (f : List Fact) (l : Life)
    (most : ℕ) → IsSetting settings → Stands settings users r → IfDrawn IsMi (drawn_mi f)
    → option_and_then (begun settings s r f) (slice_get (stations r) s) ≡ Some l
    → IsTypedLife l most
placed-life settings users s r f l most is old drawn e =
    let t = chained (begun settings s r f) (slice_get (stations r) s) l e in
    new-life settings s r f t.0 l most is
    (old.stations t.0 (in-get (stations r) s t.0 t.1)) drawn t.2

-- ---- clocks

tick-clock : (m : Member) (said : Option Announcement) (ms : Option (List Mi)) (key : Option Key)
    (lead : Option Beginning) (p : List Entry)
    → clock (peers_of m (with_sent said (with_install ms key (with_beginning lead (ticked ∷ p)))))
    ≡ clock (peers_of m p) + 1
unfolding peers_of
tick-clock m None ms None None p = refl
tick-clock m None ms None (Some b) p = refl
tick-clock m None ms (Some k) None p = refl
tick-clock m None ms (Some k) (Some b) p = refl
tick-clock m (Some a) ms None None p = refl
tick-clock m (Some a) ms None (Some b) p = refl
tick-clock m (Some a) ms (Some k) None p = refl
tick-clock m (Some a) ms (Some k) (Some b) p = refl

turn-clock : (m : Member) (seen : Seen) (sak : Secret) (p : List Entry)
    → clock (peers_of m (tick_turn m seen sak p).past) ≡ clock (peers_of m p) + 1
unfolding tick_turn
turn-clock m seen sak p = tick-clock m _ _ _ _ p

hear-clock : (m : Member) (a : Announcement) (p : List Entry)
    → clock (peers_of m (hear_turn m a p).past) ≡ clock (peers_of m p)
unfolding hear_turn peers_of
hear-clock m a p = go (follow_at m a p) (key_taken (answer_at m a p))
  where
    go : (b : Option Beginning) (k : Option Key)
        → clock (peers_of m (with_beginning b (with_install None k (heard a ∷ p))))
        ≡ clock (peers_of m p)
    go None None = refl
    go None (Some k) = refl
    go (Some b) None = refl
    go (Some b) (Some k) = refl

frame-clock : (m : Member) (frame : List ℕ) (p : List Entry)
    → clock (peers_of m (frame_turn m frame p).past) ≡ clock (peers_of m p)
frame-clock m frame p = go (judged m.setup frame)
  where
    go : (j : Result Announcement DropReason)
        → clock (peers_of m (heard_turn m j p).past) ≡ clock (peers_of m p)
    go (Ok a) = hear-clock m a p
    go (Err reason) = refl

-- ---- events

no-secret : IsSecret no_sak
no-secret = (refl, All-replicate IsOctet 16 0 (omega arith))

drawn-secret : (settings : Settings) (o : Option Secret) → IfDrawn (IsOfSuite settings) o
    → IsSecret (unwrap_or o no_sak)
drawn-secret settings None is = no-secret
drawn-secret settings (Some sak) is = is.secret

start-comes : (settings : Settings) (users : List UserFrame) (name : Name) (sci : Sci) (priority : ℕ)
    (f : List Fact) (r : Run) → IsStep settings users (happened (events.Start name sci priority) f) r
    → Stands settings users r → IsTypedEvent settings users (events.Start name sci priority) f r
unfolding expected life
start-comes settings users name sci priority f r step old =
    let is = mapped (λ mi. facts.Life (length (stations r)) mi ∷ []) (drawn_mi f) f step.shows in
    let mi : IsMi is.0 = subst (IfDrawn IsMi) is.1 step.in_order.1.1 in
    let station : IsStation (record { name = name; sci = sci; priority = priority }) =
    record { sci = step.in_order.0.1; priority = step.in_order.0.2 } in
    record {
      told = subst (All IsTypedFact) is.2
          (All-cons IsTypedFact (facts.Life (length (stations r)) is.0) [] mi (All-nil IsTypedFact));
      brings = λ s octets e. absurd (none-some e);
      lives = at-one settings users (length (stations r)) (events.Start name sci priority) f r old
          (λ l at. new-life settings (length (stations r)) r f
          (record { name = name; sci = sci; priority = priority }) l _ step.setting station step.in_order.1.1
          (rw (on (length (stations r))) at at))
          (λ t other. rw (off (length (stations r)) t other) refl);
      waits = no-wait users;
      starts = λ p i. elim i [ inl e ↦ subst IsStation (sym e) station | inr j ↦ no-start p j ];
    }

tick-comes : (settings : Settings) (users : List UserFrame) (s next : ℕ) (f : List Fact) (r : Run)
    → IsStepped settings users r → IsStep settings users (happened (events.Tick s next) f) r
    → Stands settings users r → IsTypedEvent settings users (events.Tick s next) f r
unfolding expected life
tick-comes settings users s next f r stepped step old = record {
  told = subst (All IsTypedFact) is.2
      (All-cons IsTypedFact (facts.Ticked s (clock (peers_of l.member l.past) + 1) next) _ (at, step.in_order.0.1)
      (reaction-told s 0 (next_frame r) (tick_turn l.member seen sak l.past).reaction (omega arith) number
      turn.reaction));
  brings = λ t octets e. absurd (none-some e);
  lives = at-one settings users s (events.Tick s next) f r old
      (λ n there. subst (λ n. IsTypedLife n (ticks (happened (events.Tick s next) f ∷ r)))
      (some-same (sym (life-here (lived_ticking settings s r next sak) s (life settings s r)
      (life settings s r) l is.1) ∙ there)) after)
      (λ t other. rw (off s t other) refl);
  waits = no-wait users;
  starts = no-start;
}
  where
    is : (l : Life) × (life settings s r ≡ Some l) × (tick_facts settings s r next (sak_in f) l ≡ f)
    is = mapped (tick_facts settings s r next (sak_in f)) (life settings s r) f step.shows

    l : Life
    l = is.0

    sak : Secret
    sak = sak_in f

    seen : Seen
    seen = seen_at settings s r l next

    v : IsTypedLife l (ticks r)
    v = old.lives s l is.1

    most : 1 + ticks r ≤ 1000000
    most = step.within.ticks

    at : clock (peers_of l.member l.past) + 1 < 2 ^ 32
    at = let c = v.clock in omega (arith, c, most)

    number : next_frame r < 2 ^ 32
    number = few-frames settings users r stepped

    turn : IsTypedTurn l.member (tick_turn l.member seen sak l.past).reaction
        (tick_turn l.member seen sak l.past).past
    turn = tick-typed l.member seen sak l.past v.member v.heard v.keys
        (drawn-secret settings (drawn_sak f) step.in_order.1.2) (few-in settings users r s l stepped is.1)

    after : IsTypedLife (lived_ticking settings s r next sak l) (ticks (happened (events.Tick s next) f ∷ r))
    after = record {
      member = v.member;
      heard = turn.heard;
      keys = turn.keys;
      clock = let c = v.clock in let d = turn-clock l.member seen sak l.past in omega (arith, c, d);
    }

-- octets reach a station
reach-comes : Refuses → (settings : Settings) (users : List UserFrame) (s number : ℕ) (octets : List ℕ)
    (e : Event) (f : List Fact) (r : Run) (l : Life) → IsStepped settings users r
    → Stands settings users r → number < 2 ^ 32 → AreOctets octets
    → life settings s r ≡ Some l → reached_facts settings s r number octets l ≡ f
    → life settings s (happened e f ∷ r) ≡ Some (lived_hearing l octets)
    → ((t : ℕ) → t ≢ s → life settings t (happened e f ∷ r) ≡ life settings t r)
    → claimed_by settings r e ≡ [] → started e ≡ []
    → ((t : ℕ) (xs : List ℕ) → reaches t r e ≡ Some xs → AreOctets xs)
    → IsTypedEvent settings users e f r
reach-comes refuses settings users s number octets e f r l stepped old small all alive shows here others
    claims starts brings = record {
      told = subst (All IsTypedFact) shows (by-kind (is_sec octets));
      brings = brings;
      lives = at-one settings users s e f r old
          (λ n there. subst (λ n. IsTypedLife n (ticks (happened e f ∷ r))) (some-same (sym here ∙ there)) after)
          others;
      waits = λ w i. no-wait users w (subst (λ ws. In w ws) claims i);
      starts = λ p i. no-start p (subst (λ ps. In p ps) starts i);
    }
  where
    v : IsTypedLife l (ticks r)
    v = old.lives s l alive

    turn : IsTypedTurn l.member (frame_turn l.member octets l.past).reaction
        (frame_turn l.member octets l.past).past
    turn = hearing-typed refuses l.member octets l.past all v.member v.heard v.keys
        (few-in settings users r s l stepped alive)

    by-kind : (b : Bool) → All IsTypedFact (cond b
        (facts.Arrived number s (answer l.member.setup.sci settings.window (receiving s r) octets) ∷ [])
        (reaction_facts s number 0 (frame_turn l.member octets l.past).reaction))
    by-kind true = All-cons IsTypedFact
        (facts.Arrived number s (answer l.member.setup.sci settings.window (receiving s r) octets)) []
        (small, answer-typed l.member.setup.sci settings.window (receiving s r) octets (old.slots s) all)
        (All-nil IsTypedFact)
    by-kind false = reaction-told s number 0 (frame_turn l.member octets l.past).reaction small
        (omega arith) turn.reaction

    after : IsTypedLife (lived_hearing l octets) (ticks (happened e f ∷ r))
    after = go (is_sec octets)
      where
        go : (b : Bool)
            → IsTypedLife (cond b l (lived l (frame_turn l.member octets l.past))) (ticks (happened e f ∷ r))
        go true = later l (ticks r) (ticks (happened e f ∷ r)) (omega arith) v
        go false = record {
          member = v.member;
          heard = turn.heard;
          keys = turn.keys;
          clock = let c = v.clock in let d = frame-clock l.member octets l.past in omega (arith, c, d);
        }

frame-octets : (settings : Settings) (users : List UserFrame) (r : Run) (number : ℕ) (x : Frame)
    → Stands settings users r → frame_at r number ≡ Some x → AreOctets x.octets
frame-octets settings users r number x old is =
    old.air x (in-find (λ y. y.number == number) (air r) x is)

if-reaches : (b : Bool) (o : Option (List ℕ)) (xs : List ℕ)
    → ((ys : List ℕ) → o ≡ Some ys → AreOctets ys) → cond b o None ≡ Some xs → AreOctets xs
if-reaches true o xs is e = is xs e
if-reaches false o xs is e = absurd (none-some e)

deliver-comes : Refuses → (settings : Settings) (users : List UserFrame) (frame s : ℕ) (f : List Fact)
    (r : Run) → IsStepped settings users r
    → IsStep settings users (happened (events.Deliver frame s) f) r → Stands settings users r
    → IsTypedEvent settings users (events.Deliver frame s) f r
unfolding expected life
deliver-comes refuses settings users frame s f r stepped step old =
    let there = chained (λ x. option_map (reached_facts settings s r frame x.octets) (life settings s r))
    (frame_at r frame) f step.shows in
    let is = mapped (reached_facts settings s r frame there.0.octets) (life settings s r) f there.2 in
    reach-comes refuses settings users s frame there.0.octets (events.Deliver frame s) f r is.0 stepped old
    step.in_order.0.0 (frame-octets settings users r frame there.0 old there.1) is.1 is.2
    (life-reached s (life settings s r) is.0 (option_map (λ x. x.octets) (frame_at r frame))
    there.0.octets is.1 (ap (option_map (λ x. x.octets)) there.1))
    (λ t other. rw (off s t other) refl) refl refl
    (λ t xs e. if-reaches (s == t) (option_map (λ x. x.octets) (frame_at r frame)) xs
    (λ ys g. let x = mapped (λ (x : Frame). x.octets) (frame_at r frame) ys g in
    subst AreOctets x.2 (frame-octets settings users r frame x.0 old x.1)) e)

inject-comes : Refuses → (settings : Settings) (users : List UserFrame) (s : ℕ) (octets : List ℕ)
    (f : List Fact) (r : Run) → IsStepped settings users r
    → IsStep settings users (happened (events.Inject s octets) f) r → Stands settings users r
    → IsTypedEvent settings users (events.Inject s octets) f r
unfolding expected life
inject-comes refuses settings users s octets f r stepped step old =
    let is = mapped (reached_facts settings s r 0 octets) (life settings s r) f step.shows in
    let all : AreOctets octets = step.in_order.0.1 in
    reach-comes refuses settings users s 0 octets (events.Inject s octets) f r is.0 stepped old
    (omega arith) all is.1 is.2
    (life-reached s (life settings s r) is.0 (Some octets) octets is.1 refl)
    (λ t other. rw (off s t other) refl) refl refl
    (λ t xs e. if-reaches (s == t) (Some octets) xs (λ ys g. subst AreOctets (some-same g) all) e)

restart-comes : (settings : Settings) (users : List UserFrame) (s : ℕ) (f : List Fact) (r : Run)
    → IsStep settings users (happened (events.Restart s) f) r → Stands settings users r
    → IsTypedEvent settings users (events.Restart s) f r
unfolding expected life
restart-comes settings users s f r step old =
    let drew = chained (λ mi. option_map (restart_facts s mi) (life settings s r)) (drawn_mi f) f
    step.shows in
    let is = mapped (restart_facts s drew.0) (life settings s r) f drew.2 in
    let mi : IsMi drew.0 = subst (IfDrawn IsMi) drew.1 step.in_order.1.1 in
    record {
      told = subst (All IsTypedFact) is.2
          (All-cons IsTypedFact (facts.Life s drew.0)
          (reaction_facts s 0 0 (ending is.0.member is.0.past)) mi
          (reaction-told s 0 0 (ending is.0.member is.0.past) (omega arith) (omega arith)
          (ending-typed is.0.member is.0.past (old.lives s is.0 is.1).keys)));
      brings = λ t octets e. absurd (none-some e);
      lives = at-one settings users s (events.Restart s) f r old
          (λ l at. placed-life settings users s r f l _ step.setting old step.in_order.1.1
          (rw (on s) at at))
          (λ t other. rw (off s t other) refl);
      waits = no-wait users;
      starts = no-start;
    }

-- the key that transmits at a station
transmits-typed : (settings : Settings) (users : List UserFrame) (s : ℕ) (r : Run) (k : Key)
    → Stands settings users r → transmitting_at settings s r ≡ Some k → IsTypedKey k
transmits-typed settings users s r k old is =
    let t = chained (λ l. transmitting (keys_in l)) (life settings s r) k is in
    (old.lives s t.0 t.1).keys k (transmitting-installed (keys_in t.0) k t.2)

claim-comes : (settings : Settings) (users : List UserFrame) (s user pn : ℕ) (f : List Fact) (r : Run)
    → IsStep settings users (happened (events.Claim s user pn) f) r → Stands settings users r
    → IsTypedEvent settings users (events.Claim s user pn) f r
unfolding expected life
claim-comes settings users s user pn f r step old =
    let is = mapped (λ l. claim_fact settings s r pn (transmitting_at settings s r) ∷ [])
    (life settings s r) f step.shows in
    record {
      told = subst (All IsTypedFact) is.2
          (All-cons IsTypedFact (claim_fact settings s r pn (transmitting_at settings s r)) []
          (claimed-fact (transmitting_at settings s r) refl (pn == 0)) (All-nil IsTypedFact));
      brings = λ t octets e. absurd (none-some e);
      lives = at-none settings users (events.Claim s user pn) f r old (λ t. refl);
      waits = waits-on (transmitting_at settings s r) refl;
      starts = no-start;
    }
  where
    epoch-small : (k : Key) → transmitting_at settings s r ≡ Some k → k.epoch < 2 ^ 32
    epoch-small k e = (transmits-typed settings users s r k old e).epoch

    claimed-fact : (o : Option Key) → transmitting_at settings s r ≡ o → (b : Bool)
        → IsTypedFact (cond b (facts.Unclaimed s (lack settings s r o)) (number_fact s pn o))
    claimed-fact None e true = tt
    claimed-fact None e false = tt
    claimed-fact (Some k) e true = lacking (nat_lt last_number (next settings s k.epoch r))
      where
        lacking : (b : Bool)
            → IsTypedFact (facts.Unclaimed s (cond b (Exhausted k.epoch) NoKey))
        lacking true = epoch-small k e
        lacking false = tt
    claimed-fact (Some k) e false = (epoch-small k e, step.in_order.0.2)

    waits-on : (o : Option Key) → transmitting_at settings s r ≡ o
        → (w : Waiting) → In w (waiting_under s user pn o) → IsWaiting users w
    waits-on None e w i = elim i [ ]
    waits-on (Some k) e w i = go (pn == 0) refl i
      where
        go : (b : Bool) → (pn == 0) ≡ b
            → In w (cond b [] (record { station = s; key = k; pn = pn; user = user } ∷ []))
            → IsWaiting users w
        go true z j = elim j [ ]
        go false z j = elim j [
          | inl same ↦ subst (IsWaiting users) (sym same) (record {
            sak = (transmits-typed settings users s r k old e).sak;
            user = step.in_order.1.1;
          })
          | inr none ↦ no-wait users w none
        ]

sent-octets : (users : List UserFrame) (w : Waiting) (p : Profile) (user : UserFrame)
    → IsWaiting users w → IsStation p → user_at users w.user ≡ Some user
    → AreOctets (frame_by w p user)
sent-octets users w p user is station found =
    let sends : IsUserFrame user = subst IsSendable found is.user in
    protected-octets (secret_octets w.key.sak) p.sci w.key.an w.pn w.key.conf user
    (secret-key w.key.sak is.sak) station.sci sends.destination.1 sends.octets

emit-comes : (settings : Settings) (users : List UserFrame) (f : List Fact) (r : Run)
    → IsStepped settings users r → IsStep settings users (happened events.Emit f) r
    → Stands settings users r → IsTypedEvent settings users events.Emit f r
unfolding expected life
emit-comes settings users f r stepped step old =
    let there = chained (emit_facts users r) (waiting settings r) f step.shows in
    let w = there.0 in
    let is = mapped (λ octets. facts.Framed (next_frame r) w.station true octets ∷ [])
    (frame_of_claim users r w) f there.2 in
    let at = chained (λ p. option_map (frame_by w p) (user_at users w.user))
    (slice_get (stations r) w.station) is.0 is.1 in
    let by = mapped (frame_by w at.0) (user_at users w.user) is.0 at.2 in
    let octets : AreOctets is.0 = subst AreOctets by.2
    (sent-octets users w at.0 by.0 (old.waits w (in-get (claimed settings r) _ w there.1))
    (old.stations at.0 (in-get (stations r) w.station at.0 at.1)) by.1) in
    record {
      told = subst (All IsTypedFact) is.2
          (All-cons IsTypedFact (facts.Framed (next_frame r) w.station true is.0) []
          (few-frames settings users r stepped, octets) (All-nil IsTypedFact));
      brings = λ t octets e. absurd (none-some e);
      lives = at-none settings users events.Emit f r old (λ t. refl);
      waits = no-wait users;
      starts = no-start;
    }

-- ---- runs

event-comes : Refuses → (settings : Settings) (users : List UserFrame) (e : Event) (f : List Fact)
    (r : Run) → IsStepped settings users r → IsStep settings users (happened e f) r
    → Stands settings users r → IsTypedEvent settings users e f r
event-comes refuses settings users (events.Start name sci priority) f r stepped step old =
    start-comes settings users name sci priority f r step old
event-comes refuses settings users (events.Tick s next) f r stepped step old =
    tick-comes settings users s next f r stepped step old
event-comes refuses settings users (events.Deliver frame s) f r stepped step old =
    deliver-comes refuses settings users frame s f r stepped step old
event-comes refuses settings users (events.Restart s) f r stepped step old =
    restart-comes settings users s f r step old
event-comes refuses settings users (events.Claim s user pn) f r stepped step old =
    claim-comes settings users s user pn f r step old
event-comes refuses settings users events.Emit f r stepped step old =
    emit-comes settings users f r stepped step old
event-comes refuses settings users (events.Inject s octets) f r stepped step old =
    inject-comes refuses settings users s octets f r stepped step old

run-stands : Refuses → (settings : Settings) (users : List UserFrame) (r : Run)
    → IsStepped settings users r → Stands settings users r
unfolding life stations receiving claimed air
run-stands refuses settings users [] stepped = record {
  stations = λ p i. elim i [ ];
  lives = λ s l e. absurd (none-some e);
  slots = λ s. tt;
  waits = λ w i. elim i [ ];
  air = λ x i. elim i [ ];
  told = All-nil IsTypedFact;
}
run-stands refuses settings users (x ∷ r) (step, before) =
    let old = run-stands refuses settings users r before in
    come settings users x.event x.facts r old
    (event-comes refuses settings users x.event x.facts r before step old)

pub facts-typed : Refuses → (settings : Settings) (users : List UserFrame) (r : Run)
    → IsStepped settings users r → All IsTypedFact (facts_of r)
facts-typed refuses settings users r stepped = (run-stands refuses settings users r stepped).told
