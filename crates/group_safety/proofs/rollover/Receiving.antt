-- Along a run, the receive slots of each station have the keys that it receives.
use Rattle.std.proofs.Common.{◌≡◌, ℕ, ◌<◌, Bool, true, false, List, [], ◌∷◌, ◌++◌, map, length}
use Rattle.std.proofs.Common.{refl, ap, sym, ◌∙◌, subst, arith}
use Rattle.std.proofs.Common.{Option, Some, None, is_some, Result, Ok, Err}
use Rattle.std.proofs.lemmas.Bool.{eqb-true, eq-eqb}
use Rattle.std.specs.Prelude.{◌==◌, nat_eq, option_map, option_and_then, slice_get}
use Rattle.lan_base.specs.declared.frame.UserFrame.{UserFrame}
use Rattle.lan_base.specs.declared.address.Mi.{Mi}
use Rattle.gcm_frames.specs.Tags.{is_sec}
use Rattle.rx_slots.specs.Histories.{Receiving}
use Rattle.mkpdu_codec.specs.declared.announcement.Announcement.{Announcement}
use Rattle.sak_exchange.specs.declared.change.Change.{Change}
use Rattle.sak_exchange.specs.declared.change.Change.TheVariants as changes
use Rattle.sak_exchange.specs.declared.held_key.Key.{Key}
use Rattle.sak_exchange.specs.Histories.{Keying}
use Rattle.sak_exchange.specs.Histories as keyings
use Rattle.sak_exchange.specs.Held.{KeepsRules, received, held}
use Rattle.sak_exchange.specs.Beginning.{Beginning}
use Rattle.sak_exchange.specs.Outcomes.{beginning}
use Rattle.sak_exchange.proofs.Public.{by_test, by_option}
use Rattle.mka_station.specs.declared.reaction.Reaction.{Reaction}
use Rattle.mka_station.specs.declared.verdict.DropReason.{DropReason}
use Rattle.mka_station.specs.Lives.{Member, Entry, keys_of, elected}
use Rattle.mka_station.specs.Lives as lives
use Rattle.mka_station.specs.Views.{view}
use Rattle.mka_station.specs.Tick.{tick_turn, led, made, ended, install_changes}
use Rattle.mka_station.specs.Hearing.{judged, hear_turn, frame_turn, key_taken, take_changes}
use Rattle.mka_station.specs.Restart.{ending}
use Rattle.mka_station.specs.Tick.{roster_at}
use Rattle.mka_station.specs.Hearing.{offer_at, answer_at, taken_past, follow_at}
use Rattle.lan_core.specs.declared.event.Event.TheVariants as events
use Rattle.lan_core.specs.declared.fact.Fact.{Fact}
use Rattle.lan_core.specs.declared.fact.Fact.TheVariants as facts
use Rattle.lan_core.specs.declared.settings.Settings.{Settings}
use Rattle.lan_core.specs.Run.{Run, Happening, Profile, stations}
use Rattle.lan_core.specs.Ledgers.{gather, with_one, next_frame}
use Rattle.lan_core.specs.Lives.{Life, life, receiving, reaches, with_data, slot_change}
use Rattle.lan_core.specs.Lives.{seen_at, sak_in, lived, begun, drawn_mi}
use Rattle.lan_core.specs.Claims.{frame_of_claim}
use Rattle.lan_core.specs.Expected.{change_fact, reaction_facts, reached_facts, claim_fact}
use Rattle.lan_core.specs.Expected.{number_fact}
use Rattle.lan_core.proofs.Public.{gather-unread, gather-reaction}
use Rattle.group_safety.specs.Stations.{keys_at, keys_of_life}
use Rattle.group_safety.proofs.once.Histories.{with_began, with_key, view-keys, keys-ticked}
use Rattle.group_safety.proofs.once.Histories.{keys-heard, keys-new}
use Rattle.group_safety.proofs.once.Nexts.{mapped, other-tick, other-restart, claim-life, emit-life}
use Rattle.group_safety.proofs.rollover.Turns.{tick-keys, hear-keys}
use Rattle.group_safety.proofs.rollover.Begins.{making-is}
use Rattle.group_safety.proofs.rollover.EventKinds.{Kind, IsReached}
use Rattle.group_safety.proofs.rollover.EventKinds as kinds
use Rattle.group_safety.proofs.rollover.Makers.{keys-of-life}
use Rattle.group_safety.proofs.rollover.Servers.{view-server}
use Rattle.group_safety.proofs.rollover.Listeners.{life-ticked}
use Rattle.group_safety.proofs.rollover.Slots.{Stands, slot_of, slots_by, stands-ended}
use Rattle.group_safety.proofs.rollover.Slots.{stands-with_began, stands-with_key, stands-taken}
use Rattle.group_safety.proofs.rollover.Slots.{stands-none, slots-append, begun-slots}

-- ---- facts as changes of slots

-- one fact for the station, and for another
fact-own : (t : ℕ) (c : Change) (s : List Receiving)
    → with_one (slot_change t (change_fact t c)) s ≡ slot_of c s
fact-own t (changes.Dropped k) s = let y : nat_eq t t ≡ true = eq-eqb t t refl in rw y refl
fact-own t (changes.Retired k) s = let y : nat_eq t t ≡ true = eq-eqb t t refl in rw y refl
fact-own t (changes.Began k cause) s = refl
fact-own t (changes.Installed k) s = let y : nat_eq t t ≡ true = eq-eqb t t refl in rw y refl
fact-own t (changes.Untaken id why) s = refl

fact-other : (t u : ℕ) (c : Change) (s : List Receiving) → (u == t) ≡ false
    → with_one (slot_change t (change_fact u c)) s ≡ s
fact-other t u (changes.Dropped k) s apart = rw apart refl
fact-other t u (changes.Retired k) s apart = rw apart refl
fact-other t u (changes.Began k cause) s apart = refl
fact-other t u (changes.Installed k) s apart = rw apart refl
fact-other t u (changes.Untaken id why) s apart = refl

changes-own : (t : ℕ) (cs : List Change) (s : List Receiving)
    → gather (slot_change t) (map (change_fact t) cs) s ≡ slots_by cs s
unfolding slots_by
changes-own t [] s = refl
changes-own t (c ∷ cs) s = ap (gather (slot_change t) (map (change_fact t) cs)) (fact-own t c s)
    ∙ changes-own t cs (slot_of c s)

changes-other : (t u : ℕ) (cs : List Change) (s : List Receiving) → (u == t) ≡ false
    → gather (slot_change t) (map (change_fact u) cs) s ≡ s
changes-other t u [] s apart = refl
changes-other t u (c ∷ cs) s apart =
    ap (gather (slot_change t) (map (change_fact u) cs)) (fact-other t u c s apart)
    ∙ changes-other t u cs s apart

reaction-slots : (t u h n : ℕ) (re : Reaction) (s : List Receiving)
    → gather (slot_change t) (reaction_facts u h n re) s ≡ gather (slot_change t)
    (map (change_fact u) re.changes) s
reaction-slots t u h n re s =
    gather-reaction (slot_change t) u h n re s (λ v. refl) (λ m. refl)
    ∙ gather-unread (slot_change t) (λ octets. facts.Framed n u false octets) re.sent
    (gather (slot_change t) (map (change_fact u) re.changes) s) (λ octets. refl)

-- ---- turns

key-stage : (base : ℕ) (h1 g : List Keying) (lead : Option Beginning) (r : _) (key : Option Key)
    (w : List Receiving) → g ≡ h1 → KeepsRules base h1
    → ((k : Key) → key ≡ Some k → lead ≡ None) → Stands (with_began lead h1) w
    → Stands (with_key r key (with_began lead h1)) (slots_by (install_changes g r key) w)
unfolding slots_by
key-stage base h1 g lead r None w same kept none stands = stands
key-stage base h1 g None r (Some k) w same kept none stands =
    subst (λ v. Stands (keyings.installed r k ∷ h1) (slots_by (install_changes v r (Some k)) w))
    (sym same) (stands-with_key base h1 r (Some k) w kept stands)
key-stage base h1 g (Some b) r (Some k) w same kept none stands = let e = none k refl in
    absurd (cc (e))

pub tick-stands : (m : Member) (seen : _) (sak : _) (p : List Entry) (s : List Receiving)
    → KeepsRules m.base (keys_of m p) → Stands (keys_of m p) s
    → Stands (keys_of m (tick_turn m seen sak p).past)
    (slots_by (tick_turn m seen sak p).reaction.changes s)
unfolding tick_turn
tick-stands m seen sak p s kept stands =
    let v0 = view m p in
    let v1 = view m (lives.ticked ∷ p) in
    let h = keys_of m p in
    let on : Bool = is_some (elected m (lives.ticked ∷ p)) in
    let h1 = keyings.ticked on ∷ h in
    let lead = led m v1 in
    let key = made m v1 seen sak in
    let r = roster_at m p in
    let first = stands-ended m.base h v1.server s kept stands in
    let w = slots_by (ended h v1.server) s in
    let first2 : Stands h1 w = subst (λ o. Stands (keyings.ticked (is_some o) ∷ h) w)
    (view-server m (lives.ticked ∷ p)) first in
    let second = stands-with_began lead h1 w first2 in
    let now : v1.keys ≡ h1 = view-keys m (lives.ticked ∷ p) ∙ keys-ticked m p in
    let third = key-stage m.base h1 v1.keys lead r key w now kept
    (λ k e. (making-is m v1 seen sak k e).none_led) second in
    let slots : slots_by (ended v0.keys v1.server ++
    ((beginning v1.keys lead).changes ++ install_changes v1.keys r key)) s ≡ slots_by
    (install_changes v1.keys r key) w =
    slots-append (ended v0.keys v1.server)
    ((beginning v1.keys lead).changes ++ install_changes v1.keys r key) s
    ∙ slots-append (beginning v1.keys lead).changes (install_changes v1.keys r key)
    (slots_by (ended v0.keys v1.server) s)
    ∙ ap (slots_by (install_changes v1.keys r key))
    (begun-slots v1.keys lead (slots_by (ended v0.keys v1.server) s)
    ∙ ap (λ g. slots_by (ended g v1.server) s) (view-keys m p)) in
    subst (λ g. Stands g (slots_by (ended v0.keys v1.server ++
    ((beginning v1.keys lead).changes ++ install_changes v1.keys r key)) s))
    (sym (tick-keys m seen sak p))
    (subst (λ x. Stands (with_key r key (with_began lead h1)) x) (sym slots) third)

none-offered : (m : Member) (v : _) (o : _) → o ≡ None
    → Rattle.mka_station.specs.Hearing.taken_of m v o ≡ None
none-offered m v o none = rw none refl

pub hear-stands : (m : Member) (a : Announcement) (p : List Entry) (s : List Receiving)
    → KeepsRules m.base (keys_of m p) → Stands (keys_of m p) s
    → Stands (keys_of m (hear_turn m a p).past) (slots_by (hear_turn m a p).reaction.changes s)
unfolding hear_turn
hear-stands m a p s kept stands =
    let v1 = view m (lives.heard a ∷ p) in
    let v2 = view m (taken_past m a p) in
    let h = keys_of m p in
    let offer = offer_at m a p in
    let answer = answer_at m a p in
    let follow = follow_at m a p in
    let now : v1.keys ≡ h = view-keys m (lives.heard a ∷ p) ∙ keys-heard m a p in
    let first = stands-taken m.base h offer answer s kept stands (λ e. none-offered m v1 offer e) in
    let w = slots_by (take_changes h offer answer) s in
    let second = stands-with_began follow (with_key None (key_taken answer) h) w first in
    let slots : slots_by (take_changes v1.keys offer answer ++ (beginning v2.keys follow).changes) s
    ≡ w =
    slots-append (take_changes v1.keys offer answer) (beginning v2.keys follow).changes s
    ∙ begun-slots v2.keys follow (slots_by (take_changes v1.keys offer answer) s)
    ∙ ap (λ g. slots_by (take_changes g offer answer) s) now in
    subst (λ g. Stands g (slots_by (take_changes v1.keys offer answer ++
    (beginning v2.keys follow).changes) s)) (sym (hear-keys m a p))
    (subst (λ x. Stands (with_began follow (with_key None (key_taken answer) h)) x)
    (sym slots) second)

pub end-stands : (m : Member) (p : List Entry) (s : List Receiving) → Stands (keys_of m p) s
    → Stands [] (slots_by (ending m p).changes s)
unfolding ending
end-stands m p s stands =
    subst (λ g. Stands [] (slots_by (map (λ k. changes.Dropped (held g k)) (received g)) s))
    (sym (view-keys m p)) (stands-none (keys_of m p) s stands)

-- ---- events

-- the slots after an event
receiving-on : (t : ℕ) (x : Happening) (r : Run)
    → receiving t (x ∷ r) ≡ gather (slot_change t) x.facts
    (with_data (reaches t r x.event) (receiving t r))
unfolding receiving
receiving-on t x r = refl

-- what is heard changes no standing key
data-stands : (h : List Keying) (o : Option (List ℕ)) (s : List Receiving) → Stands h s
    → Stands h (with_data o s)
data-stands h None s stands = stands
data-stands h (Some octets) s stands =
    by_test (is_sec octets) (λ t. rw t (λ an. stands an)) (λ t. rw t stands)

begun-keys : (settings : Settings) (t : ℕ) (r : Run) (f : List Fact) (p : Profile)
    → keys_of_life (begun settings t r f p) ≡ []
begun-keys settings t r f p = go (drawn_mi f)
  where
    go : (o : Option Mi) → keys_of_life
        (option_map (λ mi. record {
          member =
              record {
                setup = Rattle.lan_core.specs.Lives.setup_of settings p;
                mi = mi;
                base =
                    length (Rattle.lan_core.specs.Ledgers.installs_at t r);
              };
          past = [];
        }) o) ≡ []
    go None = refl
    go (Some mi) = keys-new _

restarted-keys : (settings : Settings) (t : ℕ) (x : Happening) (r : Run)
    → x.event ≡ events.Restart t → keys_at settings t (x ∷ r) ≡ []
unfolding keys_at life
restarted-keys settings t x r ev = let y : nat_eq t t ≡ true = eq-eqb t t refl in
    rw ev (rw y (go (slice_get (stations r) t)))
  where
    go : (o : Option Profile) → keys_of_life (option_and_then (begun settings t r x.facts) o) ≡ []
    go None = refl
    go (Some p) = begun-keys settings t r x.facts p

same-keys : (settings : Settings) (t : ℕ) (x : Happening) (r : Run)
    → life settings t (x ∷ r) ≡ life settings t r
    → keys_at settings t (x ∷ r) ≡ keys_at settings t r
unfolding keys_at
same-keys settings t x r same = ap keys_of_life same

other-reached : (settings : Settings) (t s number : ℕ) (octets : List ℕ) (x : Happening) (r : Run)
    → IsReached r x.event s number octets → (s == t) ≡ false
    → (life settings t (x ∷ r) ≡ life settings t r) × (reaches t r x.event ≡ None)
unfolding life
other-reached settings t s number octets x r (kinds.delivered f there same ev) apart =
    (rw ev (rw apart refl), rw ev (rw apart refl))
other-reached settings t s number octets x r (kinds.injected zero_is ev) apart =
    (rw ev (rw apart refl), rw ev (rw apart refl))

own-reached : (settings : Settings) (t number : ℕ) (octets : List ℕ) (x : Happening) (r : Run)
    → IsReached r x.event t number octets → reaches t r x.event ≡ Some octets
own-reached settings t number octets x r (kinds.delivered f there same ev) =
    let y : nat_eq t t ≡ true = eq-eqb t t refl in rw ev (rw (y, there) (ap Some same))
own-reached settings t number octets x r (kinds.injected zero_is ev) = let y : nat_eq t t ≡ true =
    eq-eqb t t refl in rw ev (rw y refl)

-- a frame that is no protected one, to the station that it reaches
reached-life : (settings : Settings) (t number : ℕ) (octets : List ℕ) (l : Life) (x : Happening)
    (r : Run) → IsReached r x.event t number octets → life settings t r ≡ Some l
    → life settings t (x ∷ r) ≡ Some (Rattle.lan_core.specs.Lives.lived_hearing l octets)
unfolding life
reached-life settings t number octets l x r (kinds.delivered f there same ev) living =
    let y : nat_eq t t ≡ true = eq-eqb t t refl in
    rw ev (rw (y, there, living) (ap
    (λ o. Some (Rattle.lan_core.specs.Lives.lived_hearing l o)) same))
reached-life settings t number octets l x r (kinds.injected zero_is ev) living =
    let y : nat_eq t t ≡ true = eq-eqb t t refl in rw ev (rw (y, living) refl)

claim-slots : (settings : Settings) (t s pn : ℕ) (r : Run) (k : Option Key) (w : List Receiving)
    → gather (slot_change t) (claim_fact settings s r pn k ∷ []) w ≡ w
claim-slots settings t s pn r k w = by_test (pn == 0) (λ y. rw y refl) (λ y. rw y (go k))
  where
    go : (k : Option Key) → gather (slot_change t) (number_fact s pn k ∷ []) w ≡ w
    go None = refl
    go (Some j) = refl

-- ---- along a run

heard-stands : (m : Member) (j : Result Announcement DropReason) (p : List Entry)
    (s : List Receiving)
    → KeepsRules m.base (keys_of m p) → Stands (keys_of m p) s
    → Stands (keys_of m (Rattle.mka_station.specs.Hearing.heard_turn m j p).past)
    (slots_by (Rattle.mka_station.specs.Hearing.heard_turn m j p).reaction.changes s)
unfolding slots_by
heard-stands m (Ok a) p s k stands = hear-stands m a p s k stands
heard-stands m (Err reason) p s k stands = stands

put : (h g : List Keying) (s w : List Receiving) → h ≡ g → s ≡ w → Stands g w → Stands h s
put h g s w a b stands = subst (λ v. Stands v s) (sym a) (subst (λ v. Stands g v) (sym b) stands)

started-keys : (settings : Settings) (t : ℕ) (x : Happening) (r : Run) (name : _) (sci : _)
    (priority : ℕ) → x.event ≡ events.Start name sci priority
    → (length (stations r) == t) ≡ true → keys_at settings t (x ∷ r) ≡ []
unfolding keys_at life
started-keys settings t x r name sci priority ev here =
    rw ev (rw here (begun-keys settings t r x.facts
    (record { name = name; sci = sci; priority = priority })))

other-start : (settings : Settings) (t : ℕ) (x : Happening) (r : Run) (name : _) (sci : _)
    (priority : ℕ) → x.event ≡ events.Start name sci priority
    → (length (stations r) == t) ≡ false → life settings t (x ∷ r) ≡ life settings t r
unfolding life
other-start settings t x r name sci priority ev apart = rw ev (rw apart refl)

no-life-keys : (settings : Settings) (t : ℕ) (r : Run)
    → ((l : Life) → life settings t r ≡ Some l → ⊥) → keys_at settings t r ≡ []
unfolding keys_at
no-life-keys settings t r never =
    by_option (life settings t r) (λ none. ap keys_of_life none) (λ l some. absurd (never l some))

pub on-stands : (settings : Settings) (users : List UserFrame) (x : Happening) (r : Run) (t : ℕ)
    → Kind settings users r x.event x.facts
    → ((l : Life) → life settings t r ≡ Some l → KeepsRules l.member.base (keys_of l.member l.past))
    → ((l : Life) → life settings t r ≡ Some l → t < length (stations r))
    → Stands (keys_at settings t r) (receiving t r)
    → Stands (keys_at settings t (x ∷ r)) (receiving t (x ∷ r))
on-stands settings users x r t (kinds.starts name sci priority mi ev q) kept there stands =
    let w : receiving t (x ∷ r) ≡ receiving t r = receiving-on t x r
    ∙ ap (λ f. gather (slot_change t) f (with_data (reaches t r x.event) (receiving t r))) q
    ∙ ap (λ e. with_data (reaches t r e) (receiving t r)) ev in
    by_test (length (stations r) == t)
    (λ y. let same = eqb-true (length (stations r)) t y in
    let before = no-life-keys settings t r (λ l some. let less = there l some in omega arith) in
    put (keys_at settings t (x ∷ r)) [] (receiving t (x ∷ r)) (receiving t r)
    (started-keys settings t x r name sci priority ev y) w
    (subst (λ h. Stands h (receiving t r)) before stands))
    (λ y. put (keys_at settings t (x ∷ r)) (keys_at settings t r) (receiving t (x ∷ r))
    (receiving t r) (same-keys settings t x r
    (other-start settings t x r name sci priority ev y)) w stands)
on-stands settings users x r t (kinds.ticks s next l ev living q) kept there stands =
    let brought : with_data (reaches t r x.event) (receiving t r) ≡ receiving t r =
    ap (λ e. with_data (reaches t r e) (receiving t r)) ev in
    let seen = seen_at settings s r l next in
    let sak = sak_in x.facts in
    let re = (tick_turn l.member seen sak l.past).reaction in
    let w : receiving t (x ∷ r) ≡ gather (slot_change t) (map (change_fact s) re.changes)
    (receiving t r) =
    receiving-on t x r ∙ ap (λ f. gather (slot_change t) f
    (with_data (reaches t r x.event) (receiving t r))) q
    ∙ ap (gather (slot_change t) (reaction_facts s 0 (next_frame r) re)) brought
    ∙ reaction-slots t s 0 (next_frame r) re (receiving t r) in
    by_test (s == t)
    (λ y. let same : s ≡ t = eqb-true s t y in
    let mine : life settings t r ≡ Some l = subst (λ v. life settings v r ≡ Some l) same living in
    let ev_t = ev ∙ ap (λ v. events.Tick v next) same in
    let seen_same : seen ≡ seen_at settings t r l next =
    ap (λ v. seen_at settings v r l next) same in
    let w2 : receiving t (x ∷ r) ≡ slots_by
    (tick_turn l.member (seen_at settings t r l next) sak l.past).reaction.changes
    (receiving t r) =
    w ∙ ap (λ v. gather (slot_change t) (map (change_fact v) re.changes) (receiving t r)) same
    ∙ changes-own t re.changes (receiving t r)
    ∙ ap (λ v. slots_by (tick_turn l.member v sak l.past).reaction.changes (receiving t r))
    seen_same in
    let keys = keys-of-life settings t (x ∷ r) _ (life-ticked settings t next x r l ev_t mine) in
    put (keys_at settings t (x ∷ r)) _ (receiving t (x ∷ r)) _ keys w2
    (tick-stands l.member (seen_at settings t r l next) sak l.past (receiving t r) (kept l mine)
    (subst (λ h. Stands h (receiving t r)) (keys-of-life settings t r l mine) stands)))
    (λ y. put (keys_at settings t (x ∷ r)) (keys_at settings t r) (receiving t (x ∷ r))
    (receiving t r) (same-keys settings t x r (other-tick settings t s next x r ev y))
    (w ∙ changes-other t s re.changes (receiving t r) y) stands)
on-stands settings users x r t (kinds.reached s number octets l came living q) kept there stands =
    by_test (s == t)
    (λ y. let same : s ≡ t = eqb-true s t y in
    let mine : life settings t r ≡ Some l = subst (λ v. life settings v r ≡ Some l) same living in
    let came_t : IsReached r x.event t number octets =
    subst (λ v. IsReached r x.event v number octets) same came in
    let q_t : x.facts ≡ reached_facts settings t r number octets l = q
    ∙ ap (λ v. reached_facts settings v r number octets l) same in
    let brought = own-reached settings t number octets x r came_t in
    let after = reached-life settings t number octets l x r came_t mine in
    let w = receiving-on t x r ∙ ap
    (λ o. gather (slot_change t) x.facts (with_data o (receiving t r))) brought in
    by_test (is_sec octets)
    (λ sec. let f : x.facts ≡ _ ∷ [] = q_t ∙ arrived settings t r number octets l sec in
    let w2 : receiving t (x ∷ r) ≡ with_data (Some octets) (receiving t r) = w
    ∙ ap (λ v. gather (slot_change t) v (with_data (Some octets) (receiving t r))) f in
    let life_same : life settings t (x ∷ r) ≡ life settings t r = after ∙ rw (sec, mine) refl in
    put (keys_at settings t (x ∷ r)) (keys_at settings t r) (receiving t (x ∷ r)) _
    (same-keys settings t x r life_same) w2
    (data-stands (keys_at settings t r) (Some octets) (receiving t r) stands))
    (λ sec. let f : x.facts ≡ reaction_facts t number 0
    (frame_turn l.member octets l.past).reaction = q_t ∙ rw sec refl in
    let none : with_data (Some octets) (receiving t r) ≡ receiving t r = rw sec refl in
    let w2 : receiving t (x ∷ r) ≡ slots_by (frame_turn l.member octets l.past).reaction.changes
    (receiving t r) =
    w ∙ ap (gather (slot_change t) x.facts) none
    ∙ ap (λ v. gather (slot_change t) v (receiving t r)) f
    ∙ reaction-slots t t number 0 (frame_turn l.member octets l.past).reaction (receiving t r)
    ∙ changes-own t (frame_turn l.member octets l.past).reaction.changes (receiving t r) in
    let life_now : life settings t (x ∷ r) ≡ Some (lived l (frame_turn l.member octets l.past)) =
    after ∙ rw sec refl in
    put (keys_at settings t (x ∷ r)) _ (receiving t (x ∷ r)) _
    (keys-of-life settings t (x ∷ r) _ life_now) w2
    (frame-stands l.member octets l.past (receiving t r) (kept l mine)
    (subst (λ h. Stands h (receiving t r)) (keys-of-life settings t r l mine) stands))))
    (λ y. let other = other-reached settings t s number octets x r came y in
    let w = receiving-on t x r ∙ ap
    (λ o. gather (slot_change t) x.facts (with_data o (receiving t r))) other.1
    ∙ ap (λ f. gather (slot_change t) f (receiving t r)) q in
    put (keys_at settings t (x ∷ r)) (keys_at settings t r) (receiving t (x ∷ r)) (receiving t r)
    (same-keys settings t x r other.0)
    (w ∙ others-reached settings t s r number octets l y (receiving t r)) stands)
  where
    arrived : (settings : Settings) (t : ℕ) (r : Run) (number : ℕ) (octets : List ℕ) (l : Life)
        → is_sec octets ≡ true
        → reached_facts settings t r number octets l ≡ facts.Arrived number t
        (Rattle.rx_slots.specs.Numbers.answer l.member.setup.sci settings.window
        (receiving t r) octets) ∷ []
    arrived settings t r number octets l sec = rw sec refl

    frame-stands : (m : Member) (octets : List ℕ) (p : List Entry) (s : List Receiving)
        → KeepsRules m.base (keys_of m p) → Stands (keys_of m p) s
        → Stands (keys_of m (frame_turn m octets p).past)
        (slots_by (frame_turn m octets p).reaction.changes s)
    frame-stands m octets p s k stands = heard-stands m (judged m.setup octets) p s k stands

    others-reached : (settings : Settings) (t s : ℕ) (r : Run) (number : ℕ) (octets : List ℕ)
        (l : Life) → (s == t) ≡ false → (w : List Receiving)
        → gather (slot_change t) (reached_facts settings s r number octets l) w ≡ w
    others-reached settings t s r number octets l apart w =
        by_test (is_sec octets) (λ sec. rw sec refl)
        (λ sec. rw sec (reaction-slots t s number 0 (frame_turn l.member octets l.past).reaction w
        ∙ changes-other t s (frame_turn l.member octets l.past).reaction.changes w apart))
on-stands settings users x r t (kinds.restarts s mi l ev drawn living q) kept there stands =
    let brought : with_data (reaches t r x.event) (receiving t r) ≡ receiving t r =
    ap (λ e. with_data (reaches t r e) (receiving t r)) ev in
    let re = ending l.member l.past in
    let w : receiving t (x ∷ r) ≡ gather (slot_change t) (map (change_fact s) re.changes)
    (receiving t r) =
    receiving-on t x r ∙ ap (λ f. gather (slot_change t) f
    (with_data (reaches t r x.event) (receiving t r))) q
    ∙ ap (gather (slot_change t) (reaction_facts s 0 0 re)) brought
    ∙ reaction-slots t s 0 0 re (receiving t r) in
    by_test (s == t)
    (λ y. let same : s ≡ t = eqb-true s t y in
    let mine : life settings t r ≡ Some l = subst (λ v. life settings v r ≡ Some l) same living in
    let w2 = w ∙ ap (λ v. gather (slot_change t) (map (change_fact v) re.changes) (receiving t r))
    same ∙ changes-own t re.changes (receiving t r) in
    put (keys_at settings t (x ∷ r)) [] (receiving t (x ∷ r)) _
    (restarted-keys settings t x r (ev ∙ ap events.Restart same)) w2
    (end-stands l.member l.past (receiving t r)
    (subst (λ h. Stands h (receiving t r)) (keys-of-life settings t r l mine) stands)))
    (λ y. put (keys_at settings t (x ∷ r)) (keys_at settings t r) (receiving t (x ∷ r))
    (receiving t r) (same-keys settings t x r (other-restart settings t s x r ev y))
    (w ∙ changes-other t s re.changes (receiving t r) y) stands)
on-stands settings users x r t (kinds.claims s user pn ev q) kept there stands =
    let w : receiving t (x ∷ r) ≡ receiving t r = receiving-on t x r
    ∙ ap (λ f. gather (slot_change t) f (with_data (reaches t r x.event) (receiving t r))) q
    ∙ claim-slots settings t s pn r _ (with_data (reaches t r x.event) (receiving t r))
    ∙ ap (λ e. with_data (reaches t r e) (receiving t r)) ev in
    put (keys_at settings t (x ∷ r)) (keys_at settings t r) (receiving t (x ∷ r)) (receiving t r)
    (same-keys settings t x r (claim-life settings t x r s user pn ev)) w stands
on-stands settings users x r t (kinds.emits w0 ev waits q) kept there stands =
    let m = mapped (λ o. facts.Framed (next_frame r) w0.station true o ∷ [])
    (frame_of_claim users r w0) x.facts q in
    let w : receiving t (x ∷ r) ≡ receiving t r = receiving-on t x r
    ∙ ap (λ f. gather (slot_change t) f (with_data (reaches t r x.event) (receiving t r)))
    (sym m.2)
    ∙ ap (λ e. with_data (reaches t r e) (receiving t r)) ev in
    put (keys_at settings t (x ∷ r)) (keys_at settings t r) (receiving t (x ∷ r)) (receiving t r)
    (same-keys settings t x r (emit-life settings t x r ev)) w stands
