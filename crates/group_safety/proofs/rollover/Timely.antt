-- A frame in time finds a station that receives its key.
use Rattle.std.proofs.Common.{◌≡◌, inl, inr, ℕ, suc, ◌+◌, ◌≤◌, ◌<◌, false, List, [], ◌∷◌, map}
use Rattle.std.proofs.Common.{length, refl, ap, sym, ◌∙◌, subst, arith}
use Rattle.std.proofs.Common.{Option, Some, None}
use Rattle.std.specs.Prelude.{option_map, option_to_list}
use Rattle.std.specs.List.{filter}
use Rattle.lan_base.specs.declared.key_id.KeyId.{KeyId}
use Rattle.lan_base.specs.declared.frame.UserFrame.{UserFrame}
use Rattle.lan_base.specs.Timers.{retire_time}
use Rattle.sak_exchange.specs.declared.change.Change.{Change}
use Rattle.sak_exchange.specs.declared.change.Change.TheVariants as changes
use Rattle.sak_exchange.specs.declared.held_key.Key.{Key}
use Rattle.sak_exchange.specs.Histories.{Keying}
use Rattle.sak_exchange.specs.Held.{transmitting, received, held, shown, ends}
use Rattle.sak_exchange.specs.Outcomes.{beginning}
use Rattle.mka_station.specs.Lives.{Member, Entry}
use Rattle.mka_station.specs.Lives as lives
use Rattle.mka_station.specs.Views.{view}
use Rattle.mka_station.specs.Tick.{tick_turn, made, led, ended, install_changes}
use Rattle.mka_station.specs.Tick.{roster_at}
use Rattle.lan_core.specs.declared.event.Event.TheVariants as events
use Rattle.lan_core.specs.declared.fact.Fact.TheVariants as facts
use Rattle.lan_core.specs.declared.settings.Settings.{Settings}
use Rattle.lan_core.specs.Run.{Run, Happening}
use Rattle.lan_core.specs.Ledgers.{next_frame}
use Rattle.lan_core.specs.Lives.{Life, life, seen_at, sak_in, transmitting_at}
use Rattle.lan_core.specs.Expected.{change_fact, reaction_facts, tick_facts}
use Rattle.lan_core.specs.Types.{IsSetting}
use Rattle.lan_core.specs.Legal.{IsStepped}
use Rattle.lan_base.specs.Differing.{AllDiffer}
use Rattle.lan_core.specs.Fresh.{IsUnforged, drawn_mis}
use Rattle.group_safety.specs.Moments.{upto, At}
use Rattle.group_safety.specs.Rounds.{Since, rounds}
use Rattle.group_safety.specs.Stations.{keys_at, keys_of_life}
use Rattle.group_safety.specs.Steady.{Makes, Rollover, IsListener, IsKeeper, IsSteady}
use Rattle.group_safety.specs.Time.{Flight, Claims, HasSaid, IsInTimeForOld}
use Rattle.group_safety.proofs.rollover.Course.{RestsThrough, Holds, SendsUnder}
use Rattle.group_safety.proofs.Members.{In, in-contains, in-left, in-right, in-map, by_sum}
use Rattle.group_safety.proofs.rollover.EventKinds.{Kind, kind}
use Rattle.group_safety.proofs.rollover.EventKinds as kinds
use Rattle.group_safety.proofs.rollover.TicksAreRounds.{IsPaced, paced-upto, idle-before}
use Rattle.group_safety.proofs.rollover.OneLife.{step-at}
use Rattle.group_safety.proofs.rollover.Makers.{MadeAt}
use Rattle.group_safety.proofs.rollover.Servers.{the-course}
use Rattle.group_safety.proofs.rollover.Rollovers.{is-course, rollover, server-may}
use Rattle.group_safety.proofs.rollover.Listeners.{listening, keeping}
use Rattle.group_safety.proofs.rollover.ByNumbers.{found-old_server, found-old_keeper}
use Rattle.group_safety.proofs.rollover.ByNumbers.{found-new_server}
use Rattle.group_safety.proofs.rollover.ByNumbers.{found-new_listener, sent-when_server}
use Rattle.group_safety.proofs.rollover.ByNumbers.{sent-when_keeper, soon-enough}

-- ---- a make is shown

pub reaction-shows : (s h n : ℕ) (re : _) (c : Change)
    → In c (Rattle.mka_station.specs.declared.reaction.Reaction.Reaction.changes re)
    → In (change_fact s c) (reaction_facts s h n re)
reaction-shows s h n re c i =
    in-right (option_to_list (option_map (λ v. facts.HeardMka h s v) re.heard)) _ (change_fact s c)
    (in-right (option_to_list (option_map (λ m. facts.Server s m) re.server)) _ (change_fact s c)
    (in-left (map (change_fact s) re.changes) _ (change_fact s c)
    (in-map (change_fact s) re.changes c i)))

put-shows : (h : List Keying) (r : _) (key : Option Key) (k : Key) → key ≡ Some k
    → In (changes.Installed (shown false k)) (install_changes h r key)
put-shows h r key k is =
    subst (λ o. In (changes.Installed (shown false k)) (install_changes h r o)) (sym is)
    (in-right (map (λ j. changes.Dropped (held h j))
    (filter (ends (Rattle.sak_exchange.specs.Histories.installed r k) h) (received h)))
    (changes.Installed (shown false k) ∷ []) (changes.Installed (shown false k)) (inl refl))

tick-puts : (m : Member) (seen : _) (sak : _) (p : List Entry) (k : Key)
    → made m (view m (lives.ticked ∷ p)) seen sak ≡ Some k
    → In (changes.Installed (shown false k)) (tick_turn m seen sak p).reaction.changes
unfolding tick_turn
tick-puts m seen sak p k is =
    let v1 = view m (lives.ticked ∷ p) in
    in-right (ended (view m p).keys v1.server) _ (changes.Installed (shown false k))
    (in-right (beginning v1.keys (led m v1)).changes _ (changes.Installed (shown false k))
    (put-shows v1.keys (roster_at m p) (made m v1 seen sak) k is))

transmitting-keys : (settings : Settings) (s : ℕ) (r : Run) (k : Key)
    → transmitting_at settings s r ≡ Some k → transmitting (keys_at settings s r) ≡ Some k
unfolding keys_at
transmitting-keys settings s r k is = go (life settings s r) refl is
  where
    go : (o : Option Life) → life settings s r ≡ o → transmitting_at settings s r ≡ Some k
        → transmitting (keys_of_life (life settings s r)) ≡ Some k
    go None e f = let g = rw e at f in absurd (cc (g))
    go (Some l) e f = let g = rw e at f in rw e g

module _ (settings : Settings) (users : List UserFrame) (run : Run) (is : IsSetting settings)
    (stepped : IsStepped settings users run) (unforged : IsUnforged settings run)
    (fresh : AllDiffer (drawn_mis run)) (from : Since) (paced : IsPaced from run) where
  made-shown : (z s : ℕ) (k : Key) → MadeAt settings run z s k → Makes run z s k.id
  made-shown z s k m = record {
    event = m.event;
    at = m.at;
    within = m.within;
    next = m.next;
    tick = m.tick;
    an = k.an;
    epoch = k.epoch;
    sak = k.sak;
    fact = in-contains m.event.facts (facts.Installed s k.id k.an k.epoch k.sak)
        (go (kind settings users m.event (upto z run)
        (step-at settings users run stepped fresh z m.event m.within m.at)));
  }
    where
      go : Kind settings users (upto z run) m.event.event m.event.facts
          → In (facts.Installed s k.id k.an k.epoch k.sak) m.event.facts
      go (kinds.starts name sci priority mi ev q) = let e = sym ev ∙ m.tick in absurd (cc (e))
      go (kinds.ticks t n l ev living q) =
          let same_t : t ≡ s = let f = sym ev ∙ m.tick in cc (f) in
          let same_n : n ≡ m.next = let f = sym ev ∙ m.tick in cc (f) in
          let mine : life settings s (upto z run) ≡ Some l =
          subst (λ v. life settings v (upto z run) ≡ Some l) same_t living in
          let same_l : l ≡ m.life_then = let f = sym mine ∙ m.living in cc (f) in
          let shown_all = q ∙ ap (λ v. tick_facts settings v (upto z run) n
          (sak_in m.event.facts) l) same_t
          ∙ ap (λ v. tick_facts settings s (upto z run) v (sak_in m.event.facts) l) same_n
          ∙ ap (λ v. tick_facts settings s (upto z run) m.next (sak_in m.event.facts) v) same_l in
          let puts = tick-puts m.life_then.member
          (seen_at settings s (upto z run) m.life_then m.next)
          (sak_in m.event.facts) m.life_then.past k m.makes in
          subst (λ w. In (facts.Installed s k.id k.an k.epoch k.sak) w) (sym shown_all)
          (inr (reaction-shows s 0 (next_frame (upto z run)) _
          (changes.Installed (shown false k)) puts))
      go (kinds.reached t number o j (kinds.delivered f w oo ev) there q) = let e = sym ev
          ∙ m.tick in absurd (cc (e))
      go (kinds.reached t number o j (kinds.injected zero_is ev) there q) = let e = sym ev
          ∙ m.tick in absurd (cc (e))
      go (kinds.restarts t mi j ev drawn there q) = let e = sym ev ∙ m.tick in absurd (cc (e))
      go (kinds.claims t user pn ev q) = let e = sym ev ∙ m.tick in absurd (cc (e))
      go (kinds.emits w ev waits q) = let e = sym ev ∙ m.tick in absurd (cc (e))

  module _ (o : Rollover) (S : IsSteady settings run (record o { from = from })) where
    -- the rollover, with the moment from which rounds count here
    abbrev rolled : Rollover
    rolled = record o { from = from }

    -- nobody waits before a delivery
    idle : (u d frame t : ℕ) (x : Happening) → At run d x → x.event ≡ events.Deliver frame t
        → (the-course settings users run is stepped unforged fresh from paced).waits u d ≡ 0
    idle u d frame t x at ev = idle-before from u frame t x (upto d run) ev
        (subst (IsPaced from) at (paced-upto from (suc d) run paced))

    -- Any frame under the old key that comes so soon finds a station that receives the key.
    pub held-old : (d frame t : ℕ) (x : Happening) → d < length run → At run d x
        → x.event ≡ events.Deliver frame t → o.made < d
        → rounds from (upto d run) < rounds from (upto (suc o.start) run) + retire_time
        → HasSaid o.server t d (IsKeeper settings run rolled)
        → Holds o.old_id (keys_at settings t (upto d run))
    held-old d frame t x high at ev after soon who =
        let R = rollover settings users run is stepped unforged fresh from paced o S in
        let C = is-course settings users run is stepped unforged fresh from paced in
        let c = the-course settings users run is stepped unforged fresh from paced in
        by_sum who
        (λ same. subst (λ v. Holds o.old_id (keys_at settings v (upto d run))) (sym same)
        (found-old_server c o C R d after (omega arith)
        (idle o.server d frame t x at ev) soon))
        (λ k. found-old_keeper c o C R t (suc k.0) d
        (keeping settings users run is stepped unforged fresh from paced o S t k.0 k.1 k.3)
        (omega (arith, k.2)) (omega arith) (idle t d frame t x at ev)
        (idle o.server d frame t x at ev) soon)

    -- Any frame under the new key finds one too, until the server makes the next.
    pub held-new : (d t : ℕ) → d < length run → o.made < d
        → ((z : ℕ) (id : KeyId) → o.made < z → z < d → Makes run z o.server id → ⊥)
        → HasSaid o.server t d (IsListener settings run rolled)
        → Holds o.new_id (keys_at settings t (upto d run))
    held-new d t high after last who =
        let R = rollover settings users run is stepped unforged fresh from paced o S in
        let C = is-course settings users run is stepped unforged fresh from paced in
        let c = the-course settings users run is stepped unforged fresh from paced in
        let rested : RestsThrough c o.server (suc o.made) d = record {
          on = λ n p l. by_sum (server-may settings users run is stepped unforged fresh from paced
              o S n p (omega arith)) (λ r. r)
              (λ m. absurd (last n m.0.id p l (made-shown n o.server m.0 m.1)));
        } in
        by_sum who
        (λ same. subst (λ v. Holds o.new_id (keys_at settings v (upto d run))) (sym same)
        (found-new_server c o C R d after (omega arith) rested))
        (λ k. found-new_listener c o C R t (suc k.0) d
        (listening settings users run is stepped unforged fresh from paced o S t k.0 k.1 k.3)
        (omega (arith, k.2)) (omega arith) rested)

    -- a frame that is in time for the old key comes so soon
    pub soon-for-old : (f : Flight) (pn : ℕ) → f.delivery ≤ length run
        → Claims settings run f.claim f.sender f.key pn
        → IsInTimeForOld settings run rolled f
        → rounds from (upto f.delivery run) < rounds from (upto (suc o.start) run) + retire_time
    soon-for-old f pn high claims T =
        let R = rollover settings users run is stepped unforged fresh from paced o S in
        let C = is-course settings users run is stepped unforged fresh from paced in
        let co = the-course settings users run is stepped unforged fresh from paced in
        let within = claims.within in
        let under : SendsUnder o.old_id (keys_at settings f.sender (upto f.claim run)) =
        record {
          key = f.key;
          sends = transmitting-keys settings f.sender
              (upto f.claim run) f.key claims.sends;
          named = T.named;
        } in
        let when = by_sum T.sent
        (λ same. sent-when_server co o C R f.claim (omega arith)
        (subst (λ v. SendsUnder o.old_id (keys_at settings v (upto f.claim run))) same under))
        (λ k. sent-when_keeper co o C R f.sender (suc k.0) f.claim
        (keeping settings users run is stepped unforged fresh from paced o S f.sender k.0 k.1 k.2)
        (omega arith) under) in
        soon-enough co o C R f.claim f.delivery when high T.soon
