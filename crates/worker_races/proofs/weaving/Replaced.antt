-- Where an event tells the current word an unpoint and then a point, its facts drop the key that
-- transmitted and begin another.
use Rattle.std.proofs.Common.{◌≡◌, ◌⊎◌, ℕ, Bool, true, false, cond, ◌&&◌, ◌||◌, List, [], ◌∷◌, ◌++◌, map, refl, sym, ap, ◌∙◌, subst, inl, inr, true≢false, append_assoc, append-nil}
use Rattle.lan_base.specs.declared.association_number.AssociationNumber.{AssociationNumber}
use Rattle.std.proofs.Common.{Option, Some, None, Result, Ok, Err, filter, is_some}
use Rattle.std.specs.Prelude.{◌==◌, option_map, option_to_list}
use Rattle.std.specs.List.{list_any}
use Rattle.std.proofs.lemmas.Bool.{eqb-true, eq-eqb, cases_Bool, and_parts}
use Rattle.lan_base.specs.declared.address.Mi.{Mi}
use Rattle.lan_base.specs.AssociationNumbers.{same_an}
use Rattle.lan_base.specs.declared.key_id.KeyId.{KeyId}
use Rattle.lan_base.specs.declared.frame.UserFrame.{UserFrame}
use Rattle.gcm_frames.specs.Tags.{is_sec}
use Rattle.aes_block.specs.declared.secret.Secret.{Secret}
use Rattle.mkpdu_codec.specs.declared.announcement.Announcement.{Announcement}
use Rattle.sak_exchange.specs.declared.change.Change.{Change}
use Rattle.sak_exchange.specs.declared.change.Change.TheVariants as changes
use Rattle.sak_exchange.specs.declared.change.Why.{Why}
use Rattle.sak_exchange.specs.declared.due.Seen.{Seen}
use Rattle.sak_exchange.specs.declared.offer.Offer.{Offer}
use Rattle.sak_exchange.specs.declared.held_key.Key.{Key}
use Rattle.sak_exchange.specs.Histories.{Keying, ticked, installed}
use Rattle.sak_exchange.specs.Held.{KeepsRules, ends, received, transmitting, held}
use Rattle.sak_exchange.specs.Beginning.{Beginning, retired}
use Rattle.sak_exchange.specs.Outcomes.{beginning, installing}
use Rattle.sak_exchange.specs.Lives.{Has}
use Rattle.mka_station.specs.declared.reaction.Reaction.{Reaction}
use Rattle.mka_station.specs.declared.verdict.DropReason.{DropReason}
use Rattle.mka_station.specs.declared.verdict.Verdict.{Verdict}
use Rattle.mka_station.specs.Announcing.{same_key}
use Rattle.mka_station.specs.Lives.{Member, Entry, keys_of, elected}
use Rattle.mka_station.specs.Lives.{ticked as tick, heard}
use Rattle.mka_station.specs.Views.{view}
use Rattle.mka_station.specs.Tick.{tick_turn, ended, led, made, install_changes}
use Rattle.mka_station.specs.Hearing.{judged, frame_turn, hear_turn, take_changes}
use Rattle.mka_station.specs.Restart.{ending}
use Rattle.mka_station.specs.Tick.{roster_at}
use Rattle.mka_station.specs.Hearing.{offer_at, answer_at, follow_at, taken_past}
use Rattle.lan_core.specs.declared.event.Event.{Event}
use Rattle.lan_core.specs.declared.event.Event.TheVariants as events
use Rattle.lan_core.specs.declared.fact.Fact.{Fact}
use Rattle.lan_core.specs.declared.fact.Fact.TheVariants as facts
use Rattle.lan_core.specs.declared.settings.Settings.{Settings}
use Rattle.lan_core.specs.Run.{Run, Happening}
use Rattle.lan_core.specs.Ledgers.{next_frame}
use Rattle.lan_core.specs.Lives.{Life, life, keys_in, seen_at, sak_in, turn_at_tick, transmitting_at}
use Rattle.lan_core.specs.Expected.{change_fact, reaction_facts, tick_facts, reached_facts, restart_facts}
use Rattle.lan_core.specs.Order.{is_event_of}
use Rattle.lan_core.specs.Legal.{IsStep, IsStepped, is_drop_of, is_beginning, is_replaced}
use Rattle.group_safety.proofs.Public.{view-keys, keys-ticked, keys-heard}
use Rattle.group_safety.proofs.Public.{kind}
use Rattle.group_safety.proofs.Public as kinds
use Rattle.group_safety.proofs.Public.{transmitting-last}
use Rattle.sak_exchange.proofs.Public.{same-an-equal}
use Rattle.peer_lists.proofs.Public.{same_mi-itself}
use Rattle.association_slots.specs.declared.view.Current.{Current}
use Rattle.association_slots.specs.Views.{absent_after, present_at}
use Rattle.worker_races.specs.merge.Table.{is_an, an_of, words_of}
use Rattle.worker_races.proofs.weaving.KeysMove.{has-ticked}
use Rattle.worker_races.proofs.weaving.Calls.{an-one, filter-passes, drops}
use Rattle.worker_races.proofs.weaving.TurnsTold.{tick-changes, hear-changes, ending-changes}
use Rattle.worker_races.proofs.weaving.FromRun.{kept-run, in-life}

-- ---- facts

-- a key that is dropped under the AN of this one is this one
pub DropsIt : ℕ → Key → List Fact → Type 0
DropsIt s k [] = Unit {0}
DropsIt s k (facts.Dropped t id an ∷ later) = (an ≡ k.an → id ≡ k.id) × DropsIt s k later
DropsIt s k (fact ∷ later) = DropsIt s k later

one-key : (id : KeyId) → same_key id id ≡ true
one-key id = rw (same_mi-itself id.server, eq-eqb id.number id.number refl) refl

more-any : (b c : Bool) → c ≡ true → (b || c) ≡ true
more-any true c is = refl
more-any false c is = is

no-point : (an : AssociationNumber) (e top : ℕ) → present_at an e ≡ absent_after top → ⊥
no-point an e top is = true≢false (ap (λ p. p.present) is)

named : (s top top' : ℕ) (k : Key) (fs : List Fact) (ws : List Current) → DropsIt s k fs
    → words_of s top (Some k.an) fs ≡ absent_after top' ∷ ws → list_any (is_drop_of s k) fs ≡ true
unfolding DropsIt
named s top top' k [] ws it is = absurd (cc is)
named s top top' k (facts.Dropped t id an ∷ later) ws it is = go (λ h. named s top top' k later ws it.1 h) ((t == s) && same_an an k.an) refl is
  where
    go : (words_of s top (Some k.an) later ≡ absent_after top' ∷ ws → list_any (is_drop_of s k) later ≡ true) → (b : Bool) → ((t == s) && same_an an k.an) ≡ b
        → cond b (absent_after top ∷ words_of s top None later) (words_of s top (Some k.an) later) ≡ absent_after top' ∷ ws
        → (((t == s) && same_key id k.id) || list_any (is_drop_of s k) later) ≡ true
    go rest true e is =
        let both = and_parts (t == s) (same_an an k.an) e in
        let place : (t == s) ≡ true = both.0 in
        let same : id ≡ k.id = it.0 (same-an-equal an k.an both.1) in
        let key : same_key id k.id ≡ true = subst (λ i. same_key i k.id ≡ true) (sym same) (one-key k.id) in
        rw (place, key) refl
    go rest false e is = more-any ((t == s) && same_key id k.id) _ (rest is)
named s top top' k (facts.Began t id an epoch cause ∷ later) ws it is = go (λ h. named s top top' k later ws it h) (t == s) is
  where
    go : (words_of s top (Some k.an) later ≡ absent_after top' ∷ ws → list_any (is_drop_of s k) later ≡ true) → (b : Bool) → cond b (present_at an epoch ∷ words_of s epoch (Some an) later) (words_of s top (Some k.an) later) ≡ absent_after top' ∷ ws
        → list_any (is_drop_of s k) later ≡ true
    go rest true is = absurd (no-point an epoch top' (cc is))
    go rest false is = rest is
named s top top' k (_ ∷ later) ws it is = named s top top' k later ws it is

-- a point among the words
pub Points : List Current → Type 0
Points [] = ⊥
Points (w ∷ ws) = (w.present ≡ true) ⊎ Points ws

pointed : (s top : ℕ) (o : Option AssociationNumber) (fs : List Fact) → Points (words_of s top o fs) → list_any (is_beginning s) fs ≡ true
unfolding Points
pointed s top o [] is = absurd is
pointed s top o (facts.Dropped t id an ∷ later) is = go (λ h. pointed s top None later h) (λ h. pointed s top o later h) ((t == s) && is_an an o) is
  where
    go : (Points (words_of s top None later) → list_any (is_beginning s) later ≡ true)
        → (Points (words_of s top o later) → list_any (is_beginning s) later ≡ true) → (b : Bool) → Points (cond b (absent_after top ∷ words_of s top None later) (words_of s top o later)) → list_any (is_beginning s) later ≡ true
    go gone on true (inl no-one) = absurd (true≢false (sym no-one))
    go gone on true (inr more) = gone more
    go gone on false more = on more
pointed s top o (facts.Began t id an epoch cause ∷ later) is = go (λ h. pointed s top o later h) (t == s) is
  where
    go : (Points (words_of s top o later) → list_any (is_beginning s) later ≡ true) → (b : Bool) → Points (cond b (present_at an epoch ∷ words_of s epoch (Some an) later) (words_of s top o later))
        → (b || list_any (is_beginning s) later) ≡ true
    go on true more = refl
    go on false more = on more
pointed s top o (_ ∷ later) is = pointed s top o later is

-- ---- changes

pub DropsKey : Key → List Change → Type 0
DropsKey k [] = Unit {0}
DropsKey k (changes.Dropped j ∷ cs) = (j.key.an ≡ k.an → j.key.id ≡ k.id) × DropsKey k cs
DropsKey k (c ∷ cs) = DropsKey k cs

drops-are : (h : List Keying) (k : Key) (ks : List Key) (rest : List Change) → ((j : Key) → Has j ks → j.an ≡ k.an → j ≡ k)
    → DropsKey k rest → DropsKey k (drops h ks ++ rest)
unfolding DropsKey
drops-are h k [] rest one all = all
drops-are h k (j ∷ ks) rest one all =
    (λ is. ap (λ (w : Key). w.id) (one j (inl refl) is), drops-are h k ks rest (λ i has. one i (inr has)) all)

install-drops : (h : List Keying) (r : Option (List Mi)) (n k : Key) (rest : List Change) → ((j : Key) → Has j (received h) → j.an ≡ k.an → j ≡ k)
    → DropsKey k rest → DropsKey k ((installing h r n).changes ++ rest)
unfolding DropsKey
install-drops h r n k rest one all =
    subst (DropsKey k) (sym (append_assoc (drops h (filter (ends (installed r n) h) (received h))) _ rest))
    (drops-are h k (filter (ends (installed r n) h) (received h)) _ (λ j has. one j (filter-passes (ends (installed r n) h) (received h) j has).0) all)

begin-drops : (h : List Keying) (b : Option Beginning) (k : Key) (rest : List Change) → DropsKey k rest → DropsKey k ((beginning h b).changes ++ rest)
unfolding DropsKey
begin-drops h None k rest all = all
begin-drops h (Some b) k rest all = all

ended-drops : (h : List Keying) (server : Option Mi) (k : Key) (rest : List Change) → ((j : Key) → Has j (received h) → j.an ≡ k.an → j ≡ k)
    → DropsKey k rest → DropsKey k (ended h server ++ rest)
unfolding DropsKey
ended-drops h None k rest one all = drops-are h k (received h) rest one all
ended-drops h (Some server) k rest one all = go (retired h)
  where
    go : (q : Option Key) → DropsKey k (option_to_list (option_map (λ j. changes.Retired (held h j)) q) ++ rest)
    go None = all
    go (Some j) = all

nothing-more : (cs : List Change) (k : Key) → DropsKey k (cs ++ []) → DropsKey k cs
nothing-more cs k all = subst (DropsKey k) (append-nil cs) all

key-drops : (h : List Keying) (r : Option (List Mi)) (key : Option Key) (k : Key) → ((j : Key) → Has j (received h) → j.an ≡ k.an → j ≡ k)
    → DropsKey k (install_changes h r key)
unfolding DropsKey
key-drops h r None k one = tt
key-drops h r (Some n) k one = nothing-more (installing h r n).changes k (install-drops h r n k [] one tt)

take-drops : (h : List Keying) (offer : Option Offer) (answer : Option (Result Key Why)) (k : Key) (rest : List Change) → ((j : Key) → Has j (received h) → j.an ≡ k.an → j ≡ k)
    → DropsKey k rest → DropsKey k (take_changes h offer answer ++ rest)
unfolding DropsKey
take-drops h None answer k rest one all = all
take-drops h (Some o) None k rest one all = all
take-drops h (Some o) (Some (Ok n)) k rest one all = install-drops h None n k rest one all
take-drops h (Some o) (Some (Err why)) k rest one all = all

module _ (m : Member) (p : List Entry) (k : Key) (kept : KeepsRules m.base (keys_of m p)) (sends : transmitting (keys_of m p) ≡ Some k) where
  one : (j : Key) → Has j (received (keys_of m p)) → j.an ≡ k.an → j ≡ k
  one j has is = an-one m.base (keys_of m p) kept j k has (transmitting-last (keys_of m p) k sends).1 is

  pub tick-drops : (seen : Seen) (sak : Secret) → DropsKey k (tick_turn m seen sak p).reaction.changes
  unfolding DropsKey
  tick-drops seen sak =
      let v = view m (tick ∷ p) in
      let now : v.keys ≡ ticked (is_some (elected m (tick ∷ p))) ∷ keys_of m p = view-keys m (tick ∷ p) ∙ keys-ticked m p in
      let then : (j : Key) → Has j (received v.keys) → j.an ≡ k.an → j ≡ k =
      λ j has is. one j (has-ticked (Some (is_some (elected m (tick ∷ p)))) (keys_of m p) j (subst (λ h. Has j (received h)) now has)) is in
      let first : (j : Key) → Has j (received (view m p).keys) → j.an ≡ k.an → j ≡ k =
      λ j has is. one j (subst (λ h. Has j (received h)) (view-keys m p) has) is in
      subst (DropsKey k) (sym (tick-changes m seen sak p))
      (ended-drops (view m p).keys v.server k _ first
      (begin-drops v.keys (led m v) k _ (key-drops v.keys (roster_at m p) (made m v seen sak) k then)))

  pub hear-drops : (a : Announcement) → DropsKey k (hear_turn m a p).reaction.changes
  unfolding DropsKey
  hear-drops a =
      let now : (view m (heard a ∷ p)).keys ≡ keys_of m p = view-keys m (heard a ∷ p) ∙ keys-heard m a p in
      let first : (j : Key) → Has j (received (view m (heard a ∷ p)).keys) → j.an ≡ k.an → j ≡ k =
      λ j has is. one j (subst (λ h. Has j (received h)) now has) is in
      subst (DropsKey k) (sym (hear-changes m a p))
      (take-drops (view m (heard a ∷ p)).keys (offer_at m a p) (answer_at m a p) k _ first
      (nothing-more (beginning (view m (taken_past m a p)).keys (follow_at m a p)).changes k (begin-drops (view m (taken_past m a p)).keys (follow_at m a p) k [] tt)))

  pub ending-drops : DropsKey k (ending m p).changes
  unfolding DropsKey
  ending-drops =
      subst (DropsKey k) (sym (ending-changes m p))
      (nothing-more (drops (view m p).keys (received (view m p).keys)) k (drops-are (view m p).keys k (received (view m p).keys) []
      (λ j has is. one j (subst (λ h. Has j (received h)) (view-keys m p) has) is) tt))

-- ---- from changes to facts

changed : (s : ℕ) (k : Key) (cs : List Change) (rest : List Fact) → DropsKey k cs → DropsIt s k rest → DropsIt s k (map (change_fact s) cs ++ rest)
unfolding DropsKey DropsIt
changed s k [] rest all later = later
changed s k (changes.Dropped j ∷ cs) rest all later = (all.0, changed s k cs rest all.1 later)
changed s k (changes.Retired j ∷ cs) rest all later = changed s k cs rest all later
changed s k (changes.Began j cause ∷ cs) rest all later = changed s k cs rest all later
changed s k (changes.Installed j ∷ cs) rest all later = changed s k cs rest all later
changed s k (changes.Untaken id why ∷ cs) rest all later = changed s k cs rest all later

reacted : (s number sent : ℕ) (k : Key) (re : Reaction) → DropsKey k re.changes → DropsIt s k (reaction_facts s number sent re)
unfolding DropsIt
reacted s number sent k re all = verdicts re.heard
  where
    sends : (q : Option (List ℕ)) → DropsIt s k (option_to_list (option_map (λ octets. facts.Framed sent s false octets) q))
    sends None = tt
    sends (Some octets) = tt

    servers : (q : Option (Option Mi)) → DropsIt s k (option_to_list (option_map (λ server. facts.Server s server) q)
        ++ (map (change_fact s) re.changes ++ option_to_list (option_map (λ octets. facts.Framed sent s false octets) re.sent)))
    servers None = changed s k re.changes _ all (sends re.sent)
    servers (Some server) = changed s k re.changes _ all (sends re.sent)

    verdicts : (q : Option Verdict) → DropsIt s k (option_to_list (option_map (λ verdict. facts.HeardMka number s verdict) q)
        ++ (option_to_list (option_map (λ server. facts.Server s server) re.server)
        ++ (map (change_fact s) re.changes ++ option_to_list (option_map (λ octets. facts.Framed sent s false octets) re.sent))))
    verdicts None = servers re.server
    verdicts (Some verdict) = servers re.server

-- ---- an event

module _ (settings : Settings) (s : ℕ) (c : Run) (x : Happening) (k : Key) (sends : transmitting_at settings s c ≡ Some k) where
  in-it : (l : Life) → life settings s c ≡ Some l → transmitting (keys_in l) ≡ Some k
  in-it l living = sym (in-life settings s c l living) ∙ sends

  reached-drops : (number : ℕ) (octets : List ℕ) (l : Life) → KeepsRules l.member.base (keys_in l) → life settings s c ≡ Some l
      → DropsIt s k (reached_facts settings s c number octets l)
  unfolding DropsIt
  reached-drops number octets l kept living = elim (cases_Bool (is_sec octets)) [
    | inl sec ↦ rw sec tt
    | inr plain ↦ rw plain (hears (judged l.member.setup octets) refl)
  ]
    where
      hears : (j : Result Announcement DropReason) → judged l.member.setup octets ≡ j
          → DropsIt s k (reaction_facts s number 0 (frame_turn l.member octets l.past).reaction)
      hears (Ok a) right = rw right (reacted s number 0 k (hear_turn l.member a l.past).reaction (hear-drops l.member l.past k kept (in-it l living) a))
      hears (Err v) wrong = rw wrong tt

  pub event-drops : (users : List UserFrame) → IsStepped settings users c → IsStep settings users x c → is_event_of s x.event ≡ true → DropsIt s k x.facts
  unfolding DropsIt
  event-drops users stepped step own = go (kind settings users x c step)
    where
      at : (t : ℕ) (e : Event) → x.event ≡ e → is_event_of s e ≡ (t == s) → t ≡ s
      at t e ev is = eqb-true t s (sym is ∙ subst (λ f. is_event_of s f ≡ true) ev own)

      reaches : (t number : ℕ) (octets : List ℕ) → kinds.IsReached c x.event t number octets → t ≡ s
      reaches t number octets (kinds.delivered f there same ev) = at t (events.Deliver number t) ev refl
      reaches t number octets (kinds.injected nil ev) = at t (events.Inject t octets) ev refl

      go : kinds.Kind settings users c x.event x.facts → DropsIt s k x.facts
      go (kinds.starts name sci priority mi ev is) = absurd (let no = subst (λ f. is_event_of s f ≡ true) ev own in cc no)
      go (kinds.ticks t next l ev living is) =
          let same = at t (events.Tick t next) ev refl in
          let here = subst (λ v. life settings v c ≡ Some l) same living in
          let kept = kept-run settings users c stepped s l here in
          let told = subst (λ v. x.facts ≡ tick_facts settings v c next (sak_in x.facts) l) same is in
          subst (DropsIt s k) (sym told) (reacted s 0 (next_frame c) k (turn_at_tick settings s c l next (sak_in x.facts)).reaction
          (tick-drops l.member l.past k kept (in-it l here) (seen_at settings s c l next) (sak_in x.facts)))
      go (kinds.reached t number octets l came living is) =
          let same = reaches t number octets came in
          let here = subst (λ v. life settings v c ≡ Some l) same living in
          subst (DropsIt s k) (sym (subst (λ v. x.facts ≡ reached_facts settings v c number octets l) same is))
          (reached-drops number octets l (kept-run settings users c stepped s l here) here)
      go (kinds.restarts t mi l ev drawn living is) =
          let same = at t (events.Restart t) ev refl in
          let here = subst (λ v. life settings v c ≡ Some l) same living in
          let told = subst (λ v. x.facts ≡ restart_facts v mi l) same is in
          subst (DropsIt s k) (sym told) (reacted s 0 0 k (ending l.member l.past)
          (ending-drops l.member l.past k (kept-run settings users c stepped s l here) (in-it l here)))
      go (kinds.claims t user pn ev is) = absurd (let no = subst (λ f. is_event_of s f ≡ true) ev own in cc no)
      go (kinds.emits w ev waits is) = absurd (let no = subst (λ f. is_event_of s f ≡ true) ev own in cc no)

  -- Where the words are an unpoint and a point, the key is replaced.
  pub replaced-by : (users : List UserFrame) (top top' : ℕ) (an : AssociationNumber) (e : ℕ) → IsStepped settings users c → IsStep settings users x c → is_event_of s x.event ≡ true
      → words_of s top (an_of (transmitting_at settings s c)) x.facts ≡ absent_after top' ∷ present_at an e ∷ []
      → is_replaced s k x.facts ≡ true
  unfolding Points
  replaced-by users top top' an e stepped step own words =
      let here : words_of s top (Some k.an) x.facts ≡ absent_after top' ∷ present_at an e ∷ [] =
      subst (λ o. words_of s top (an_of o) x.facts ≡ absent_after top' ∷ present_at an e ∷ []) sends words in
      let drop = named s top top' k x.facts (present_at an e ∷ []) (event-drops users stepped step own) here in
      let begin = pointed s top (Some k.an) x.facts (subst Points (sym here) (inr (inl refl))) in
      rw (drop, begin) refl
