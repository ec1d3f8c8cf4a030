-- Two histories that differ by announcements that were dropped lead to the same answers.
use Rattle.std.proofs.Common.{◌≡◌, ◌∙◌, ◌+◌, ◌&&◌, ◌||◌, ◌++◌, not, nat_le, ℕ, Bool, true, false, cond, List, [], ◌∷◌, map, Option, Some, None, is_some, unwrap_or, ap, sym, refl, subst}
use Rattle.std.specs.Prelude.{take}
use Rattle.std.specs.Option.{option_map}
use Rattle.std.specs.List.{find, list_any}
use Rattle.lan_base.specs.declared.address.Mi.{Mi}
use Rattle.lan_base.specs.Identifiers.{same_mi}
use Rattle.lan_base.specs.Timers.{hello_time}
use Rattle.aes_block.specs.declared.secret.Secret.{Secret}
use Rattle.mkpdu_codec.specs.declared.announcement.Announcement.{Announcement}
use Rattle.mkpdu_codec.specs.declared.peer.Peer.{Peer}
use Rattle.peer_lists.specs.declared.heard.Heard.{Heard}
use Rattle.peer_lists.specs.declared.heard.Outcome.{Outcome}
use Rattle.peer_lists.specs.declared.heard.Outcome.TheVariants.{Vouched, Unvouched, Dropped}
use Rattle.peer_lists.specs.Histories.{Peering, Sent, clock, announced, last_sent, recent, is_recent, ticked as peers_ticked, sent as peers_sent, heard as peers_heard}
use Rattle.peer_lists.specs.Acceptance.{Own, Accepted, accepted, refusal, outcome}
use Rattle.peer_lists.specs.Peers.{is_of}
use Rattle.peer_lists.proofs.Public.{accepted-ticked, accepted-sent}
use Rattle.sak_exchange.specs.declared.due.Seen.{Seen}
use Rattle.sak_exchange.specs.declared.offer.Offer.{Offer}
use Rattle.sak_exchange.specs.Beginning.{Beginning}
use Rattle.sak_exchange.specs.declared.held_key.Key.{Key}
use Rattle.sak_exchange.specs.Histories.{Keying, ticked as keys_ticked}
use Rattle.sak_exchange.specs.Making.{made_roster}
use Rattle.sak_exchange.specs.Outcomes.{beginning}
use Rattle.sak_exchange.proofs.Public.{by_test}
use Rattle.mka_station.specs.declared.reaction.Reaction.{Reaction}
use Rattle.mka_station.specs.Lives.{Member, Entry, ticked, sent, heard, installed, began, own, told, peers_of, keys_of, elected, elected_by, live_words, potential_words, last_spoken}
use Rattle.mka_station.specs.Views.{View, view, reports, is_server}
use Rattle.mka_station.specs.Announcing.{is_flagged, shown, same_shown, announces, is_due_since, says_now, announcement, uses_of, given, lowest_in, frame_of}
use Rattle.mka_station.specs.Tick.{tick_turn, new_server, ended, led, made, install_changes, with_beginning, with_install}
use Rattle.mka_station.specs.Hearing.{hear_turn, outcome_of, is_accepted, taken_of, key_taken, take_changes, followed, verdict_of}
use Rattle.mka_station.specs.Restart.{ending, lost_server}
use Rattle.sak_exchange.specs.declared.change.Change.TheVariants.{Dropped as DroppedKey}
use Rattle.sak_exchange.specs.Held.{received, held}
use Rattle.mka_station.specs.Dropped.{without_dropped}
use Rattle.mka_station.proofs.Pasts.{peers-ticked, peers-heard, peers-said, peers-installed, keys-ticked, keys-heard, keys-said, view-peers}
use Rattle.mka_station.proofs.Drops.{live-same, potential-same, view-is, view-parts, dropped-past}

-- ---- histories of peer lists

-- All that the rules ask of the history of the peer lists is the same.
record Same (o : Own) (g h : List Peering) : Type 0 where
  pub now : clock g ≡ clock h
  pub sent : announced g ≡ announced h
  pub last : last_sent g ≡ last_sent h
  pub past : accepted o g ≡ accepted o h

abbrev recent_in : ℕ → List Sent → ℕ → Bool
recent_in now s n = list_any (is_recent now n) s

same-recent : (o : Own) (g h : List Peering) → Same o g h → recent g ≡ recent h
same-recent o g h same =
    let a : recent_in (clock g) (announced g) ≡ recent_in (clock h) (announced g) = ap (λ (n : ℕ). recent_in n (announced g)) same.now in
    let b : recent_in (clock h) (announced g) ≡ recent_in (clock h) (announced h) = ap (recent_in (clock h)) same.sent in
    a ∙ b

-- what hearing comes to, by what was accepted and which numbers are recent
abbrev outcome_by : Own → ℕ → List Accepted → (ℕ → Bool) → Heard → Outcome
outcome_by o now past is_recent x =
    elim (refusal o now past x) [ None ↦ cond (x.lists && is_recent x.listed) Vouched Unvouched | Some reason ↦ Dropped reason ]

outcome-is : (o : Own) (h : List Peering) (x : Heard) → outcome o h x ≡ outcome_by o (clock h) (accepted o h) (recent h) x
unfolding outcome
outcome-is o h x = refl

same-outcome : (o : Own) (g h : List Peering) → Same o g h → (x : Heard) → outcome o g x ≡ outcome o h x
same-outcome o g h same x =
    outcome-is o g x ∙ ap (λ (n : ℕ). outcome_by o n (accepted o g) (recent g) x) same.now
    ∙ ap (λ (past : List Accepted). outcome_by o (clock h) past (recent g) x) same.past
    ∙ ap (λ (f : ℕ → Bool). outcome_by o (clock h) (accepted o h) f x) (same-recent o g h same) ∙ sym (outcome-is o h x)

abbrev accepted_by : Own → ℕ → List Accepted → (ℕ → Bool) → Heard → List Accepted
accepted_by o now past is_recent x =
    elim (refusal o now past x) [ None ↦ record { at = now; told = x; vouched = x.lists && is_recent x.listed } ∷ past | Some reason ↦ past ]

accepted-is : (o : Own) (h : List Peering) (x : Heard) → accepted o (peers_heard x ∷ h) ≡ accepted_by o (clock h) (accepted o h) (recent h) x
unfolding accepted
accepted-is o h x = refl

same-accepted : (o : Own) (g h : List Peering) → Same o g h → (x : Heard) → accepted o (peers_heard x ∷ g) ≡ accepted o (peers_heard x ∷ h)
same-accepted o g h same x =
    accepted-is o g x ∙ ap (λ (n : ℕ). accepted_by o n (accepted o g) (recent g) x) same.now
    ∙ ap (λ (past : List Accepted). accepted_by o (clock h) past (recent g) x) same.past
    ∙ ap (λ (f : ℕ → Bool). accepted_by o (clock h) (accepted o h) f x) (same-recent o g h same) ∙ sym (accepted-is o h x)

same-heard : (o : Own) (g h : List Peering) (x : Heard) → Same o g h → Same o (peers_heard x ∷ g) (peers_heard x ∷ h)
same-heard o g h x same = record { now = same.now; sent = same.sent; last = same.last; past = same-accepted o g h same x }

same-ticked : (o : Own) (g h : List Peering) → Same o g h → Same o (peers_ticked ∷ g) (peers_ticked ∷ h)
same-ticked o g h same = record {
  now = ap (λ (n : ℕ). n + 1) same.now;
  sent = same.sent;
  last = same.last;
  past = accepted-ticked o g ∙ same.past ∙ sym (accepted-ticked o h);
}

abbrev with_number : ℕ → ℕ → List Sent → List Sent
with_number n at s = record { at = at; mn = n } ∷ s

same-sent : (o : Own) (g h : List Peering) (n : ℕ) → Same o g h → Same o (peers_sent n ∷ g) (peers_sent n ∷ h)
same-sent o g h n same = record {
  now = same.now;
  sent = ap (λ (at : ℕ). with_number n at (announced g)) same.now ∙ ap (with_number n (clock h)) same.sent;
  last = refl;
  past = accepted-sent o n g ∙ same.past ∙ sym (accepted-sent o n h);
}

-- ---- histories of a life

record Alike (m : Member) (p q : List Entry) : Type 0 where
  pub peers : Same (own m) (peers_of m p) (peers_of m q)
  pub keys : keys_of m p ≡ keys_of m q

-- the peer lists' histories are these
by-peers : (m : Member) (p q : List Entry) (g h : List Peering) → peers_of m p ≡ g → peers_of m q ≡ h → Same (own m) g h → Same (own m) (peers_of m p) (peers_of m q)
by-peers m p q g h a b same = subst (λ (x : List Peering). Same (own m) x (peers_of m q)) (sym a) (subst (λ (y : List Peering). Same (own m) g y) (sym b) same)

elected-is : (m : Member) (p : List Entry) → elected m p ≡ elected_by m (live_words m (peers_of m p))
unfolding elected
elected-is m p = refl

same-elected : (m : Member) (p q : List Entry) → Same (own m) (peers_of m p) (peers_of m q) → elected m p ≡ elected m q
same-elected m p q same = elected-is m p ∙ ap (elected_by m) (live-same m (peers_of m p) (peers_of m q) same.now same.past) ∙ sym (elected-is m q)

alike-ticked : (m : Member) (p q : List Entry) → Alike m p q → Alike m (ticked ∷ p) (ticked ∷ q)
alike-ticked m p q alike =
    let peers = by-peers m (ticked ∷ p) (ticked ∷ q) _ _ (peers-ticked m p) (peers-ticked m q) (same-ticked (own m) (peers_of m p) (peers_of m q) alike.peers) in
    record {
      peers = peers;
      keys = keys-ticked m p ∙ ap (λ (s : Option Mi). keys_ticked (is_some s) ∷ keys_of m p) (same-elected m (ticked ∷ p) (ticked ∷ q) peers)
          ∙ ap (λ (h : List Keying). keys_ticked (is_some (elected m (ticked ∷ q))) ∷ h) alike.keys ∙ sym (keys-ticked m q);
    }

alike-sent : (m : Member) (a : Announcement) (p q : List Entry) → Alike m p q → Alike m (sent a ∷ p) (sent a ∷ q)
alike-sent m a p q alike = record {
  peers = by-peers m (sent a ∷ p) (sent a ∷ q) _ _ (peers-said m (Some a) p) (peers-said m (Some a) q) (same-sent (own m) (peers_of m p) (peers_of m q) a.mn alike.peers);
  keys = keys-said m (Some a) p ∙ alike.keys ∙ sym (keys-said m (Some a) q);
}

told-same : (m : Member) (a : Announcement) (p q : List Entry) → Alike m p q → told m.mi (recent (peers_of m p)) a ≡ told m.mi (recent (peers_of m q)) a
told-same m a p q alike = ap (λ (f : ℕ → Bool). told m.mi f a) (same-recent (own m) (peers_of m p) (peers_of m q) alike.peers)

alike-heard : (m : Member) (a : Announcement) (p q : List Entry) → Alike m p q → Alike m (heard a ∷ p) (heard a ∷ q)
alike-heard m a p q alike =
    let x = told m.mi (recent (peers_of m q)) a in
    record {
      peers = by-peers m (heard a ∷ p) (heard a ∷ q) (peers_heard x ∷ peers_of m p) (peers_heard x ∷ peers_of m q)
          (peers-heard m a p ∙ ap (λ (y : Heard). peers_heard y ∷ peers_of m p) (told-same m a p q alike)) (peers-heard m a q)
          (same-heard (own m) (peers_of m p) (peers_of m q) x alike.peers);
      keys = keys-heard m a p ∙ alike.keys ∙ sym (keys-heard m a q);
    }

keys-grow : (m : Member) (r : Option (List Mi)) (k : Key) (p q : List Entry) → keys_of m p ≡ keys_of m q → keys_of m (installed r k ∷ p) ≡ keys_of m (installed r k ∷ q)
unfolding keys_of
keys-grow m r k p q e = cc (e)

keys-begin : (m : Member) (n : ℕ) (p q : List Entry) → keys_of m p ≡ keys_of m q → keys_of m (began n ∷ p) ≡ keys_of m (began n ∷ q)
unfolding keys_of
keys-begin m n p q e = cc (e)

peers-stay : (m : Member) (n : ℕ) (p q : List Entry) → Same (own m) (peers_of m p) (peers_of m q) → Same (own m) (peers_of m (began n ∷ p)) (peers_of m (began n ∷ q))
unfolding peers_of
peers-stay m n p q same = same

alike-installed : (m : Member) (r : Option (List Mi)) (k : Key) (p q : List Entry) → Alike m p q → Alike m (installed r k ∷ p) (installed r k ∷ q)
alike-installed m r k p q alike = record {
  peers = by-peers m (installed r k ∷ p) (installed r k ∷ q) _ _ (peers-installed m r (Some k) p) (peers-installed m r (Some k) q) alike.peers;
  keys = keys-grow m r k p q alike.keys;
}

alike-began : (m : Member) (n : ℕ) (p q : List Entry) → Alike m p q → Alike m (began n ∷ p) (began n ∷ q)
alike-began m n p q alike = record { peers = peers-stay m n p q alike.peers; keys = keys-begin m n p q alike.keys }

alike-with-install : (m : Member) (r : Option (List Mi)) (k : Option Key) (p q : List Entry) → Alike m p q → Alike m (with_install r k p) (with_install r k q)
alike-with-install m r None p q alike = alike
alike-with-install m r (Some k) p q alike = alike-installed m r k p q alike

alike-with-beginning : (m : Member) (b : Option Beginning) (p q : List Entry) → Alike m p q → Alike m (with_beginning b p) (with_beginning b q)
alike-with-beginning m None p q alike = alike
alike-with-beginning m (Some b) p q alike = alike-began m b.key.epoch p q alike

-- a dropped announcement leaves what is alike
alike-dropped : (m : Member) (a : Announcement) (p q : List Entry) → is_accepted (outcome_of m q a) ≡ false → Alike m p q → Alike m p (heard a ∷ q)
alike-dropped m a p q is alike =
    let h = peers_of m q in
    let x = told m.mi (recent h) a in
    record {
      peers = by-peers m p (heard a ∷ q) (peers_of m p) (peers_heard x ∷ h) refl (peers-heard m a q)
          (record { now = alike.peers.now; sent = alike.peers.sent; last = alike.peers.last; past = alike.peers.past ∙ sym (dropped-past (own m) h x is) });
      keys = alike.keys ∙ sym (keys-heard m a q);
    }

alike-itself : (m : Member) (p : List Entry) → Alike m p p
alike-itself m p = record { peers = record { now = refl; sent = refl; last = refl; past = refl }; keys = refl }

-- ---- without what was dropped

without-accepted : (m : Member) (a : Announcement) (p : List Entry) → is_accepted (outcome_of m p a) ≡ true → without_dropped m (heard a ∷ p) ≡ heard a ∷ without_dropped m p
unfolding without_dropped
without-accepted m a p is = rw is refl

without-lost : (m : Member) (a : Announcement) (p : List Entry) → is_accepted (outcome_of m p a) ≡ false → without_dropped m (heard a ∷ p) ≡ without_dropped m p
unfolding without_dropped
without-lost m a p is = rw is refl

alike-without : (m : Member) (p : List Entry) → Alike m (without_dropped m p) p
unfolding without_dropped
alike-without m [] = alike-itself m []
alike-without m (ticked ∷ p) = alike-ticked m (without_dropped m p) p (alike-without m p)
alike-without m (sent a ∷ p) = alike-sent m a (without_dropped m p) p (alike-without m p)
alike-without m (installed r k ∷ p) = alike-installed m r k (without_dropped m p) p (alike-without m p)
alike-without m (began n ∷ p) = alike-began m n (without_dropped m p) p (alike-without m p)
alike-without m (heard a ∷ p) =
    by_test (is_accepted (outcome_of m p a))
    (λ e. subst (λ (q : List Entry). Alike m q (heard a ∷ p)) (sym (without-accepted m a p e)) (alike-heard m a (without_dropped m p) p (alike-without m p)))
    (λ e. subst (λ (q : List Entry). Alike m q (heard a ∷ p)) (sym (without-lost m a p e)) (alike-dropped m a (without_dropped m p) p e (alike-without m p)))

-- the last announcement was sent at the same moment
without-spoken : (m : Member) (p : List Entry) → last_spoken (without_dropped m p) ≡ option_map (without_dropped m) (last_spoken p)
unfolding without_dropped
without-spoken m [] = refl
without-spoken m (ticked ∷ p) = without-spoken m p
without-spoken m (sent a ∷ p) = refl
without-spoken m (installed r k ∷ p) = without-spoken m p
without-spoken m (began n ∷ p) = without-spoken m p
without-spoken m (heard a ∷ p) =
    by_test (is_accepted (outcome_of m p a))
    (λ e. ap last_spoken (without-accepted m a p e) ∙ without-spoken m p)
    (λ e. ap last_spoken (without-lost m a p e) ∙ without-spoken m p)

-- ---- views

view-alike : (m : Member) (p q : List Entry) → Alike m p q → view m p ≡ record (view m q) { peers = peers_of m p }
view-alike m p q alike =
    let g = peers_of m p in
    let h = peers_of m q in
    view-parts m q p (live_words m h) (potential_words m h) (live-same m g h alike.peers.now alike.peers.past) (potential-same m g h alike.peers.now alike.peers.past) alike.keys
    ∙ ap (λ (v : View). record v { peers = g }) (sym (view-is m q))

-- an announcement, by what was accepted and the number that was sent last
abbrev peer_by : List Accepted → Accepted → Peer
peer_by past a = record { mi = a.told.mi; mn = (unwrap_or (find (is_of a.told.mi) past) a).told.mn }

abbrev announcement_by : Member → (Key → ℕ) → View → List Accepted → ℕ → Announcement
announcement_by m lowest v past last =
    record {
      source = record { 0 = take 6 m.setup.sci.0 };
      priority = m.setup.priority;
      server = is_flagged m v;
      sci = m.setup.sci;
      mi = m.mi;
      mn = last + 1;
      ckn = m.setup.ckn;
      live = map (peer_by past) v.live;
      potential = map (peer_by past) v.potential;
      uses = uses_of lowest v.keys;
      given = given m v;
      highs = None;
    }

announcement-alike : (m : Member) (lowest : Key → ℕ) (v : View) (g : List Peering) → Same (own m) g v.peers → announcement m lowest (record v { peers = g }) ≡ announcement m lowest v
announcement-alike m lowest v g same =
    let a : announcement m lowest (record v { peers = g }) ≡ announcement_by m lowest v (accepted (own m) g) (last_sent g) = refl in
    let b : announcement_by m lowest v (accepted (own m) v.peers) (last_sent v.peers) ≡ announcement m lowest v = refl in
    a ∙ ap (λ (past : List Accepted). announcement_by m lowest v past (last_sent g)) same.past ∙ ap (announcement_by m lowest v (accepted (own m) v.peers)) same.last ∙ b

-- ---- whether it is due, and what is said

abbrev due_by : View → View → ℕ → ℕ → Bool
due_by v w now then = nat_le (then + hello_time) now || not (same_shown (shown v) (shown w))

due-alike : (m : Member) (v : View) (g : List Peering) (t u : List Entry) → clock g ≡ clock v.peers → Alike m t u → is_due_since m (record v { peers = g }) (Some t) ≡ is_due_since m v (Some u)
due-alike m v g t u now alike =
    let w = view m u in
    let at : clock (peers_of m t) ≡ clock w.peers = alike.peers.now ∙ ap clock (sym (view-peers m u)) in
    ap (λ (x : View). due_by v x (clock g) (clock x.peers)) (view-alike m t u alike)
    ∙ ap (λ (n : ℕ). due_by v w n (clock (peers_of m t))) now ∙ ap (due_by v w (clock v.peers)) at

due-option : (m : Member) (v : View) (g : List Peering) (s : Option (List Entry)) → clock g ≡ clock v.peers → is_due_since m (record v { peers = g }) (option_map (without_dropped m) s) ≡ is_due_since m v s
due-option m v g None now = refl
due-option m v g (Some u) now = due-alike m v g (without_dropped m u) u now (alike-without m u)

says-alike : (m : Member) (lowest : Key → ℕ) (v : View) (g : List Peering) (p : List Entry) → Same (own m) g v.peers → says_now m lowest (without_dropped m p) (record v { peers = g }) ≡ says_now m lowest p v
says-alike m lowest v g p same =
    let w = record v { peers = g } in
    let due : announces m w (without_dropped m p) ≡ announces m v p = ap (is_due_since m w) (without-spoken m p) ∙ due-option m v g (last_spoken p) same.now in
    ap (λ (b : Bool). cond b (Some (announcement m lowest w)) None) due
    ∙ ap (λ (a : Announcement). cond (announces m v p) (Some a) None) (announcement-alike m lowest v g same)

-- ---- a tick

abbrev past_by : Member → Seen → Secret → View → List Entry → List Entry
past_by m seen sak v p = with_install (Some (made_roster m.mi (reports v.live))) (made m v seen sak) (with_beginning (led m v) p)

abbrev tick_by : Member → Seen → Secret → View → View → Option Announcement → Reaction
tick_by m seen sak before v said =
    record {
      heard = None;
      server = new_server before v;
      changes = ended before.keys v.server ++ ((beginning v.keys (led m v)).changes ++ install_changes v.keys (Some (made_roster m.mi (reports v.live))) (made m v seen sak));
      sent = option_map (frame_of m.setup) said;
    }

abbrev says_by : Member → Seen → Secret → View → View → List Entry → Option Announcement
says_by m seen sak before v p = let q = past_by m seen sak v p in says_now m (lowest_in seen before.keys) q (view m q)

tick-is : (m : Member) (seen : Seen) (sak : Secret) (p : List Entry)
    → (tick_turn m seen sak p).reaction ≡ tick_by m seen sak (view m p) (view m (ticked ∷ p)) (says_by m seen sak (view m p) (view m (ticked ∷ p)) (ticked ∷ p))
unfolding tick_turn
tick-is m seen sak p = refl

without-past : (m : Member) (r : Option (List Mi)) (k : Option Key) (b : Option Beginning) (p : List Entry)
    → with_install r k (with_beginning b (ticked ∷ without_dropped m p)) ≡ without_dropped m (with_install r k (with_beginning b (ticked ∷ p)))
unfolding without_dropped
without-past m r None None p = refl
without-past m r None (Some b) p = refl
without-past m r (Some k) None p = refl
without-past m r (Some k) (Some b) p = refl

said-alike : (m : Member) (lowest : Key → ℕ) (r : Option (List Mi)) (k : Option Key) (b : Option Beginning) (p : List Entry)
    → let t = with_install r k (with_beginning b (ticked ∷ without_dropped m p)) in
    let u = with_install r k (with_beginning b (ticked ∷ p)) in
    says_now m lowest t (view m t) ≡ says_now m lowest u (view m u)
said-alike m lowest r k b p =
    let q = without_dropped m p in
    let t = with_install r k (with_beginning b (ticked ∷ q)) in
    let u = with_install r k (with_beginning b (ticked ∷ p)) in
    let alike : Alike m t u = alike-with-install m r k _ _ (alike-with-beginning m b _ _ (alike-ticked m q p (alike-without m p))) in
    let same : Same (own m) (peers_of m t) (view m u).peers = subst (λ (h : List Peering). Same (own m) (peers_of m t) h) (sym (view-peers m u)) alike.peers in
    ap (says_now m lowest t) (view-alike m t u alike)
    ∙ ap (λ (x : List Entry). says_now m lowest x (record (view m u) { peers = peers_of m t })) (without-past m r k b p)
    ∙ says-alike m lowest (view m u) (peers_of m t) u same

pub ticked-alike : (m : Member) (seen : Seen) (sak : Secret) (p : List Entry) → (tick_turn m seen sak (without_dropped m p)).reaction ≡ (tick_turn m seen sak p).reaction
ticked-alike m seen sak p =
    let q = without_dropped m p in
    let v = view m p in
    let w = view m (ticked ∷ p) in
    let alike = alike-without m p in
    let at = ticked ∷ q in
    tick-is m seen sak q
    ∙ ap (λ (x : View). tick_by m seen sak x (view m at) (says_by m seen sak x (view m at) at)) (view-alike m q p alike)
    ∙ ap (λ (x : View). tick_by m seen sak v x (says_by m seen sak v x at)) (view-alike m at (ticked ∷ p) (alike-ticked m q p alike))
    ∙ ap (tick_by m seen sak v w) (said-alike m (lowest_in seen v.keys) (Some (made_roster m.mi (reports w.live))) (made m w seen sak) (led m w) p)
    ∙ sym (tick-is m seen sak p)

-- ---- a hearing

abbrev offer_by : Member → Option Mi → Outcome → Announcement → (ℕ → Bool) → Option Offer
offer_by m server o a is_recent =
    cond (is_accepted o) (option_map (λ g. record { given = g; server = a.mi; listed = list_any (λ peer. same_mi peer.mi m.mi && is_recent peer.mn) a.live; elected = is_server server a.mi }) a.given) None

abbrev taken_by : Member → Announcement → Outcome → View → (ℕ → Bool) → List Entry → List Entry
taken_by m a o v is_recent p = with_install None (key_taken (taken_of m v (offer_by m v.server o a is_recent))) p

abbrev hear_by : Member → Announcement → View → Outcome → View → (ℕ → Bool) → View → Reaction
hear_by m a before o v is_recent w =
    let offer = offer_by m v.server o a is_recent in
    record {
      heard = Some (verdict_of o);
      server = new_server before v;
      changes = take_changes v.keys offer (taken_of m v offer) ++ (beginning w.keys (followed w o a)).changes;
      sent = None;
    }

hear-is : (m : Member) (a : Announcement) (p : List Entry)
    → let v = view m (heard a ∷ p) in
    (hear_turn m a p).reaction ≡ hear_by m a (view m p) (outcome_of m p a) v (recent v.peers) (view m (taken_by m a (outcome_of m p a) v (recent v.peers) (heard a ∷ p)))
unfolding hear_turn
hear-is m a p = refl

pub heard-alike : (m : Member) (a : Announcement) (p : List Entry) → (hear_turn m a (without_dropped m p)).reaction ≡ (hear_turn m a p).reaction
heard-alike m a p =
    let q = without_dropped m p in
    let g = peers_of m q in
    let h = peers_of m p in
    let alike = alike-without m p in
    let at = heard a ∷ q in
    let on = heard a ∷ p in
    let further = alike-heard m a q p alike in
    let o = outcome_of m p a in
    let v = view m on in
    let f = recent v.peers in
    let same : outcome_of m q a ≡ o = ap (outcome (own m) g) (told-same m a q p alike) ∙ same-outcome (own m) g h alike.peers (told m.mi (recent h) a) in
    let numbers : recent (peers_of m at) ≡ f = same-recent (own m) (peers_of m at) (peers_of m on) further.peers ∙ ap recent (sym (view-peers m on)) in
    let k = key_taken (taken_of m v (offer_by m v.server o a f)) in
    hear-is m a q
    ∙ ap (λ (x : View). let y = view m at in hear_by m a x (outcome_of m q a) y (recent y.peers) (view m (taken_by m a (outcome_of m q a) y (recent y.peers) at))) (view-alike m q p alike)
    ∙ ap (λ (x : Outcome). let y = view m at in hear_by m a (view m p) x y (recent y.peers) (view m (taken_by m a x y (recent y.peers) at))) same
    ∙ ap (λ (y : View). hear_by m a (view m p) o y (recent y.peers) (view m (taken_by m a o y (recent y.peers) at))) (view-alike m at on further)
    ∙ ap (λ (x : ℕ → Bool). hear_by m a (view m p) o v x (view m (taken_by m a o v x at))) numbers
    ∙ ap (hear_by m a (view m p) o v f) (view-alike m (with_install None k at) (with_install None k on) (alike-with-install m None k at on further))
    ∙ sym (hear-is m a p)

-- ---- the end of a life

abbrev end_by : View → Reaction
end_by v = record { heard = None; server = lost_server v.server; changes = map (λ k. DroppedKey (held v.keys k)) (received v.keys); sent = None }

end-is : (m : Member) (p : List Entry) → ending m p ≡ end_by (view m p)
unfolding ending
end-is m p = refl

pub ended-alike : (m : Member) (p : List Entry) → ending m (without_dropped m p) ≡ ending m p
ended-alike m p = end-is m (without_dropped m p) ∙ ap end_by (view-alike m (without_dropped m p) p (alike-without m p)) ∙ sym (end-is m p)
