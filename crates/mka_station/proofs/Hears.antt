-- A hearing, put together.
use Rattle.std.proofs.Common.{◌≡◌, ◌∙◌, ℕ, ◌+◌, Bool, false, cond, ◌||◌, List, [], ◌∷◌, ◌++◌, map, Option, Some, None, is_some, option_map, refl, ap, sym, subst, arith}
use Rattle.std.specs.Prelude.{Result, Ok, Err}
use Rattle.std.specs.List.{filter, list_any}
use Rattle.lan_base.specs.declared.address.Mi.{Mi}
use Rattle.lan_base.specs.Identifiers.{same_mi}
use Rattle.mkpdu_codec.specs.declared.announcement.Announcement.{Announcement}
use Rattle.peer_lists.specs.declared.heard.Outcome.{Outcome}
use Rattle.peer_lists.specs.Histories.{Peering, clock}
use Rattle.peer_lists.specs.Table.{StandsFor as PeersStandFor}
use Rattle.sak_exchange.specs.declared.change.Change.{Change}
use Rattle.sak_exchange.specs.declared.change.Change.TheVariants.{Dropped}
use Rattle.sak_exchange.specs.declared.change.Why.{Why}
use Rattle.sak_exchange.specs.declared.offer.Offer.{Offer}
use Rattle.sak_exchange.specs.declared.held_key.Key.{Key}
use Rattle.sak_exchange.specs.Histories.{Keying, install_count, installed}
use Rattle.sak_exchange.specs.Held.{received, held, ends}
use Rattle.sak_exchange.specs.Beginning.{Beginning}
use Rattle.sak_exchange.specs.Outcomes.{beginning, judging}
use Rattle.sak_exchange.specs.Standing.{StandsFor as KeysStandFor, ticks_since}
use Rattle.sak_exchange.specs.Taking.{taken}
use Rattle.sak_exchange.specs.Unwrapping.{given_sak}
use Rattle.sak_exchange.proofs.Public.{by_test}
use Rattle.mka_station.specs.Lives.{Member, Entry, heard, own, peers_of, keys_of, last_spoken}
use Rattle.mka_station.specs.Views.{View, view}
use Rattle.mka_station.specs.Announcing.{same_option, shown}
use Rattle.mka_station.specs.Tick.{new_server}
use Rattle.mka_station.specs.Hearing.{hear_turn, outcome_of, offer_at, answer_at, taken_past, follow_at, heard_past, key_taken, take_changes, verdict_of}
use Rattle.mka_station.specs.Standing.{State, StandsFor, spoken_at}
use Rattle.mka_station.specs.inside.Turns.{is_install, offered_by, answered, keys_with, followed_by}
use Rattle.mka_station.proofs.Pasts.{peers-heard, peers-begun, peers-installed, keys-heard, keys-begun, keys-taken, spoken-begun, spoken-installed, view-peers, view-keys, view-server, view-same, elected-same}

pub hear-past : (m : Member) (a : Announcement) (p : List Entry) → heard_past m a p ≡ (hear_turn m a p).past
unfolding hear_turn
hear-past m a p = refl

-- ---- its projections

pub taken-peers : (m : Member) (a : Announcement) (p : List Entry) → peers_of m (taken_past m a p) ≡ peers_of m (heard a ∷ p)
taken-peers m a p = peers-installed m None (key_taken (answer_at m a p)) (heard a ∷ p)

pub heard-peers : (m : Member) (a : Announcement) (p : List Entry) → peers_of m (heard_past m a p) ≡ peers_of m (heard a ∷ p)
heard-peers m a p = peers-begun m (follow_at m a p) (taken_past m a p) ∙ taken-peers m a p

pub heard-spoken : (m : Member) (a : Announcement) (p : List Entry) → last_spoken (heard_past m a p) ≡ last_spoken p
heard-spoken m a p = spoken-begun (follow_at m a p) (taken_past m a p) ∙ spoken-installed None (key_taken (answer_at m a p)) (heard a ∷ p)

heard-keys : (m : Member) (a : Announcement) (p : List Entry) → (view m (heard a ∷ p)).keys ≡ keys_of m p
heard-keys m a p = view-keys m (heard a ∷ p) ∙ keys-heard m a p

-- ---- what is elected, offered, taken and followed

pub offer-is : (m : Member) (a : Announcement) (p : List Entry) (h : List Peering) (server : Option Mi) (o : Outcome) → h ≡ peers_of m (heard a ∷ p) → server ≡ (view m (heard a ∷ p)).server → o ≡ outcome_of m p a
    → offered_by o h m.mi server a ≡ offer_at m a p
offer-is m a p h server o same is out =
    rw (out, is, same ∙ sym (view-peers m (heard a ∷ p))) refl

pub answer-is : (m : Member) (a : Announcement) (p : List Entry) (offer : Option Offer) → offer ≡ offer_at m a p → answered m.base m.setup.kek (keys_of m p) offer ≡ answer_at m a p
answer-is m a p offer is =
    ap (answered m.base m.setup.kek (keys_of m p)) is ∙ ap (λ (h : List Keying). answered m.base m.setup.kek h (offer_at m a p)) (sym (heard-keys m a p))

pub taken-keys : (m : Member) (a : Announcement) (p : List Entry) → keys_with (key_taken (answer_at m a p)) (keys_of m p) ≡ keys_of m (taken_past m a p)
taken-keys m a p =
    ap (keys_with (key_taken (answer_at m a p))) (sym (keys-heard m a p)) ∙ keys-taken m (key_taken (answer_at m a p)) (heard a ∷ p)

taken-view : (m : Member) (a : Announcement) (p : List Entry) → view m (taken_past m a p) ≡ record (view m (heard a ∷ p)) { keys = keys_of m (taken_past m a p) }
taken-view m a p = view-same m (heard a ∷ p) (taken_past m a p) (taken-peers m a p)

pub follow-is : (m : Member) (a : Announcement) (p : List Entry) (server : Option Mi) (o : Outcome) → server ≡ (view m (heard a ∷ p)).server → o ≡ outcome_of m p a
    → followed_by o server a (keys_of m (taken_past m a p)) ≡ follow_at m a p
follow-is m a p server o is out =
    let s : server ≡ (view m (taken_past m a p)).server = is ∙ ap (λ (v : View). v.server) (sym (taken-view m a p)) in
    rw (out, s, sym (view-keys m (taken_past m a p))) refl

pub heard-all : (m : Member) (a : Announcement) (p : List Entry) → (beginning (keys_of m (taken_past m a p)) (follow_at m a p)).past ≡ keys_of m (heard_past m a p)
heard-all m a p = keys-begun m (follow_at m a p) (taken_past m a p)

-- ---- the reaction

pub heard-reacts : (m : Member) (s : State) (a : Announcement) (p : List Entry) (o : Outcome) (server : Option Mi) (offer : Option Offer) (news : Option (Option Mi)) (first second changes : List Change)
    → StandsFor m s p → o ≡ outcome_of m p a → server ≡ (view m (heard a ∷ p)).server → offer ≡ offer_at m a p
    → news ≡ cond (same_option same_mi s.server server) None (Some server)
    → first ≡ take_changes (keys_of m p) offer (answered m.base m.setup.kek (keys_of m p) offer)
    → second ≡ (beginning (keys_of m (taken_past m a p)) (followed_by o server a (keys_of m (taken_past m a p)))).changes
    → changes ≡ first ++ second
    → record { heard = Some (verdict_of o); server = news; changes = changes; sent = None } ≡ (hear_turn m a p).reaction
unfolding hear_turn
heard-reacts m s a p o server offer news first second changes stands out is off news_is first_is second_is changes_is =
    let v = view m (heard a ∷ p) in
    let n : news ≡ new_server (view m p) v = news_is ∙ ap (λ (x : Option Mi). cond (same_option same_mi x server) None (Some server)) (stands.server ∙ sym (view-server m p)) ∙ ap (λ (x : Option Mi). cond (same_option same_mi (view m p).server x) None (Some x)) is in
    let f : first ≡ take_changes v.keys (offer_at m a p) (answer_at m a p) =
    first_is ∙ ap (take_changes (keys_of m p) offer) (answer-is m a p offer off) ∙ ap (λ (x : Option Offer). take_changes (keys_of m p) x (answer_at m a p)) off ∙ ap (λ (h : List Keying). take_changes h (offer_at m a p) (answer_at m a p)) (sym (heard-keys m a p)) in
    let g : second ≡ (beginning (view m (taken_past m a p)).keys (follow_at m a p)).changes =
    second_is ∙ ap (λ (b : Option Beginning). (beginning (keys_of m (taken_past m a p)) b).changes) (follow-is m a p server o is out) ∙ ap (λ (h : List Keying). (beginning h (follow_at m a p)).changes) (sym (view-keys m (taken_past m a p))) in
    rw (n, changes_is, f, g, out) refl

-- ---- installs

any-append : (test : Change → Bool) (xs ys : List Change) → list_any test (xs ++ ys) ≡ (list_any test xs || list_any test ys)
any-append test [] ys = refl
any-append test (x ∷ xs) ys = by_test (test x) (λ e. rw e refl) (λ e. rw e (any-append test xs ys))

none-installs : (h : List Keying) (ks : List Key) → list_any is_install (map (λ j. Dropped (held h j)) ks) ≡ false
none-installs h [] = refl
none-installs h (k ∷ ks) = none-installs h ks

one-installs : (h : List Keying) (offer : Option Offer) (f : Offer → Result Key Why) → list_any is_install (take_changes h offer (option_map f offer)) ≡ is_some (key_taken (option_map f offer))
one-installs h None f = refl
one-installs h (Some o) f = judged-installs (f o)
  where
    judged-installs : (r : Result Key Why) → list_any is_install (judging h o r).changes ≡ is_some (key_taken (Some r))
    judged-installs (Ok k) = any-append is_install (map (λ j. Dropped (held h j)) (filter (ends (installed None k) h) (received h))) _ ∙ rw (none-installs h (filter (ends (installed None k) h) (received h))) refl
    judged-installs (Err why) = refl

pub taken-installs : (m : Member) (a : Announcement) (p : List Entry) (offer : Option Offer) (first : List Change) → offer ≡ offer_at m a p
    → first ≡ take_changes (keys_of m p) offer (answered m.base m.setup.kek (keys_of m p) offer) → list_any is_install first ≡ is_some (key_taken (answer_at m a p))
taken-installs m a p offer first off is =
    ap (list_any is_install) is ∙ one-installs (keys_of m p) offer (λ o. taken m.base (keys_of m p) o (given_sak m.setup.kek o.given.key)) ∙ ap (λ r. is_some (key_taken r)) (answer-is m a p offer off)

with-count : (o : Option Key) (h : List Keying) → install_count (keys_with o h) ≡ install_count h + cond (is_some o) 1 0
with-count None h = omega arith
with-count (Some k) h = refl

begun-count : (h : List Keying) (b : Option Beginning) → install_count (beginning h b).past ≡ install_count h
begun-count h None = refl
begun-count h (Some b) = refl

-- ---- what stands then

spoken-kept : (m : Member) (p q : List Entry) (last : Option (List Entry)) → clock (peers_of m q) ≡ clock (peers_of m p) → option_map (spoken_at m p) last ≡ option_map (spoken_at m q) last
spoken-kept m p q None now = refl
spoken-kept m p q (Some then) now = ap (λ (n : ℕ). Some (record { shown = shown (view m then); since = ticks_since n (clock (peers_of m then)) })) (sym now)

heard-clock : (m : Member) (a : Announcement) (p : List Entry) → clock (peers_of m (heard_past m a p)) ≡ clock (peers_of m p)
heard-clock m a p = ap clock (heard-peers m a p ∙ peers-heard m a p)

pub heard-count : (m : Member) (a : Announcement) (p : List Entry) → install_count (keys_of m (heard_past m a p)) ≡ install_count (keys_of m p) + cond (is_some (key_taken (answer_at m a p))) 1 0
heard-count m a p =
    ap install_count (sym (heard-all m a p)) ∙ begun-count (keys_of m (taken_past m a p)) (follow_at m a p) ∙ ap install_count (sym (taken-keys m a p)) ∙ with-count (key_taken (answer_at m a p)) (keys_of m p)

pub stands-heard : (m : Member) (s t : State) (a : Announcement) (p : List Entry) (server : Option Mi) → StandsFor m s p
    → server ≡ (view m (heard a ∷ p)).server
    → t.setup ≡ s.setup → t.mi ≡ s.mi → t.epochs ≡ s.epochs + cond (is_some (key_taken (answer_at m a p))) 1 0
    → PeersStandFor (own m) t.peers (peers_of m (heard a ∷ p))
    → KeysStandFor m.base m.mi false t.keys (keys_of m (heard_past m a p))
    → t.server ≡ server → t.spoken ≡ s.spoken
    → StandsFor m t (hear_turn m a p).past
stands-heard m s t a p server stands server_is setup mi epochs peers keys elects spoken =
    let q = taken_past m a p in
    let r = heard_past m a p in
    let key = key_taken (answer_at m a p) in
    let count : install_count (keys_of m r) ≡ install_count (keys_of m p) + cond (is_some key) 1 0 =
    ap install_count (sym (heard-all m a p)) ∙ begun-count (keys_of m q) (follow_at m a p) ∙ ap install_count (sym (taken-keys m a p)) ∙ with-count key (keys_of m p) in
    let whole : StandsFor m t r = record {
      setup = setup ∙ stands.setup;
      mi = mi ∙ stands.mi;
      epochs = epochs ∙ omega (arith, count, stands.epochs);
      peers = subst (λ (h : List Peering). PeersStandFor (own m) t.peers h) (sym (heard-peers m a p)) peers;
      keys = keys;
      server = elects ∙ server_is ∙ view-server m (heard a ∷ p) ∙ sym (elected-same m (heard a ∷ p) r (heard-peers m a p));
      spoken = spoken ∙ stands.spoken ∙ spoken-kept m p r (last_spoken p) (heard-clock m a p) ∙ ap (option_map (spoken_at m r)) (sym (heard-spoken m a p));
    } in
    subst (λ (x : List Entry). StandsFor m t x) (hear-past m a p) whole
