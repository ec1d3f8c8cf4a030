-- What a dropped announcement leaves, and how far a turn counts.
use Rattle.std.proofs.Common.{◌≡◌, ◌∙◌, ◌≤◌, ◌+◌, ℕ, Bool, true, false, cond, List, ◌∷◌, None, is_some, ap, sym, refl, arith}
use Rattle.std.specs.List.{filter_map}
use Rattle.lan_base.specs.declared.address.Mi.{Mi}
use Rattle.aes_block.specs.declared.secret.Secret.{Secret}
use Rattle.mkpdu_codec.specs.declared.announcement.Announcement.{Announcement}
use Rattle.peer_lists.specs.declared.heard.Heard.{Heard}
use Rattle.peer_lists.specs.declared.heard.Outcome.TheVariants.{Vouched, Unvouched}
use Rattle.peer_lists.specs.Acceptance.{Own, Accepted, accepted, refusal, outcome, members, vouches}
use Rattle.peer_lists.specs.Histories.{Peering, clock, last_sent, recent, heard as peers_heard, ticked as peers_ticked}
use Rattle.peer_lists.specs.Peers.{says, hopes, known, standing, is_of, is_vouched_of}
use Rattle.peer_lists.proofs.Public.{accepted-dropped, known-is, says-is, hopes-is}
use Rattle.sak_exchange.specs.declared.due.Seen.{Seen}
use Rattle.sak_exchange.specs.Histories.{install_count}
use Rattle.sak_exchange.proofs.Public.{by_test, by_option}
use Rattle.mka_station.specs.Lives.{Member, Entry, ticked, heard, own, told, peers_of, keys_of, live_words, potential_words, elected_by}
use Rattle.mka_station.specs.Views.{View, view}
use Rattle.mka_station.specs.Announcing.{announces}
use Rattle.mka_station.specs.Tick.{tick_turn, made}
use Rattle.mka_station.specs.Hearing.{hear_turn, outcome_of, is_accepted, key_taken}
use Rattle.mka_station.specs.Tick.{ticked_past, says_at}
use Rattle.mka_station.specs.Hearing.{answer_at}
use Rattle.mka_station.specs.inside.Turns.{peers_with}
use Rattle.mka_station.proofs.Pasts.{peers-heard, keys-heard, view-peers, filter-same}
use Rattle.mka_station.proofs.Ticks.{turn-past, whole-peers, whole-keys, past-count, past-peers}
use Rattle.mka_station.proofs.Hears.{hear-past, heard-peers, heard-count}

-- ---- a dropped announcement

says-same : (o : Own) (g h : List Peering) → clock g ≡ clock h → accepted o g ≡ accepted o h → (k : Mi) → says o g k ≡ says o h k
says-same o g h now past k = says-is o g k ∙ ap (λ (n : ℕ). standing n (is_vouched_of k) (accepted o g)) now ∙ ap (standing (clock h) (is_vouched_of k)) past ∙ sym (says-is o h k)

hopes-same : (o : Own) (g h : List Peering) → clock g ≡ clock h → accepted o g ≡ accepted o h → (k : Mi) → hopes o g k ≡ hopes o h k
hopes-same o g h now past k =
    hopes-is o g k ∙ ap (λ s. cond (is_some s) None (standing (clock g) (is_of k) (accepted o g))) (says-same o g h now past k)
    ∙ ap (λ (n : ℕ). cond (is_some (says o h k)) None (standing n (is_of k) (accepted o g))) now ∙ ap (λ (xs : List Accepted). cond (is_some (says o h k)) None (standing (clock h) (is_of k) xs)) past ∙ sym (hopes-is o h k)

known-same : (o : Own) (g h : List Peering) → clock g ≡ clock h → accepted o g ≡ accepted o h → known o g ≡ known o h
known-same o g h now past = known-is o g ∙ ap (λ (n : ℕ). members n (accepted o g)) now ∙ ap (members (clock h)) past ∙ sym (known-is o h)

pub live-same : (m : Member) (g h : List Peering) → clock g ≡ clock h → accepted (own m) g ≡ accepted (own m) h → live_words m g ≡ live_words m h
live-same m g h now past = filter-same (says (own m) g) (says (own m) h) (says-same (own m) g h now past) (known (own m) g) ∙ ap (filter_map (says (own m) h)) (known-same (own m) g h now past)

pub potential-same : (m : Member) (g h : List Peering) → clock g ≡ clock h → accepted (own m) g ≡ accepted (own m) h → potential_words m g ≡ potential_words m h
potential-same m g h now past = filter-same (hopes (own m) g) (hopes (own m) h) (hopes-same (own m) g h now past) (known (own m) g) ∙ ap (filter_map (hopes (own m) h)) (known-same (own m) g h now past)

pub outcome-kept : (o : Own) (h : List Peering) (x : Heard) → refusal o (clock h) (accepted o h) x ≡ None → outcome o h x ≡ cond (vouches h x) Vouched Unvouched
unfolding outcome
outcome-kept o h x e = rw (e, outcome) refl

pub kept-accepted : (b : Bool) → is_accepted (cond b Vouched Unvouched) ≡ true
kept-accepted true = refl
kept-accepted false = refl

pub dropped-past : (o : Own) (h : List Peering) (x : Heard) → is_accepted (outcome o h x) ≡ false → accepted o (peers_heard x ∷ h) ≡ accepted o h
dropped-past o h x is =
    by_option (refusal o (clock h) (accepted o h) x)
    (λ e. let f : true ≡ false = sym (ap is_accepted (outcome-kept o h x e) ∙ kept-accepted (vouches h x)) ∙ is in absurd (cc (f)))
    (λ r e. accepted-dropped o x h r e)

pub view-parts : (m : Member) (p q : List Entry) (live potential : List Accepted) → live_words m (peers_of m q) ≡ live → potential_words m (peers_of m q) ≡ potential → keys_of m q ≡ keys_of m p
    → view m q ≡ record { live = live; potential = potential; server = elected_by m live; peers = peers_of m q; keys = keys_of m p }
unfolding view
view-parts m p q live potential a b c = rw (a, b, c) refl

pub view-is : (m : Member) (p : List Entry) → view m p ≡ record { live = live_words m (peers_of m p); potential = potential_words m (peers_of m p); server = elected_by m (live_words m (peers_of m p)); peers = peers_of m p; keys = keys_of m p }
unfolding view
view-is m p = refl

pub dropped-view : (m : Member) (a : Announcement) (p : List Entry) → is_accepted (outcome_of m p a) ≡ false → view m (heard a ∷ p) ≡ record (view m p) { peers = peers_of m (heard a ∷ p) }
dropped-view m a p is =
    let h = peers_of m p in
    let g = peers_of m (heard a ∷ p) in
    let x = told m.mi (recent h) a in
    let now : clock g ≡ clock h = ap clock (peers-heard m a p) in
    let past : accepted (own m) g ≡ accepted (own m) h = ap (accepted (own m)) (peers-heard m a p) ∙ dropped-past (own m) h x is in
    view-parts m p (heard a ∷ p) (live_words m h) (potential_words m h) (live-same m g h now past) (potential-same m g h now past) (keys-heard m a p) ∙ ap (λ (v : View). record v { peers = g }) (sym (view-is m p))

-- ---- counts

one-at-most : (b : Bool) → cond b 1 0 ≤ 1
one-at-most true = omega arith
one-at-most false = omega arith

pub installs-ticked : (m : Member) (seen : Seen) (any : Secret) (p : List Entry) → install_count (keys_of m (tick_turn m seen any p).past) ≤ install_count (keys_of m p) + 1
installs-ticked m seen any p =
    let e = ap install_count (ap (keys_of m) (sym (turn-past m seen any p)) ∙ sym (whole-keys m seen any p)) ∙ past-count m seen any p in
    omega (arith, e, one-at-most (is_some (made m (view m (ticked ∷ p)) seen any)))

sent-once : (m : Member) (seen : Seen) (any : Secret) (p : List Entry) → last_sent (peers_with (says_at m seen any p) (peers_ticked ∷ peers_of m p)) ≤ last_sent (peers_of m p) + 1
sent-once m seen any p =
    let q = ticked_past m seen any p in
    by_test (announces m (view m q) q)
    (λ e. let l : last_sent (view m q).peers ≡ last_sent (peers_of m p) = ap last_sent (view-peers m q ∙ past-peers m seen any p) in rw e (omega (arith, l)))
    (λ e. rw e (omega arith))

pub sent-ticked : (m : Member) (seen : Seen) (any : Secret) (p : List Entry) → last_sent (peers_of m (tick_turn m seen any p).past) ≤ last_sent (peers_of m p) + 1
sent-ticked m seen any p =
    let e = ap last_sent (ap (peers_of m) (sym (turn-past m seen any p)) ∙ sym (whole-peers m seen any p)) in
    omega (arith, e, sent-once m seen any p)

pub installs-heard : (m : Member) (a : Announcement) (p : List Entry) → install_count (keys_of m (hear_turn m a p).past) ≤ install_count (keys_of m p) + 1
installs-heard m a p =
    let e = ap install_count (ap (keys_of m) (sym (hear-past m a p))) ∙ heard-count m a p in
    omega (arith, e, one-at-most (is_some (key_taken (answer_at m a p))))

pub sent-heard : (m : Member) (a : Announcement) (p : List Entry) → last_sent (peers_of m (hear_turn m a p).past) ≡ last_sent (peers_of m p)
sent-heard m a p = ap last_sent (ap (peers_of m) (sym (hear-past m a p)) ∙ heard-peers m a p ∙ peers-heard m a p)
