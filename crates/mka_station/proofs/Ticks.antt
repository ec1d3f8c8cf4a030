-- A tick, put together.
use Rattle.std.proofs.lemmas.List.{append_assoc}
use Rattle.sak_exchange.specs.Beginning.{Beginning}
use Rattle.std.proofs.Common.{◌≡◌, ◌∙◌, ℕ, ◌+◌, ◌≤◌, Bool, true, false, cond, List, ◌∷◌, ◌++◌, Option, Some, None, is_some, option_map, refl, ap, sym, subst, arith}
use Rattle.lan_base.specs.declared.address.Mi.{Mi}
use Rattle.lan_base.specs.Identifiers.{same_mi}
use Rattle.aes_block.specs.declared.secret.Secret.{Secret}
use Rattle.mkpdu_codec.specs.declared.announcement.Announcement.{Announcement}
use Rattle.peer_lists.specs.Histories.{Peering, clock, last_sent, ticked as peers_ticked, sent as peers_sent}
use Rattle.peer_lists.specs.Table.{StandsFor as PeersStandFor}
use Rattle.sak_exchange.specs.declared.change.Change.{Change}
use Rattle.sak_exchange.specs.declared.due.Seen.{Seen}
use Rattle.sak_exchange.specs.declared.report.Report.{Report}
use Rattle.sak_exchange.specs.declared.held_key.Key.{Key}
use Rattle.sak_exchange.specs.Histories.{Keying, install_count}
use Rattle.sak_exchange.specs.Making.{made_roster}
use Rattle.sak_exchange.specs.Outcomes.{beginning}
use Rattle.sak_exchange.specs.Standing.{StandsFor as KeysStandFor, ticks_since}
use Rattle.mka_station.specs.declared.shown.Spoken.{Spoken}
use Rattle.mka_station.specs.Lives.{Member, Entry, ticked, sent, own, peers_of, keys_of, last_spoken}
use Rattle.mka_station.specs.Views.{View, view, reports}
use Rattle.mka_station.specs.Announcing.{shown, same_option, lowest_in, frame_of, announces}
use Rattle.mka_station.specs.Tick.{new_server, ended, led, made, with_sent, install_changes, roster_at, begun_past, ticked_past, says_at, tick_turn}
use Rattle.mka_station.specs.Drawing.{makes_next}
use Rattle.mka_station.specs.Standing.{State, StandsFor, spoken_at}
use Rattle.mka_station.specs.inside.Found.{Found, IsFoundNext}
use Rattle.mka_station.specs.inside.Saying.{lowest_of}
use Rattle.sak_exchange.proofs.Public.{by_test}
use Rattle.mka_station.specs.inside.Rows.{IsShown}
use Rattle.mka_station.specs.inside.Due.{shown_by, one_later}
use Rattle.mka_station.specs.inside.Turns.{said_by, peers_with, made_by, keys_made, spoken_after, spoken_later}
use Rattle.mka_station.proofs.RowsShown.{rows-show}
use Rattle.mka_station.proofs.Pasts.{peers-ticked, peers-begun, peers-installed, peers-said, keys-ticked, keys-begun, keys-made, keys-said, spoken-begun, spoken-installed, view-peers, view-keys, view-server, view-same, elected-said, spoken-before}
use Rattle.mka_station.proofs.Makes.{key-is, install-same}
use Rattle.mka_station.proofs.Says.{Sees, shown-is, said-is, since-later}

pub turn-past : (m : Member) (seen : Seen) (any : Secret) (p : List Entry) → with_sent (says_at m seen any p) (ticked_past m seen any p) ≡ (tick_turn m seen any p).past
unfolding tick_turn
turn-past m seen any p = refl

-- ---- the history before what is sent

pub past-peers : (m : Member) (seen : Seen) (any : Secret) (p : List Entry) → peers_of m (ticked_past m seen any p) ≡ peers_ticked ∷ peers_of m p
past-peers m seen any p =
    peers-installed m (roster_at m p) (made m (view m (ticked ∷ p)) seen any) (begun_past m p) ∙ peers-begun m (led m (view m (ticked ∷ p))) (ticked ∷ p) ∙ peers-ticked m p

pub past-spoken : (m : Member) (seen : Seen) (any : Secret) (p : List Entry) → last_spoken (ticked_past m seen any p) ≡ last_spoken p
past-spoken m seen any p =
    spoken-installed (roster_at m p) (made m (view m (ticked ∷ p)) seen any) (begun_past m p) ∙ spoken-begun (led m (view m (ticked ∷ p))) (ticked ∷ p)

pub past-keys : (m : Member) (p : List Entry) (c : Found) (seen : Seen) (any : Secret) (sak : Option Secret) (conf : Bool) → IsFoundNext m p c → sak ≡ cond (makes_next m p seen) (Some any) None → conf ≡ m.setup.conf
    → keys_made (Some (made_roster m.mi c.reports)) (made_by m.base m.mi (keys_of m (begun_past m p)) conf sak) (keys_of m (begun_past m p)) ≡ keys_of m (ticked_past m seen any p)
past-keys m p c seen any sak conf comes is same =
    let h = keys_of m (begun_past m p) in
    ap (λ (r : List Report). keys_made (Some (made_roster m.mi r)) (made_by m.base m.mi h conf sak) h) comes.told
    ∙ ap (λ (b : Bool). keys_made (roster_at m p) (made_by m.base m.mi h b sak) h) same
    ∙ ap (λ (k : Option Key). keys_made (roster_at m p) k h) (key-is m p seen any sak is)
    ∙ keys-made m (roster_at m p) (made m (view m (ticked ∷ p)) seen any) (begun_past m p)

pub past-installed : (m : Member) (p : List Entry) (c : Found) (seen : Seen) (any : Secret) (sak : Option Secret) (conf : Bool) → IsFoundNext m p c → sak ≡ cond (makes_next m p seen) (Some any) None → conf ≡ m.setup.conf
    → install_changes (keys_of m (begun_past m p)) (Some (made_roster m.mi c.reports)) (made_by m.base m.mi (keys_of m (begun_past m p)) conf sak) ≡ install_changes (view m (ticked ∷ p)).keys (roster_at m p) (made m (view m (ticked ∷ p)) seen any)
past-installed m p c seen any sak conf comes is same =
    let h = keys_of m (begun_past m p) in
    ap (λ (r : List Report). install_changes h (Some (made_roster m.mi r)) (made_by m.base m.mi h conf sak)) comes.told
    ∙ ap (λ (b : Bool). install_changes h (roster_at m p) (made_by m.base m.mi h b sak)) same
    ∙ ap (λ (k : Option Key). install_changes h (roster_at m p) k) (key-is m p seen any sak is)
    ∙ install-same m p seen any (roster_at m p)

-- ---- its installs

pub begun-count : (m : Member) (p : List Entry) → install_count (keys_of m (begun_past m p)) ≡ install_count (keys_of m p)
begun-count m p = ap install_count (sym (keys-begun m (led m (view m (ticked ∷ p))) (ticked ∷ p))) ∙ same (led m (view m (ticked ∷ p))) ∙ ap install_count (keys-ticked m p)
  where
    same : (b : Option Beginning) → install_count (beginning (keys_of m (ticked ∷ p)) b).past ≡ install_count (keys_of m (ticked ∷ p))
    same None = refl
    same (Some b) = refl

with-count : (r : Option (List Mi)) (o : Option Key) (h : List Keying) → install_count (keys_made r o h) ≡ install_count h + cond (is_some o) 1 0
with-count r None h = omega arith
with-count r (Some k) h = refl

pub past-count : (m : Member) (seen : Seen) (any : Secret) (p : List Entry) → install_count (keys_of m (ticked_past m seen any p)) ≡ install_count (keys_of m p) + cond (is_some (made m (view m (ticked ∷ p)) seen any)) 1 0
past-count m seen any p =
    let key = made m (view m (ticked ∷ p)) seen any in
    ap install_count (sym (keys-made m (roster_at m p) key (begun_past m p))) ∙ with-count (roster_at m p) key (keys_of m (begun_past m p)) ∙ ap (λ (n : ℕ). n + cond (is_some key) 1 0) (begun-count m p)

-- ---- what is shown and said

past-view : (m : Member) (seen : Seen) (any : Secret) (p : List Entry) → view m (ticked_past m seen any p) ≡ record (view m (ticked ∷ p)) { keys = keys_of m (ticked_past m seen any p) }
past-view m seen any p = view-same m (ticked ∷ p) (ticked_past m seen any p) (past-peers m seen any p ∙ sym (peers-ticked m p))

past-server : (m : Member) (c : Found) (p : List Entry) (seen : Seen) (any : Secret) → IsFoundNext m p c → c.server ≡ (view m (ticked_past m seen any p)).server
past-server m c p seen any comes = comes.server ∙ ap (λ (v : View). v.server) (sym (past-view m seen any p))

past-shows : (m : Member) (c : Found) (p : List Entry) (seen : Seen) (any : Secret) → IsFoundNext m p c → IsShown m (view m (ticked_past m seen any p)) c.rows
past-shows m c p seen any comes = rows-show m (ticked_past m seen any p) (peers_ticked ∷ peers_of m p) c.rows (past-peers m seen any p) comes.rows

past-sees : (m : Member) (s : State) (c : Found) (p : List Entry) (seen : Seen) (any : Secret) (mn : ℕ) → StandsFor m s p → IsFoundNext m p c → mn ≡ last_sent (peers_ticked ∷ peers_of m p) + 1
    → Sees m s c (view m (ticked_past m seen any p)) mn (keys_of m (ticked_past m seen any p))
past-sees m s c p seen any mn stands comes number =
    let q = ticked_past m seen any p in
    record {
      setup = stands.setup;
      mi = stands.mi;
      shows = past-shows m c p seen any comes;
      told = comes.told ∙ ap (λ (v : View). reports v.live) (sym (past-view m seen any p));
      server = past-server m c p seen any comes;
      number = number ∙ ap (λ (h : List Peering). last_sent h + 1) (sym (view-peers m q ∙ past-peers m seen any p));
      keys = sym (view-keys m q);
    }

pub past-shown : (m : Member) (c : Found) (p : List Entry) (seen : Seen) (any : Secret) → IsFoundNext m p c
    → shown_by c.rows c.server (keys_of m (ticked_past m seen any p)) ≡ shown (view m (ticked_past m seen any p))
past-shown m c p seen any comes =
    let q = ticked_past m seen any p in
    shown-is m (view m q) c.rows (past-shows m c p seen any comes) c.server (keys_of m q) (past-server m c p seen any comes) (sym (view-keys m q))

pub past-said : (m : Member) (s : State) (c : Found) (p : List Entry) (seen : Seen) (any : Secret) → StandsFor m s p → IsFoundNext m p c
    → said_by s c (s.peers.sent.last + 1) (lowest_of (keys_of m p) seen) (keys_of m (ticked_past m seen any p)) ≡ says_at m seen any p
past-said m s c p seen any stands comes =
    let q = ticked_past m seen any p in
    said-is m p q s c (s.peers.sent.last + 1) (lowest_of (keys_of m p) seen) (keys_of m q) (lowest_in seen (view m p).keys)
    (λ k. rw (view-keys m p) refl) (past-sees m s c p seen any (s.peers.sent.last + 1) stands comes (ap (λ (n : ℕ). n + 1) stands.peers.last)) (past-shown m c p seen any comes) stands.spoken (past-spoken m seen any p) (past-peers m seen any p)

-- ---- the reaction

pub reacts : (m : Member) (s : State) (c : Found) (p : List Entry) (seen : Seen) (any : Secret) (server : Option (Option Mi)) (changes passed inst : List Change) (frame : Option (List ℕ)) → StandsFor m s p → IsFoundNext m p c
    → server ≡ cond (same_option same_mi s.server c.server) None (Some c.server)
    → changes ≡ passed ++ inst
    → passed ≡ ended (view m p).keys (view m (ticked ∷ p)).server ++ (beginning (view m (ticked ∷ p)).keys (led m (view m (ticked ∷ p)))).changes
    → inst ≡ install_changes (view m (ticked ∷ p)).keys (roster_at m p) (made m (view m (ticked ∷ p)) seen any)
    → frame ≡ option_map (frame_of m.setup) (says_at m seen any p)
    → record { heard = None; server = server; changes = changes; sent = frame } ≡ (tick_turn m seen any p).reaction
unfolding tick_turn
reacts m s c p seen any server changes passed inst frame stands comes server_is changes_is passed_is inst_is frame_is =
    let v = view m (ticked ∷ p) in
    let a : server ≡ new_server (view m p) v = server_is ∙ ap (λ (o : Option Mi). cond (same_option same_mi o c.server) None (Some c.server)) (stands.server ∙ sym (view-server m p)) ∙ ap (λ (o : Option Mi). cond (same_option same_mi (view m p).server o) None (Some o)) comes.server in
    let b : changes ≡ ended (view m p).keys v.server ++ ((beginning v.keys (led m v)).changes ++ install_changes v.keys (roster_at m p) (made m v seen any)) =
    changes_is ∙ ap (λ (xs : List Change). xs ++ inst) passed_is
    ∙ append_assoc (ended (view m p).keys v.server) (beginning v.keys (led m v)).changes inst ∙ ap (λ (xs : List Change). ended (view m p).keys v.server ++ ((beginning v.keys (led m v)).changes ++ xs)) inst_is in
    rw (a, b, frame_is) refl

-- ---- what stands then

now-since : (n : ℕ) → 0 ≡ ticks_since n n
now-since n = omega arith

spoken-none : (m : Member) (p q : List Entry) (last : Option (List Entry)) → ((then : List Entry) → last ≡ Some then → clock (peers_of m then) ≤ clock (peers_of m p)) → clock (peers_of m q) ≡ clock (peers_of m p) + 1
    → spoken_later (option_map (spoken_at m p) last) ≡ option_map (spoken_at m q) last
spoken-none m p q None before now = refl
spoken-none m p q (Some then) before now =
    let e : one_later (ticks_since (clock (peers_of m p)) (clock (peers_of m then))) ≡ ticks_since (clock (peers_of m q)) (clock (peers_of m then)) =
    since-later (clock (peers_of m p)) (clock (peers_of m then)) (before then refl) ∙ ap (λ (n : ℕ). ticks_since n (clock (peers_of m then))) (sym now) in
    ap (λ (n : ℕ). Some (record { shown = shown (view m then); since = n })) e

-- what is kept of what was said last
pub spoken-is : (m : Member) (p q : List Entry) (before : Option Spoken) (said : Option Announcement)
    → before ≡ option_map (spoken_at m p) (last_spoken p) → last_spoken q ≡ last_spoken p → peers_of m q ≡ peers_ticked ∷ peers_of m p
    → spoken_after before (option_map (λ a. shown (view m q)) said) ≡ option_map (spoken_at m (with_sent said q)) (last_spoken (with_sent said q))
spoken-is m p q before None kept same peers =
    ap spoken_later kept ∙ spoken-none m p q (last_spoken p) (spoken-before m p) (ap clock peers) ∙ ap (option_map (spoken_at m q)) (sym same)
spoken-is m p q before (Some a) kept same peers =
    let e : clock (peers_of m (sent a ∷ q)) ≡ clock (peers_of m q) = ap clock (peers-said m (Some a) q) in
    let z : 0 ≡ ticks_since (clock (peers_of m (sent a ∷ q))) (clock (peers_of m q)) = now-since (clock (peers_of m q)) ∙ ap (λ (n : ℕ). ticks_since n (clock (peers_of m q))) (sym e) in
    ap (λ (n : ℕ). Some (record { shown = shown (view m q); since = n })) z

-- the history of the peer lists, with what is sent
pub sent-peers : (m : Member) (seen : Seen) (any : Secret) (p : List Entry) (b : Bool) → b ≡ is_some (says_at m seen any p)
    → cond b (peers_sent (last_sent (peers_of m p) + 1) ∷ peers_ticked ∷ peers_of m p) (peers_ticked ∷ peers_of m p) ≡ peers_of m (with_sent (says_at m seen any p) (ticked_past m seen any p))
sent-peers m seen any p b is =
    let h = peers_ticked ∷ peers_of m p in
    let q = ticked_past m seen any p in
    let now : peers_of m q ≡ h = past-peers m seen any p in
    let number : last_sent (view m q).peers ≡ last_sent (peers_of m p) = ap last_sent (view-peers m q ∙ now) in
    let whole : peers_of m (with_sent (says_at m seen any p) q) ≡ peers_with (says_at m seen any p) h = peers-said m (says_at m seen any p) q ∙ ap (peers_with (says_at m seen any p)) now in
    by_test (announces m (view m q) q)
    (λ e. let some : b ≡ true = is ∙ rw e refl in
    rw some (ap (λ (n : ℕ). peers_sent (n + 1) ∷ h) (sym number) ∙ sym (whole ∙ rw e refl)))
    (λ e. let none : b ≡ false = is ∙ rw e refl in rw none (sym (whole ∙ rw e refl)))

pub stands-ticked : (m : Member) (s t : State) (p : List Entry) (seen : Seen) (any : Secret) (installs : Bool) → StandsFor m s p
    → installs ≡ makes_next m p seen
    → t.setup ≡ s.setup → t.mi ≡ s.mi → t.epochs ≡ s.epochs + cond installs 1 0
    → PeersStandFor (own m) t.peers (peers_of m (with_sent (says_at m seen any p) (ticked_past m seen any p)))
    → KeysStandFor m.base m.mi false t.keys (keys_of m (ticked_past m seen any p))
    → t.server ≡ (view m (ticked ∷ p)).server
    → t.spoken ≡ spoken_after s.spoken (option_map (λ a. shown (view m (ticked_past m seen any p))) (says_at m seen any p))
    → StandsFor m t (tick_turn m seen any p).past
stands-ticked m s t p seen any installs stands installs_is setup mi epochs peers keys server spoken =
    let q = ticked_past m seen any p in
    let said = says_at m seen any p in
    let r = with_sent said q in
    let keys_are : keys_of m q ≡ keys_of m r = sym (keys-said m said q) in
    let some : installs ≡ is_some (made m (view m (ticked ∷ p)) seen any) = installs_is ∙ by_test (makes_next m p seen) (λ e. rw e refl) (λ e. rw e refl) in
    let count : install_count (keys_of m r) ≡ install_count (keys_of m p) + cond installs 1 0 =
    ap install_count (sym keys_are) ∙ past-count m seen any p ∙ ap (λ (b : Bool). install_count (keys_of m p) + cond b 1 0) (sym some) in
    let whole : StandsFor m t r = record {
      setup = setup ∙ stands.setup;
      mi = mi ∙ stands.mi;
      epochs = epochs ∙ omega (arith, count, stands.epochs);
      peers = peers;
      keys = subst (λ (h : List Keying). KeysStandFor m.base m.mi false t.keys h) keys_are keys;
      server = server ∙ ap (λ (v : View). v.server) (sym (past-view m seen any p)) ∙ view-server m q ∙ sym (elected-said m said q);
      spoken = spoken ∙ spoken-is m p q s.spoken said stands.spoken (past-spoken m seen any p) (past-peers m seen any p);
    } in
    subst (λ (x : List Entry). StandsFor m t x) (turn-past m seen any p) whole

-- ---- the whole past

pub whole-peers : (m : Member) (seen : Seen) (any : Secret) (p : List Entry) → peers_with (says_at m seen any p) (peers_ticked ∷ peers_of m p) ≡ peers_of m (with_sent (says_at m seen any p) (ticked_past m seen any p))
whole-peers m seen any p = ap (peers_with (says_at m seen any p)) (sym (past-peers m seen any p)) ∙ sym (peers-said m (says_at m seen any p) (ticked_past m seen any p))

pub whole-keys : (m : Member) (seen : Seen) (any : Secret) (p : List Entry) → keys_of m (ticked_past m seen any p) ≡ keys_of m (with_sent (says_at m seen any p) (ticked_past m seen any p))
whole-keys m seen any p = sym (keys-said m (says_at m seen any p) (ticked_past m seen any p))

pub some-framed : {A B : Type 0} (f : A → B) (o : Option A) (r : Option B) → r ≡ option_map f o → is_some r ≡ is_some o
some-framed f None r is = ap is_some is
some-framed f (Some a) r is = ap is_some is
