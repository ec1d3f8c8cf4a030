-- What is elected after a turn, what is said of keys, and what a history leaves room for.
use Rattle.std.proofs.Common.{◌≡◌, ◌∙◌, ◌<◌, ◌+◌, ◌||◌, ◌↔◌, ◌==◌, ℕ, true, false, List, ◌∷◌, Option, Some, None, is_some, ap, sym, refl, arith}
use Rattle.std.proofs.lemmas.Bool.{and_parts, eqb-true, eq-eqb}
use Rattle.lan_base.specs.declared.address.Mi.{Mi}
use Rattle.lan_base.specs.declared.key_id.KeyId.{KeyId}
use Rattle.lan_base.specs.Identifiers.{same_mi}
use Rattle.peer_lists.proofs.Public.{same_mi-equal, same_mi-itself}
use Rattle.aes_block.specs.declared.secret.Secret.{Secret}
use Rattle.mkpdu_codec.specs.declared.announcement.Announcement.{Announcement}
use Rattle.peer_lists.specs.Histories.{last_sent}
use Rattle.sak_exchange.specs.declared.due.Seen.{Seen}
use Rattle.sak_exchange.specs.declared.held_key.Key.{Key}
use Rattle.sak_exchange.specs.Histories.{Keying, install_count}
use Rattle.sak_exchange.specs.Held.{latest, old}
use Rattle.sak_exchange.proofs.Public.{by_test}
use Rattle.mka_station.specs.Lives.{Member, Entry, ticked, heard, elected, keys_of, peers_of}
use Rattle.mka_station.specs.Announcing.{id_of, same_key, use_of, uses_of}
use Rattle.mka_station.specs.Tick.{tick_turn}
use Rattle.mka_station.specs.Hearing.{hear_turn}
use Rattle.mka_station.specs.Standing.{State, StandsFor, HasRoom}
use Rattle.mka_station.specs.Tick.{ticked_past, says_at}
use Rattle.mka_station.specs.Hearing.{heard_past}
use Rattle.mka_station.proofs.Pasts.{elected-same, elected-said, peers-ticked}
use Rattle.mka_station.proofs.Ticks.{turn-past, past-peers}
use Rattle.mka_station.proofs.Hears.{hear-past, heard-peers}

pub elected-ticked : (m : Member) (seen : Seen) (any : Secret) (p : List Entry) → elected m (tick_turn m seen any p).past ≡ elected m (ticked ∷ p)
elected-ticked m seen any p =
    ap (elected m) (sym (turn-past m seen any p)) ∙ elected-said m (says_at m seen any p) (ticked_past m seen any p)
    ∙ elected-same m (ticked ∷ p) (ticked_past m seen any p) (past-peers m seen any p ∙ sym (peers-ticked m p))

pub elected-heard : (m : Member) (a : Announcement) (p : List Entry) → elected m (hear_turn m a p).past ≡ elected m (heard a ∷ p)
elected-heard m a p = ap (elected m) (sym (hear-past m a p)) ∙ elected-same m (heard a ∷ p) (heard_past m a p) (heard-peers m a p)

pub uses-there : (lowest : Key → ℕ) (h : List Keying) → is_some (uses_of lowest h) ≡ (is_some (latest h) || is_some (old h))
uses-there lowest h = by_test (is_some (latest h) || is_some (old h)) (λ e. rw e refl) (λ e. rw e refl)

pub use-received : (sending k : Option Key) (lowest : Key → ℕ) → (use_of sending lowest k).rx ≡ is_some k
use-received sending None lowest = refl
use-received sending (Some k) lowest = refl

same_key-equal : (i j : KeyId) → same_key i j ≡ true → i ≡ j
same_key-equal i j is =
    let both = and_parts (same_mi i.server j.server) (i.number == j.number) is in
    let of : Mi → ℕ → KeyId = λ server number. record { server = server; number = number } in
    ap (λ (s : Mi). of s i.number) (same_mi-equal i.server j.server both.0) ∙ ap (of j.server) (eqb-true i.number j.number both.1)

same_key-itself : (i : KeyId) → same_key i i ≡ true
same_key-itself i = rw (same_mi-itself i.server, eq-eqb i.number i.number refl) refl

pub tx-held : (sending : Option Key) (lowest : Key → ℕ) (k : Key) → (use_of sending lowest (Some k)).tx ≡ true ↔ (id_of sending ≡ Some k.id)
tx-held None lowest k = (λ t. absurd (cc (t)), λ e. absurd (cc (e)))
tx-held (Some s) lowest k = (
  λ t. ap Some (same_key-equal s.id k.id t),
  λ e. let i : s.id ≡ k.id = cc (e) in ap (λ (x : KeyId). same_key x k.id) i ∙ same_key-itself k.id,
)

pub tx-none : (sending : Option Key) (lowest : Key → ℕ) → (use_of sending lowest None).tx ≡ false
tx-none sending lowest = refl

pub has-room : (m : Member) (s : State) (p : List Entry) → StandsFor m s p → (m.base + install_count (keys_of m p)) + 1 < 4294967296 → last_sent (peers_of m p) + 1 < 4294967296 → HasRoom s
has-room m s p stands few sent =
    let keys = stands.keys.epochs in
    let last = stands.peers.last in
    record { installs = omega (arith, stands.epochs); keys = omega arith; sent = omega arith }
