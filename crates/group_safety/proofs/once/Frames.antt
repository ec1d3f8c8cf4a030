-- What a station sends spells what it says.
use Rattle.std.proofs.Common.{◌≡◌, ◌<◌, ◌≤◌, ◌+◌, ◌^◌, refl, sym, ap, ◌∙◌, subst, inl, inr, ℕ, List}
use Rattle.std.proofs.Common.{[], ◌∷◌, map, length, Bool, true, false, cond, ◌||◌, Option, Some}
use Rattle.std.proofs.Common.{None, is_some, arith}
use Rattle.std.specs.Prelude.{All, IfSome, filter_map}
use Rattle.std.proofs.lemmas.List.{length-map}
use Rattle.std.proofs.lemmas.List.Elements.{All-nil, All-cons}
use Rattle.lan_base.specs.declared.address.Mi.{Mi}
use Rattle.lan_base.specs.Ranges.{IsCkn}
use Rattle.aes_block.specs.declared.secret.Secret.{Secret}
use Rattle.aes_block.specs.declared.secret.Secret.TheVariants.{S128, S256}
use Rattle.aes_block.specs.Aes.{IsKey as IsCipherKey}
use Rattle.aes_cmac.specs.Cmac.{cmac}
use Rattle.mkpdu_codec.specs.declared.announcement.Announcement.{Announcement}
use Rattle.mkpdu_codec.specs.declared.given.Given.{Given}
use Rattle.mkpdu_codec.specs.declared.key_use.Uses.{Uses}
use Rattle.mkpdu_codec.specs.Sets.{IsPeer, IsKey, IsGiven, IsWrapped}
use Rattle.mkpdu_codec.specs.Frames.{Spells, IsOfItsTypes}
use Rattle.mkpdu_codec.specs.Written.{written, IsWritable, IsWritableKey}
use Rattle.mkpdu_codec.proofs.Public.{written_spells}
use Rattle.peer_lists.specs.Histories.{Peering, last_sent}
use Rattle.peer_lists.specs.Acceptance.{Accepted, accepted, most_peers}
use Rattle.peer_lists.specs.Peers.{says, hopes, known}
use Rattle.peer_lists.proofs.Public.{known-at-most}
use Rattle.sak_exchange.specs.declared.held_key.Key.{Key}
use Rattle.sak_exchange.specs.Histories.{Keying}
use Rattle.sak_exchange.specs.Held.{latest, old, transmitting}
use Rattle.mka_station.specs.Lives.{Member, Entry, own, peers_of, keys_of}
use Rattle.mka_station.specs.Views.{View, view}
use Rattle.mka_station.specs.Announcing.{peer_of, use_of, uses_of, given, given_as, wrapped_key, announcement}
use Rattle.mka_station.specs.Announcing.{frame_of}
use Rattle.lan_core.specs.Types.{IsSecret}
use Rattle.group_safety.proofs.Members.{In, in-from_map}
use Rattle.group_safety.proofs.once.Histories.{heard_of, view-keys, view-peers}
use Rattle.group_safety.proofs.once.LiveHeard.{live-accepted, potential-accepted, peer-heard}
use Rattle.group_safety.proofs.once.KeysSound.{AreKeys, IsKeyIn, installed-key, latest-installed}
use Rattle.group_safety.proofs.once.KeysSound.{old-installed}
use Rattle.group_safety.proofs.once.Rules.{given-is}
use Rattle.group_safety.proofs.once.Ciphers.{cmac-length, wrapped-length}

pub all-from_in : {X : Type 0} (P : X → Type 0) (xs : List X) → ((x : X) → In x xs → P x) → All P xs
all-from_in P [] each = All-nil P
all-from_in P (x ∷ xs) each = All-cons P x xs (each x (inl refl))
    (all-from_in P xs (λ y h. each y (inr h)))

-- what is known of an announcement that was heard
pub record IsRanged (a : Announcement) : Type 0 where
  pub mi : length a.mi.0 ≡ 12
  pub mn : a.mn < 2 ^ 32

-- what is known of a station when it speaks
pub record MaySpeak (m : Member) (p : List Entry) (lowest : Key → ℕ) : Type 0 where
  pub sci : length m.setup.sci.0 ≡ 8
  pub mi : length m.mi.0 ≡ 12
  pub ckn : IsCkn m.setup.ckn
  pub ick : IsCipherKey m.setup.ick
  pub kek : IsCipherKey m.setup.kek
  pub mn : last_sent (peers_of m p) + 1 < 2 ^ 32
  pub heard : (a : Announcement) → In a (heard_of p) → IsRanged a
  pub keys : AreKeys m.base (keys_of m p)
  pub low : (k : Key) → lowest k < 2 ^ 32

-- ---- the peer lists

peer-is : (m : Member) (p : List Entry) (w : Accepted)
    → ((a : Announcement) → In a (heard_of p) → IsRanged a)
    → In w (accepted (own m) (peers_of m p)) → IsPeer (peer_of m (view m p) w)
peer-is m p w ranged i =
    let h = peer-heard m p w i in
    let mi : length (peer_of m (view m p) w).mi.0 ≡ 12 = ap (λ (n : Mi). length n.0) h.same_mi
    ∙ (ranged h.by h.heard).mi in
    let less = (ranged h.of_number h.number_heard).mn in
    record { mi = mi; mn = subst (λ (n : ℕ). n < 2 ^ 32) (sym h.same_mn) less }

peers-are : (m : Member) (p : List Entry) (words : List Accepted)
    → ((a : Announcement) → In a (heard_of p) → IsRanged a)
    → ((w : Accepted) → In w words → In w (accepted (own m) (peers_of m p)))
    → All IsPeer (map (peer_of m (view m p)) words)
peers-are m p words ranged from =
    all-from_in IsPeer (map (peer_of m (view m p)) words) (λ q i.
    let r = in-from_map (peer_of m (view m p)) words q i in
    subst IsPeer (sym r.2) (peer-is m p r.0 ranged (from r.0 r.1)))

fewer : {X Y : Type 0} (f : X → Option Y) (xs : List X) → length (filter_map f xs) ≤ length xs
fewer f [] = omega arith
fewer {X} {Y} f (x ∷ xs) = go (f x) refl (fewer f xs)
  where
    go : (o : Option Y) → f x ≡ o → length (filter_map f xs) ≤ length xs
        → length (filter_map f (x ∷ xs)) ≤ length (x ∷ xs)
    go None e r = rw e (omega (arith, r))
    go (Some y) e r = rw e (omega (arith, r))

pub live-few : (m : Member) (p : List Entry) → length (view m p).live ≤ most_peers
unfolding view known
live-few m p =
    let h = peers_of m p in
    let a = fewer (says (own m) h) (known (own m) h) in
    let b = known-at-most (own m) h in
    omega (arith, a, b)

pub potential-few : (m : Member) (p : List Entry) → length (view m p).potential ≤ most_peers
unfolding view known
potential-few m p =
    let h = peers_of m p in
    let a = fewer (hopes (own m) h) (known (own m) h) in
    let b = known-at-most (own m) h in
    omega (arith, a, b)

-- ---- the SAK Use

use-is : (sending : Option Key) (lowest : Key → ℕ) (o : Option Key)
    → ((k : Key) → lowest k < 2 ^ 32)
    → ((k : Key) → o ≡ Some k → IsKeyIn k) → IsKey (use_of sending lowest o)
use-is sending lowest None low keys =
    record { server = refl; number = omega arith; lowest = omega arith }
use-is sending lowest (Some k) low keys =
    let t = keys k refl in record { server = t.server; number = t.number; lowest = low k }

abbrev AreUses : Uses → Type 0
AreUses u = IsKey u.latest × IsKey u.old

uses-are : (lowest : Key → ℕ) (h : List Keying) (base : ℕ) → ((k : Key) → lowest k < 2 ^ 32)
    → AreKeys base h
    → IfSome (uses_of lowest h) AreUses
uses-are lowest h base low keys = go (is_some (latest h) || is_some (old h))
  where
    both : AreUses
        (record {
          latest = use_of (transmitting h) lowest (latest h);
          old =
              use_of (transmitting h) lowest (old h);
        })
    both = (
      use-is (transmitting h) lowest (latest h) low
          (λ k e. installed-key base h k keys (latest-installed h k e)),
      use-is (transmitting h) lowest (old h) low
          (λ k e. installed-key base h k keys (old-installed h k e)),
    )

    go : (b : Bool)
        → IfSome (cond b
        (Some (record {
          latest = use_of (transmitting h) lowest (latest h);
          old =
              use_of (transmitting h) lowest (old h);
        })) None) AreUses
    go true = both
    go false = tt

if-some : {X : Type 0} (P Q : X → Type 0) (o : Option X) → ((x : X) → P x → Q x) → IfSome o P
    → IfSome o Q
if-some P Q None f h = tt
if-some P Q (Some x) f h = f x h

-- ---- the Distributed SAK

record IsGift (g : Given) : Type 0 where
  typed : IsGiven g
  writable : IsWritableKey g.key

wrap-is : (kek : List ℕ) (s : Secret) → IsCipherKey kek → IsSecret s
    → IsWrapped (wrapped_key kek s) × IsWritableKey (wrapped_key kek s)
wrap-is kek (S128 octets) is_key is =
    (wrapped-length kek octets 16 is_key (omega arith) is.0 is.1, tt)
wrap-is kek (S256 octets) is_key is =
    (wrapped-length kek octets 32 is_key (omega arith) is.0 is.1, tt)

gift-is : (kek : List ℕ) (k : Key) → IsCipherKey kek → IsKeyIn k → IsSecret k.sak
    → IsGift (given_as kek k)
gift-is kek k is_key t is =
    let w = wrap-is kek k.sak is_key is in
    record { typed = record { number = t.number; key = w.0 }; writable = w.1 }

given-typed : (m : Member) (v : View) → IsCipherKey m.setup.kek → AreKeys m.base v.keys
    → IfSome (given m v) IsGift
given-typed m v is_key keys = go (given m v) refl
  where
    go : (o : Option Given) → given m v ≡ o → IfSome o IsGift
    go None e = tt
    go (Some g) e =
        let t = given-is m v g e in
        let known = installed-key m.base v.keys t.key keys (latest-installed v.keys t.key t.last) in
        subst IsGift (sym t.same) (gift-is m.setup.kek t.key is_key known known.sak)

-- ---- the frame

pub frame-spells : (m : Member) (p : List Entry) (lowest : Key → ℕ) → MaySpeak m p lowest
    → let a = announcement m lowest (view m p) in
    Spells (frame_of m.setup a) a (length (written a)) (cmac m.setup.ick (written a))
frame-spells m p lowest s =
    written_spells a (cmac m.setup.ick (written a)) writable typed
    (cmac-length m.setup.ick (written a) s.ick)
  where
    v : View
    v = view m p

    a : Announcement
    a = announcement m lowest v

    keys : AreKeys m.base v.keys
    keys = subst (AreKeys m.base) (sym (view-keys m p)) s.keys

    uses : IfSome a.uses AreUses
    uses = uses-are lowest v.keys m.base s.low keys

    gift : IfSome a.given IsGift
    gift = given-typed m v s.kek keys

    writable : IsWritable a
    writable = record {
      source = refl;
      named = s.ckn;
      live = let l = length-map v.live (peer_of m v) in let few = live-few m p in
          omega (arith, l, few);
      potential = let l = length-map v.potential (peer_of m v) in let few = potential-few m p in
          omega (arith, l, few);
      given = if-some IsGift (λ g. IsWritableKey g.key) a.given (λ g h. h.writable) gift;
      highs = refl;
    }

    typed : IsOfItsTypes a
    typed = record {
      sci = s.sci;
      mi = s.mi;
      mn = next;
      live = peers-are m p v.live s.heard (live-accepted m p);
      potential = peers-are m p v.potential s.heard (potential-accepted m p);
      uses = uses;
      given = if-some IsGift IsGiven a.given (λ g h. h.typed) gift;
      highs = tt;
    }
      where
        next : last_sent v.peers + 1 < 2 ^ 32
        next = subst (λ (h : List Peering). last_sent h + 1 < 2 ^ 32) (sym (view-peers m p)) s.mn
