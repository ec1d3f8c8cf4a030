-- Announcements with their fields in their types: what octets spell, and the octets that are
-- written.
use Rattle.std.proofs.Common.{◌≡◌, ◌<◌, ◌≤◌, ◌+◌, ◌-◌, ◌*◌, ◌/◌, ◌%◌, ◌^◌, ℕ, zero, suc, Bool, true, false, cond, not, ◌&&◌, ◌||◌, List, [], ◌∷◌, ◌++◌}
use Rattle.std.proofs.Common.{length, drop, replicate, Option, Some, None, refl, subst, arith, ◌==◌}
use Rattle.std.specs.Prelude.{All}
use Rattle.std.specs.List.{list_any}
use Rattle.std.proofs.lemmas.List.{length-append}
use Rattle.std.proofs.lemmas.List.Elements.{All-nil, All-cons, All-head, All-tail, All-append, All-take, All-drop, All-replicate}
use Rattle.byteorder.specs.Endian.{big_bytes}
use Rattle.aes_block.proofs.Public.{All-from_AreOctets}
use Rattle.byteorder.specs.Numbers.{length-bytes_high_first}
use Rattle.gcm_core.proofs.Public.{IsOctet, All-bytes}
use Rattle.gcm_frames.specs.Protected.{IsSci}
use Rattle.lan_base.specs.declared.association_number.AssociationNumber.{AssociationNumber}
use Rattle.lan_base.specs.declared.association_number.AssociationNumber.TheVariants.{An0, An1, An2, An3}
use Rattle.lan_base.specs.AssociationNumbers.{number_of as number_of_an}
use Rattle.lan_base.specs.Ranges.{IsCkn}
use Rattle.mkpdu_codec.specs.declared.announcement.Announcement.{Announcement}
use Rattle.mkpdu_codec.specs.declared.given.Given.{Given}
use Rattle.mkpdu_codec.specs.declared.wrapped_key.WrappedKey.{WrappedKey}
use Rattle.mkpdu_codec.specs.declared.wrapped_key.WrappedKey.TheVariants.{Aes128, Aes256, Xpn128, Xpn256, Other}
use Rattle.mkpdu_codec.specs.declared.key_use.KeyUse.{KeyUse}
use Rattle.mkpdu_codec.specs.declared.key_use.Uses.{Uses}
use Rattle.mkpdu_codec.specs.declared.offset.ConfidentialityOffset.{ConfidentialityOffset}
use Rattle.mkpdu_codec.specs.declared.offset.ConfidentialityOffset.TheVariants as offsets
use Rattle.mkpdu_codec.specs.declared.peer.Peer.{Peer}
use Rattle.mkpdu_codec.specs.declared.refusal.Refusal.{Refusal}
use Rattle.mkpdu_codec.specs.declared.refusal.Refusal.TheVariants.{NotMka, Short, Shape, Repeated, Agility}
use Rattle.mkpdu_codec.specs.Frames.{Frame, Set, Spells, covered_octets, SpellsGiven}
use Rattle.mkpdu_codec.specs.Offsets.{offset_bits}
use Rattle.mkpdu_codec.specs.Refusals.{refused, refused_sets, or_else, is_mka, is_long_enough, is_basic, is_known, is_indicator, is_whole, is_length_of, is_single, front_kind, front_length, front_size, sets_of, others_of, check_place, body_length}
use Rattle.mkpdu_codec.specs.Sets.{header, set, missing, bit, basic_body, agility, peer, peers_body, use_body, uses_body, use_flags, uses_flags, given_flags, given_body, gcm_aes_256, gcm_aes_xpn_128, gcm_aes_xpn_256, check_length, distributed_sak, sak_use}
use Rattle.mkpdu_codec.specs.Written.{written, sets, frame_header, group_address, basic_set, peers_set, uses_set, giving_set, key_set, given_set, most_listed}
use Rattle.lan_core.specs.TypedFacts.{IsTypedRefusal}
use Rattle.lan_core.specs.Types.{AreOctets, IsMi}
use Rattle.group_safety.proofs.typed.OctetsMade.{left, right, anywhere, number-2}

-- ---- what is heard

-- the fields of an announcement that facts tell of
pub record IsHeard (a : Announcement) : Type 0 where
  pub mi : IsMi a.mi
  pub mn : a.mn < 2 ^ 32
  pub given : (g : Given) → a.given ≡ Some g → g.number < 2 ^ 32

body-octets : (f : Frame) (frame : List ℕ) → AreOctets (covered_octets f) → AreOctets f.body
body-octets f frame all =
    let behind = 0x88 ∷ 0x8e ∷ f.version ∷ 5 ∷ (big_bytes 2 (length f.body + check_length) ++ f.body) in
    let second = right f.destination (f.source ++ behind) all in
    let third = right f.source behind second in
    right (big_bytes 2 (length f.body + check_length)) f.body
    (right (0x88 ∷ 0x8e ∷ f.version ∷ 5 ∷ []) (big_bytes 2 (length f.body + check_length) ++ f.body) third)

some-is : {a b : Given} → Some a ≡ Some b → a ≡ b
some-is e = cc e

given-number : (s : Set) (o : Option Given) → SpellsGiven s o
    → (g : Given) → o ≡ Some g → g.number < 2 ^ 32
given-number s None spells g is = absurd (cc is)
given-number s (Some x) spells g is =
    subst (λ (g : Given). g.number < 2 ^ 32) (some-is is) spells.number

-- octets that spell an announcement give one in its types
pub spelled-typed : (frame : List ℕ) (a : Announcement) (covered : ℕ) (check : List ℕ)
    → AreOctets frame → Spells frame a covered check → IsHeard a
spelled-typed frame a covered check all spells =
    let f = spells.parts in
    let whole = subst AreOctets spells.whole all in
    let first = left (covered_octets f) (f.check ++ f.behind) whole in
    let body = subst AreOctets spells.is_body.whole (body-octets f frame first) in
    let front = left spells.is_body.front (spells.is_body.middle ++ spells.is_body.indicator) body in
    let b = spells.basic in
    let is = spells.is_body.is_basic in
    let set = subst AreOctets is.whole front in
    let inner = right (header b.kind b.second b.flags (length b.body)) (b.body ++ is.padding) set in
    let says = subst AreOctets spells.says.body (left b.body is.padding inner) in
    let behind = right a.sci.0 (a.mi.0 ++ (big_bytes 4 a.mn ++ (agility ++ a.ckn))) says in
    record {
      mi = (spells.says.mi, left a.mi.0 (big_bytes 4 a.mn ++ (agility ++ a.ckn)) behind);
      mn = spells.says.mn;
      given = given-number _ a.given spells.given;
    }

-- ---- what is refused

IfRefused : Option Refusal → Type 0
IfRefused None = Unit {0}
IfRefused (Some e) = IsTypedRefusal e

sets-refused : (n end : ℕ) (met octets : List ℕ) → end < 2 ^ 64 → AreOctets octets
    → IfRefused (refused_sets n end met octets)
unfolding refused_sets IfRefused
sets-refused zero end met octets small all = tt
sets-refused (suc n) end met octets small all =
    go ((length octets == 0) || is_indicator octets)
    (not (is_whole octets && is_length_of (front_kind octets) (front_length octets)))
    (is_single (front_kind octets) && list_any (λ kind. kind == front_kind octets) met)
    (sets-refused n end (front_kind octets ∷ met) (drop (front_size octets) octets) small
    (All-drop IsOctet (front_size octets) octets all))
  where
    go : (a b c : Bool)
        → IfRefused (refused_sets n end (front_kind octets ∷ met) (drop (front_size octets) octets))
        → IfRefused (cond a None (cond b (Some (Shape (end - length octets)))
        (cond c (Some (Repeated (front_kind octets)))
        (refused_sets n end (front_kind octets ∷ met) (drop (front_size octets) octets)))))
    go true b c later = tt
    go false true c later = omega (arith, small)
    go false false true later = anywhere octets all 0
    go false false false later = later

or-refused : (a b : Option Refusal) → IfRefused a → IfRefused b → IfRefused (or_else a b)
unfolding IfRefused
or-refused None b is too = too
or-refused (Some e) b is too = is

frame-refused : (frame : List ℕ) → AreOctets frame → IfRefused (refused frame)
unfolding refused IfRefused
frame-refused frame all =
    go (not (is_mka frame)) (not (is_long_enough frame)) (not (is_basic (sets_of frame)))
  where
    small : check_place frame < 2 ^ 64
    small = let less = number-2 (drop 16 frame) (All-drop IsOctet 16 frame all) in omega (arith, less)

    others : AreOctets (others_of frame)
    others = All-drop IsOctet (front_size (sets_of frame)) (sets_of frame)
        (All-take IsOctet (body_length frame - check_length) (drop 18 frame) (All-drop IsOctet 18 frame all))

    last : (b : Bool) → IfRefused (cond b None (Some Agility))
    last true = tt
    last false = tt

    go : (a b c : Bool)
        → IfRefused (cond a (Some NotMka) (cond b (Some Short) (cond c (Some (Shape 18))
        (or_else (refused_sets (length (others_of frame)) (check_place frame) [] (others_of frame))
        (cond (is_known (drop 28 (sets_of frame))) None (Some Agility))))))
    go true b c = tt
    go false true c = tt
    go false false true = omega arith
    go false false false =
        or-refused (refused_sets (length (others_of frame)) (check_place frame) [] (others_of frame))
        (cond (is_known (drop 28 (sets_of frame))) None (Some Agility))
        (sets-refused (length (others_of frame)) (check_place frame) [] (others_of frame) small others)
        (last (is_known (drop 28 (sets_of frame))))

pub refusal-typed : (frame : List ℕ) (e : Refusal) → AreOctets frame → refused frame ≡ Some e
    → IsTypedRefusal e
unfolding IfRefused
refusal-typed frame e all is = subst IfRefused is (frame-refused frame all)

-- ---- what is written

set-octets : (kind second flags : ℕ) (body : List ℕ) → kind < 256 → second < 256 → flags < 16
    → length body < 4096 → AreOctets body → AreOctets (set kind second flags body)
set-octets kind second flags body a b c few all =
    let n = length body in
    let third : flags * 16 + n / 256 < 256 = omega (arith, c, few) in
    let padding : List ℕ = replicate (missing n) 0 in
    let first : AreOctets (header kind second flags n) =
    All-cons IsOctet kind (second ∷ (flags * 16 + n / 256) ∷ (n % 256) ∷ []) a
    (All-cons IsOctet second ((flags * 16 + n / 256) ∷ (n % 256) ∷ []) b
    (All-cons IsOctet (flags * 16 + n / 256) ((n % 256) ∷ []) third
    (All-cons IsOctet (n % 256) [] (omega arith) (All-nil IsOctet)))) in
    All-append IsOctet (header kind second flags n) (body ++ padding) first
    (All-append IsOctet body padding all (All-replicate IsOctet (missing n) 0 (omega arith)))

-- what is said of a key
pub record IsUse (u : KeyUse) : Type 0 where
  pub server : IsMi u.server

use-octets : (u : KeyUse) → IsUse u → AreOctets (use_body u)
use-octets u is =
    All-append IsOctet u.server.0 (big_bytes 4 u.number ++ big_bytes 4 u.lowest) is.server.1
    (All-append IsOctet (big_bytes 4 u.number) (big_bytes 4 u.lowest) (All-bytes 4 u.number)
    (All-bytes 4 u.lowest))

use-length : (u : KeyUse) → IsUse u → length (use_body u) ≡ 20
use-length u is =
    let a = length-append u.server.0 (big_bytes 4 u.number ++ big_bytes 4 u.lowest) in
    let b = length-append (big_bytes 4 u.number) (big_bytes 4 u.lowest) in
    let c = length-bytes_high_first 4 u.number in
    let d = length-bytes_high_first 4 u.lowest in
    omega (arith, a, b, c, d, is.server.0)

an-small : (an : AssociationNumber) → number_of_an an < 4
an-small An0 = omega arith
an-small An1 = omega arith
an-small An2 = omega arith
an-small An3 = omega arith

bit-small : (b : Bool) → bit b < 2
bit-small true = omega arith
bit-small false = omega arith

flags-small : (u : KeyUse) → use_flags u < 16
flags-small u = omega (arith, an-small u.an, bit-small u.tx, bit-small u.rx)

uses-octets : (u : Uses) → IsUse u.latest → IsUse u.old → AreOctets (uses_set (Some u))
uses-octets u latest old =
    let a = flags-small u.latest in
    let b = flags-small u.old in
    let m = use-length u.latest latest in
    let n = use-length u.old old in
    set-octets sak_use (uses_flags u) 0 (uses_body u) (omega arith) (omega (arith, a, b))
    (omega arith) (omega (arith, length-append (use_body u.latest) (use_body u.old), m, n))
    (All-append IsOctet (use_body u.latest) (use_body u.old) (use-octets u.latest latest)
    (use-octets u.old old))

-- a peer list of members
peer-octets : (p : Peer) → IsMi p.mi → AreOctets (peer p)
peer-octets p is = All-append IsOctet p.mi.0 (big_bytes 4 p.mn) is.1 (All-bytes 4 p.mn)

peers-octets : (ps : List Peer) → All (λ (p : Peer). IsMi p.mi) ps → AreOctets (peers_body ps)
peers-octets [] all = All-nil IsOctet
peers-octets (p ∷ ps) all =
    All-append IsOctet (peer p) (peers_body ps)
    (peer-octets p (All-head (λ (p : Peer). IsMi p.mi) p ps all))
    (peers-octets ps (All-tail (λ (p : Peer). IsMi p.mi) p ps all))

peers-length : (ps : List Peer) → All (λ (p : Peer). IsMi p.mi) ps
    → length (peers_body ps) ≡ 16 * length ps
peers-length [] all = refl
peers-length (p ∷ ps) all =
    let is = All-head (λ (p : Peer). IsMi p.mi) p ps all in
    let later = peers-length ps (All-tail (λ (p : Peer). IsMi p.mi) p ps all) in
    let a = length-append (peer p) (peers_body ps) in
    let b = length-append p.mi.0 (big_bytes 4 p.mn) in
    let c = length-bytes_high_first 4 p.mn in
    omega (arith, a, b, c, is.0, later)

list-octets : (kind : ℕ) (ps : List Peer) → kind < 256 → length ps ≤ most_listed
    → All (λ (p : Peer). IsMi p.mi) ps → AreOctets (peers_set kind ps)
list-octets kind [] small few all = All-nil IsOctet
list-octets kind (p ∷ ps) small few all =
    set-octets kind 0 0 (peers_body (p ∷ ps)) small (omega arith) (omega arith)
    (let n = peers-length (p ∷ ps) all in omega (arith, n, few)) (peers-octets (p ∷ ps) all)

-- a wrapped key of octets
abbrev pub IsWrap : WrappedKey → Type 0
IsWrap (Aes128 wrapped) = (length wrapped ≡ 24) × AreOctets wrapped
IsWrap (Aes256 wrapped) = (length wrapped ≡ 40) × AreOctets wrapped
IsWrap (Xpn128 wrapped) = (length wrapped ≡ 24) × AreOctets wrapped
IsWrap (Xpn256 wrapped) = (length wrapped ≡ 40) × AreOctets wrapped
IsWrap Other = Unit {0}

offset-small : (o : ConfidentialityOffset) → offset_bits o < 4
offset-small offsets.None = omega arith
offset-small offsets.Octets0 = omega arith
offset-small offsets.Octets30 = omega arith
offset-small offsets.Octets50 = omega arith

giving-octets : (g : Given) (key : List ℕ) → length key ≤ 48 → AreOctets key
    → AreOctets (giving_set g key)
giving-octets g key few all =
    let a = an-small g.an in
    let b = offset-small g.offset in
    let c = length-bytes_high_first 4 g.number in
    set-octets distributed_sak (given_flags g.an g.offset * 16) 0 (given_body g.number key) (omega arith)
    (omega (arith, a, b)) (omega arith) (omega (arith, length-append (big_bytes 4 g.number) key, c, few))
    (All-append IsOctet (big_bytes 4 g.number) key (All-bytes 4 g.number) all)

suite-octets : AreOctets gcm_aes_256
suite-octets = All-from_AreOctets gcm_aes_256 (search arith)

xpn-128-octets : AreOctets gcm_aes_xpn_128
xpn-128-octets = All-from_AreOctets gcm_aes_xpn_128 (search arith)

xpn-256-octets : AreOctets gcm_aes_xpn_256
xpn-256-octets = All-from_AreOctets gcm_aes_xpn_256 (search arith)

key-octets : (g : Given) (w : WrappedKey) → IsWrap w → AreOctets (key_set g w)
key-octets g (Aes128 wrapped) is = giving-octets g wrapped (omega (arith, is.0)) is.1
key-octets g (Aes256 wrapped) is =
    giving-octets g (gcm_aes_256 ++ wrapped)
    (omega (arith, length-append gcm_aes_256 wrapped, is.0))
    (All-append IsOctet gcm_aes_256 wrapped suite-octets is.1)
key-octets g (Xpn128 wrapped) is =
    giving-octets g (gcm_aes_xpn_128 ++ wrapped)
    (omega (arith, length-append gcm_aes_xpn_128 wrapped, is.0))
    (All-append IsOctet gcm_aes_xpn_128 wrapped xpn-128-octets is.1)
key-octets g (Xpn256 wrapped) is =
    giving-octets g (gcm_aes_xpn_256 ++ wrapped)
    (omega (arith, length-append gcm_aes_xpn_256 wrapped, is.0))
    (All-append IsOctet gcm_aes_xpn_256 wrapped xpn-256-octets is.1)
key-octets g Other is = All-nil IsOctet

-- what is said in its types
pub record IsSaid (a : Announcement) : Type 0 where
  pub source : AreOctets a.source.0
  pub priority : a.priority < 256
  pub sci : IsSci a.sci
  pub mi : IsMi a.mi
  pub named : IsCkn a.ckn
  pub ckn : AreOctets a.ckn
  pub live : All (λ (p : Peer). IsMi p.mi) a.live
  pub live_few : length a.live ≤ most_listed
  pub potential : All (λ (p : Peer). IsMi p.mi) a.potential
  pub potential_few : length a.potential ≤ most_listed
  pub uses : (u : Uses) → a.uses ≡ Some u → IsUse u.latest × IsUse u.old
  pub given : (g : Given) → a.given ≡ Some g → IsWrap g.key

basic-octets : (a : Announcement) → IsSaid a → AreOctets (basic_set a)
basic-octets a is =
    let behind = agility ++ a.ckn in
    let four = big_bytes 4 a.mn in
    let c = length-bytes_high_first 4 a.mn in
    let few : length (basic_body a.sci.0 a.mi.0 a.mn a.ckn) < 4096 = omega (
      arith,
      length-append a.sci.0 (a.mi.0 ++ (four ++ behind)),
      length-append a.mi.0 (four ++ behind),
      length-append four behind,
      length-append agility a.ckn,
      c,
      is.sci.count,
      is.mi.0,
      is.named.1,
    ) in
    let one = bit-small a.server in
    set-octets 1 a.priority (bit a.server * 8 + 6) (basic_body a.sci.0 a.mi.0 a.mn a.ckn)
    (omega arith) is.priority (omega (arith, one)) few
    (All-append IsOctet a.sci.0 (a.mi.0 ++ (four ++ behind)) is.sci.octets
    (All-append IsOctet a.mi.0 (four ++ behind) is.mi.1
    (All-append IsOctet four behind (All-bytes 4 a.mn)
    (All-append IsOctet agility a.ckn
    (All-from_AreOctets agility (search arith)) is.ckn))))

if-used : (o : Option Uses) → ((u : Uses) → o ≡ Some u → IsUse u.latest × IsUse u.old)
    → AreOctets (uses_set o)
if-used None is = All-nil IsOctet
if-used (Some u) is = let both = is u refl in uses-octets u both.0 both.1

if-given : (o : Option Given) → ((g : Given) → o ≡ Some g → IsWrap g.key) → AreOctets (given_set o)
if-given None is = All-nil IsOctet
if-given (Some g) is = key-octets g g.key (is g refl)

sets-octets : (a : Announcement) → IsSaid a → AreOctets (sets a)
sets-octets a is =
    All-append IsOctet (basic_set a) _ (basic-octets a is)
    (All-append IsOctet (peers_set 1 a.live) _
    (list-octets 1 a.live (omega arith) is.live_few is.live)
    (All-append IsOctet (peers_set 2 a.potential) _
    (list-octets 2 a.potential (omega arith) is.potential_few is.potential)
    (All-append IsOctet (uses_set a.uses) (given_set a.given) (if-used a.uses is.uses)
    (if-given a.given is.given))))

header-octets : (source : List ℕ) (n : ℕ) → AreOctets source → AreOctets (frame_header source n)
header-octets source n all =
    All-append IsOctet group_address (source ++ (0x88 ∷ 0x8e ∷ 3 ∷ 5 ∷ big_bytes 2 n))
    (All-from_AreOctets group_address (search arith))
    (All-append IsOctet source (0x88 ∷ 0x8e ∷ 3 ∷ 5 ∷ big_bytes 2 n) all
    (All-append IsOctet (0x88 ∷ 0x8e ∷ 3 ∷ 5 ∷ []) (big_bytes 2 n)
    (All-from_AreOctets (0x88 ∷ 0x8e ∷ 3 ∷ 5 ∷ []) (search arith))
    (All-bytes 2 n)))

pub written-octets : (a : Announcement) → IsSaid a → AreOctets (written a)
written-octets a is =
    All-append IsOctet (frame_header a.source.0 (length (sets a) + check_length)) (sets a)
    (header-octets a.source.0 (length (sets a) + check_length) is.source) (sets-octets a is)
