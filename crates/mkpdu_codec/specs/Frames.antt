-- Which frames spell which announcement (IEEE Std 802.1X, clause 11): a grammar of whole frames.
use Rattle.std.specs.Prelude.{◌≡◌, ◌≢◌, ◌≤◌, ◌<◌, ℕ, ◌+◌, ◌/◌, ◌%◌, ◌^◌, ◌==◌, ◌&&◌, if◌then◌else◌, Bool, ⊤, ◌⊎◌, List, [], ◌∷◌, ◌++◌, length, slice_index, Option, Some, None, IfSome, All, count_by}
use Rattle.std.specs.List.{find}
use Rattle.byteorder.specs.Endian.{big_bytes}
use Rattle.lan_base.specs.Ranges.{IsCkn}
use Rattle.mkpdu_codec.specs.declared.announcement.Announcement.{Announcement}
use Rattle.mkpdu_codec.specs.declared.given.Given.{Given}
use Rattle.mkpdu_codec.specs.declared.high_halves.HighHalves.{HighHalves}
use Rattle.mkpdu_codec.specs.declared.key_use.Uses.{Uses}
use Rattle.mkpdu_codec.specs.declared.peer.Peer.{Peer}
use Rattle.mkpdu_codec.specs.declared.wrapped_key.WrappedKey.{WrappedKey}
use Rattle.mkpdu_codec.specs.declared.wrapped_key.WrappedKey.TheVariants.{Aes128, Aes256, Xpn128, Xpn256, Other}
use Rattle.mkpdu_codec.specs.Sets.{live_peers, potential_peers, sak_use, distributed_sak, xpn_parameters, icv_indicator, check_length, bit, missing, header, basic_body, peers_body, uses_body, uses_flags, given_flags, given_body, gcm_aes_256, gcm_aes_xpn_128, gcm_aes_xpn_256, highs_body, IsPeer, IsKey, IsGiven, AreHighs}

-- ---- a parameter set

-- what a set says: its type, its second octet, the four flags of its third, and its body
pub record Set : Type 0 where
  pub kind : ℕ
  pub second : ℕ
  pub flags : ℕ
  pub body : List ℕ

-- the octets are a set: its header, its body, and some padding up to the next multiple of four
pub record IsSet (octets : List ℕ) (s : Set) : Type 0 where
  pub padding : List ℕ
  pub whole : octets ≡ header s.kind s.second s.flags (length s.body) ++ (s.body ++ padding)
  pub flags : s.flags < 16
  pub short : length s.body < 4096
  pub padded : length padding ≡ missing (length s.body)

-- the octets are these sets, one after the other
abbrev pub AreSets : List ℕ → List Set → Type 0
AreSets octets [] = octets ≡ []
AreSets octets (s ∷ ss) =
    (front : List ℕ) × ((rest : List ℕ) × ((octets ≡ front ++ rest) × IsSet front s
    × AreSets rest ss))

-- the header of an ICV Indicator, whose body is the check value
pub record IsIndicator (octets : List ℕ) : Type 0 where
  pub second : ℕ
  pub flags : ℕ
  pub whole : octets ≡ header icv_indicator second flags check_length

-- ---- a frame

-- the parts of a frame: the body ends before the check value, and behind it anything may stand
pub record Frame : Type 0 where
  pub destination : List ℕ
  pub source : List ℕ
  pub version : ℕ
  pub body : List ℕ
  pub check : List ℕ
  pub behind : List ℕ

-- what the check value covers: addresses, EtherType, version, packet type 5, length, and the body
abbrev pub covered_octets : Frame → List ℕ
covered_octets f =
    f.destination ++ (f.source ++ (0x88 ∷ 0x8e ∷ f.version ∷ 5
    ∷ (big_bytes 2 (length f.body + check_length) ++ f.body)))

abbrev pub octets_of : Frame → List ℕ
octets_of f = covered_octets f ++ (f.check ++ f.behind)

-- a frame goes to a group address, and its length fits two octets
pub record IsFrame (f : Frame) : Type 0 where
  pub destination : length f.destination ≡ 6
  pub group : slice_index f.destination 0 % 2 ≡ 1
  pub source : length f.source ≡ 6
  pub body : length f.body + check_length < 2 ^ 16
  pub check : length f.check ≡ check_length

-- a body is a Basic Parameter Set, further sets, and the header of an ICV Indicator or nothing;
-- none of the further sets is an ICV Indicator, and none of the four types before that comes twice
pub record IsBody (body : List ℕ) (basic : Set) (others : List Set) : Type 0 where
  pub front : List ℕ
  pub middle : List ℕ
  pub indicator : List ℕ
  pub whole : body ≡ front ++ (middle ++ indicator)
  pub is_basic : IsSet front basic
  pub are_others : AreSets middle others
  pub is_indicator : (indicator ≡ []) ⊎ IsIndicator indicator
  pub no_indicator : All (λ s. s.kind ≢ icv_indicator) others
  pub once : (k : ℕ) → live_peers ≤ k → k ≤ distributed_sak → count_by (λ s. s.kind == k) others ≤ 1

-- ---- what the sets say

-- the one set of a type, or an empty one where there is none
abbrev pub the : ℕ → List Set → Set
the k [] = record { kind = k; second = 0; flags = 0; body = [] }
the k (s ∷ ss) = if s.kind == k then s else the k ss

-- a Live or Potential Peer List
pub record SpellsPeers (s : Set) (ps : List Peer) : Type 0 where
  pub body : s.body ≡ peers_body ps
  pub are_peers : All IsPeer ps

-- MACsec SAK Use: an empty one says nothing
abbrev pub SpellsUses : Set → Option Uses → Type 0
SpellsUses s None = s.body ≡ []
SpellsUses s (Some u) =
    (s.second ≡ uses_flags u) × (s.body ≡ uses_body u) × IsKey u.latest × IsKey u.old

-- a wrapped key of so many octets, behind the identifier of its suite
abbrev pub IsOfSuite : List ℕ → ℕ → List ℕ → List ℕ → Type 0
IsOfSuite suite count key wrapped = (length wrapped ≡ count) × (key ≡ suite ++ wrapped)

-- the key behind the key number: one of 24 octets is for GCM-AES-128, and any other that isn't one
-- for GCM-AES-256 or with extended packet numbers is that of another suite
abbrev pub SpellsKey : List ℕ → WrappedKey → Type 0
SpellsKey key (Aes128 wrapped) = (length wrapped ≡ 24) × (key ≡ wrapped)
SpellsKey key (Aes256 wrapped) = IsOfSuite gcm_aes_256 40 key wrapped
SpellsKey key (Xpn128 wrapped) = IsOfSuite gcm_aes_xpn_128 24 key wrapped
SpellsKey key (Xpn256 wrapped) = IsOfSuite gcm_aes_xpn_256 40 key wrapped
SpellsKey key Other =
    (length key ≢ 24) × ((wrapped : List ℕ) → IsOfSuite gcm_aes_256 40 key wrapped → ⊥)
    × ((wrapped : List ℕ) → IsOfSuite gcm_aes_xpn_128 24 key wrapped → ⊥)
    × ((wrapped : List ℕ) → IsOfSuite gcm_aes_xpn_256 40 key wrapped → ⊥)

-- a Distributed SAK with its association number, offset and key number, and the key of its suite
pub record IsGiving (s : Set) (g : Given) : Type 0 where
  pub key : List ℕ
  pub second : s.second / 16 ≡ given_flags g.an g.offset
  pub number : g.number < 2 ^ 32
  pub body : s.body ≡ given_body g.number key
  pub spells : SpellsKey key g.key

-- Distributed SAK: an empty one says nothing
abbrev pub SpellsGiven : Set → Option Given → Type 0
SpellsGiven s None = s.body ≡ []
SpellsGiven s (Some g) = IsGiving s g

-- the XPN parameter set has two high halves; one of another length says nothing
abbrev pub has_highs : Set → Bool
has_highs s = (s.kind == xpn_parameters) && (length s.body == 8)

-- the first XPN parameter set that has them
abbrev pub SpellsHighs : Option Set → Option HighHalves → Type 0
SpellsHighs None None = ⊤
SpellsHighs None (Some h) = ⊥
SpellsHighs (Some s) None = ⊥
SpellsHighs (Some s) (Some h) = (s.body ≡ highs_body h) × AreHighs h

-- the Basic Parameter Set: its second octet is the priority, and its highest flag is that of the
-- key server
pub record SpellsBasic (s : Set) (a : Announcement) : Type 0 where
  pub priority : s.second ≡ a.priority
  pub server : s.flags / 8 ≡ bit a.server
  pub body : s.body ≡ basic_body a.sci.0 a.mi.0 a.mn a.ckn
  pub sci : length a.sci.0 ≡ 8
  pub mi : length a.mi.0 ≡ 12
  pub mn : a.mn < 2 ^ 32
  pub named : IsCkn a.ckn

-- a frame spells an announcement, with this many octets covered by this check value
pub record Spells (frame : List ℕ) (a : Announcement) (covered : ℕ) (check : List ℕ) : Type 0 where
  pub parts : Frame
  pub basic : Set
  pub others : List Set
  pub whole : frame ≡ octets_of parts
  pub is_frame : IsFrame parts
  pub is_body : IsBody parts.body basic others
  pub covers : covered ≡ length (covered_octets parts)
  pub checked : check ≡ parts.check
  pub source : a.source.0 ≡ parts.source
  pub says : SpellsBasic basic a
  pub live : SpellsPeers (the live_peers others) a.live
  pub potential : SpellsPeers (the potential_peers others) a.potential
  pub uses : SpellsUses (the sak_use others) a.uses
  pub given : SpellsGiven (the distributed_sak others) a.given
  pub highs : SpellsHighs (find has_highs others) a.highs

-- the values of an announcement are in the ranges of their types
pub record IsOfItsTypes (a : Announcement) : Type 0 where
  pub sci : length a.sci.0 ≡ 8
  pub mi : length a.mi.0 ≡ 12
  pub mn : a.mn < 2 ^ 32
  pub live : All IsPeer a.live
  pub potential : All IsPeer a.potential
  pub uses : IfSome a.uses (λ u. IsKey u.latest × IsKey u.old)
  pub given : IfSome a.given IsGiven
  pub highs : IfSome a.highs AreHighs
