-- The parameter sets of an MKA frame (IEEE Std 802.1X, clause 11), as octets.
use Rattle.std.specs.Prelude.{⊤, ◌≡◌, ◌<◌, ◌^◌, ℕ, ◌+◌, ◌-◌, ◌*◌, ◌/◌, ◌%◌, Bool, true, false, List, [], ◌∷◌, ◌++◌, length, replicate}
use Rattle.std.specs.List.{flat_map}
use Rattle.byteorder.specs.Endian.{big_bytes}
use Rattle.lan_base.specs.declared.association_number.AssociationNumber.{AssociationNumber}
use Rattle.lan_base.specs.AssociationNumbers.{number_of}
use Rattle.mkpdu_codec.specs.declared.offset.ConfidentialityOffset.{ConfidentialityOffset}
use Rattle.mkpdu_codec.specs.declared.given.Given.{Given}
use Rattle.mkpdu_codec.specs.declared.high_halves.HighHalves.{HighHalves}
use Rattle.mkpdu_codec.specs.declared.peer.Peer.{Peer}
use Rattle.mkpdu_codec.specs.declared.key_use.KeyUse.{KeyUse}
use Rattle.mkpdu_codec.specs.declared.key_use.Uses.{Uses}
use Rattle.mkpdu_codec.specs.declared.wrapped_key.WrappedKey.{WrappedKey}
use Rattle.mkpdu_codec.specs.declared.wrapped_key.WrappedKey.TheVariants.{Aes128, Aes256, Xpn128, Xpn256, Other}
use Rattle.mkpdu_codec.specs.Offsets.{offset_bits}

-- the types of the sets behind the Basic Parameter Set
abbrev pub live_peers : ℕ
live_peers = 1

abbrev pub potential_peers : ℕ
potential_peers = 2

abbrev pub sak_use : ℕ
sak_use = 3

abbrev pub distributed_sak : ℕ
distributed_sak = 4

abbrev pub xpn_parameters : ℕ
xpn_parameters = 8

abbrev pub icv_indicator : ℕ
icv_indicator = 255

-- how many octets the check value (ICV) has
abbrev pub check_length : ℕ
check_length = 16

-- a flag as a bit
abbrev pub bit : Bool → ℕ
bit false = 0
bit true = 1

-- how many octets are missing from n up to the next multiple of four
abbrev pub missing : ℕ → ℕ
missing n = (4 - n % 4) % 4

-- how many octets a set has whose body has n
abbrev pub set_length : ℕ → ℕ
set_length n = 4 + n + missing n

-- a set's header: its first two octets, four flags with the high four bits of the length, and the
-- rest of the length
abbrev pub header : ℕ → ℕ → ℕ → ℕ → List ℕ
header kind second flags n = kind ∷ second ∷ (flags * 16 + n / 256) ∷ (n % 256) ∷ []

-- a set is its header, its body, and zeros up to the next multiple of four
abbrev pub set : ℕ → ℕ → ℕ → List ℕ → List ℕ
set kind second flags body =
    header kind second flags (length body) ++ (body ++ replicate (missing (length body)) 0)

-- the algorithm agility of the one set of algorithms that there is
abbrev pub agility : List ℕ
agility = 0x00 ∷ 0x80 ∷ 0xc2 ∷ 0x01 ∷ []

-- the body of the Basic Parameter Set: SCI, member identifier, message number, agility, and the CKN
abbrev pub basic_body : List ℕ → List ℕ → ℕ → List ℕ → List ℕ
basic_body sci mi mn ckn = sci ++ (mi ++ (big_bytes 4 mn ++ (agility ++ ckn)))

-- an entry of a peer list: a member identifier and a message number
abbrev pub peer : Peer → List ℕ
peer p = p.mi.0 ++ big_bytes 4 p.mn

-- the body of a peer list: its entries, one after the other
abbrev pub peers_body : List Peer → List ℕ
peers_body ps = flat_map peer ps

-- one key in the body of a SAK Use: the server, the key number and the lowest acceptable packet
-- number
abbrev pub use_body : KeyUse → List ℕ
use_body u = u.server.0 ++ (big_bytes 4 u.number ++ big_bytes 4 u.lowest)

-- the body of a SAK Use: the latest key, and then the old one
abbrev pub uses_body : Uses → List ℕ
uses_body u = use_body u.latest ++ use_body u.old

-- one key in the second octet of a SAK Use: its association number, and whether it transmits and
-- receives
abbrev pub use_flags : KeyUse → ℕ
use_flags u = number_of u.an * 4 + bit u.tx * 2 + bit u.rx

-- the second octet of a SAK Use: the latest key in the high four bits, and the old one in the low
-- four
abbrev pub uses_flags : Uses → ℕ
uses_flags u = use_flags u.latest * 16 + use_flags u.old

-- the high four bits of the second octet of a Distributed SAK: association number and
-- confidentiality offset
abbrev pub given_flags : AssociationNumber → ConfidentialityOffset → ℕ
given_flags an offset = number_of an * 4 + offset_bits offset

-- the identifiers of the cipher suites GCM-AES-256, GCM-AES-XPN-128 and GCM-AES-XPN-256
abbrev pub gcm_aes_256 : List ℕ
gcm_aes_256 = 0x00 ∷ 0x80 ∷ 0xc2 ∷ 0x00 ∷ 0x01 ∷ 0x00 ∷ 0x00 ∷ 0x02 ∷ []

abbrev pub gcm_aes_xpn_128 : List ℕ
gcm_aes_xpn_128 = 0x00 ∷ 0x80 ∷ 0xc2 ∷ 0x00 ∷ 0x01 ∷ 0x00 ∷ 0x00 ∷ 0x03 ∷ []

abbrev pub gcm_aes_xpn_256 : List ℕ
gcm_aes_xpn_256 = 0x00 ∷ 0x80 ∷ 0xc2 ∷ 0x00 ∷ 0x01 ∷ 0x00 ∷ 0x00 ∷ 0x04 ∷ []

-- the body of a Distributed SAK: key number, and the key of its suite. That of GCM-AES-128 is the
-- wrapped key alone; that of another suite is the suite's identifier and the wrapped key
abbrev pub given_body : ℕ → List ℕ → List ℕ
given_body number key = big_bytes 4 number ++ key

-- the body of the XPN parameter set: the high halves of the lowest acceptable packet numbers of the
-- latest key and of the old one
abbrev pub highs_body : HighHalves → List ℕ
highs_body h = big_bytes 4 h.latest ++ big_bytes 4 h.old

-- ---- the ranges of their fields

-- an entry of a peer list
pub record IsPeer (p : Peer) : Type 0 where
  pub mi : length p.mi.0 ≡ 12
  pub mn : p.mn < 2 ^ 32

-- one key of a SAK Use
pub record IsKey (u : KeyUse) : Type 0 where
  pub server : length u.server.0 ≡ 12
  pub number : u.number < 2 ^ 32
  pub lowest : u.lowest < 2 ^ 32

-- the octets of a wrapped key
abbrev pub IsWrapped : WrappedKey → Type 0
IsWrapped (Aes128 wrapped) = length wrapped ≡ 24
IsWrapped (Aes256 wrapped) = length wrapped ≡ 40
IsWrapped (Xpn128 wrapped) = length wrapped ≡ 24
IsWrapped (Xpn256 wrapped) = length wrapped ≡ 40
IsWrapped Other = ⊤

-- what a Distributed SAK gives
pub record IsGiven (g : Given) : Type 0 where
  pub number : g.number < 2 ^ 32
  pub key : IsWrapped g.key

-- the high halves of packet numbers of 64 bits
pub record AreHighs (h : HighHalves) : Type 0 where
  pub latest : h.latest < 2 ^ 32
  pub old : h.old < 2 ^ 32
