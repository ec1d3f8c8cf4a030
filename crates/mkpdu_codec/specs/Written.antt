-- The octets of an announcement as they are written: a whole MKA frame without its check value.
use Rattle.std.specs.Prelude.{⊤, ◌≡◌, ◌≤◌, ℕ, ◌+◌, ◌*◌, List, [], ◌∷◌, ◌++◌, length, take, Option, Some, None, IfSome}
use Rattle.byteorder.specs.Endian.{big_bytes}
use Rattle.lan_base.specs.Ranges.{IsCkn}
use Rattle.mkpdu_codec.specs.declared.announcement.Announcement.{Announcement}
use Rattle.mkpdu_codec.specs.declared.given.Given.{Given}
use Rattle.mkpdu_codec.specs.declared.key_use.Uses.{Uses}
use Rattle.mkpdu_codec.specs.declared.peer.Peer.{Peer}
use Rattle.mkpdu_codec.specs.declared.wrapped_key.WrappedKey.{WrappedKey}
use Rattle.mkpdu_codec.specs.declared.wrapped_key.WrappedKey.TheVariants.{Aes128, Aes256, Xpn128, Xpn256, Other}
use Rattle.mkpdu_codec.specs.Sets.{sak_use, distributed_sak, live_peers, potential_peers, check_length, bit, set, basic_body, peers_body, uses_body, uses_flags, given_body, given_flags, gcm_aes_256, gcm_aes_xpn_128, gcm_aes_xpn_256}

-- the group address that MKA frames are sent to
abbrev pub group_address : List ℕ
group_address = 0x01 ∷ 0x80 ∷ 0xc2 ∷ 0x00 ∷ 0x00 ∷ 0x03 ∷ []

-- destination, source, EtherType, EAPOL version 3, packet type 5, and the length of the EAPOL body
abbrev pub frame_header : List ℕ → ℕ → List ℕ
frame_header source n = group_address ++ (source ++ (0x88 ∷ 0x8e ∷ 3 ∷ 5 ∷ big_bytes 2 n))

-- the Basic Parameter Set, of version 1: the flags are key server, MACsec desired, and capability 2
abbrev pub basic_set : Announcement → List ℕ
basic_set a = set 1 a.priority (bit a.server * 8 + 6) (basic_body a.sci.0 a.mi.0 a.mn a.ckn)

-- a peer list, where there are peers
abbrev pub peers_set : ℕ → List Peer → List ℕ
peers_set kind [] = []
peers_set kind (p ∷ ps) = set kind 0 0 (peers_body (p ∷ ps))

-- MACsec SAK Use
abbrev pub uses_set : Option Uses → List ℕ
uses_set None = []
uses_set (Some u) = set sak_use (uses_flags u) 0 (uses_body u)

-- Distributed SAK with these octets of its key
abbrev pub giving_set : Given → List ℕ → List ℕ
giving_set g key = set distributed_sak (given_flags g.an g.offset * 16) 0 (given_body g.number key)

-- Distributed SAK with its key: one for another suite isn't written
abbrev pub key_set : Given → WrappedKey → List ℕ
key_set g (Aes128 wrapped) = giving_set g wrapped
key_set g (Aes256 wrapped) = giving_set g (gcm_aes_256 ++ wrapped)
key_set g (Xpn128 wrapped) = giving_set g (gcm_aes_xpn_128 ++ wrapped)
key_set g (Xpn256 wrapped) = giving_set g (gcm_aes_xpn_256 ++ wrapped)
key_set g Other = []

-- Distributed SAK
abbrev pub given_set : Option Given → List ℕ
given_set None = []
given_set (Some g) = key_set g g.key

-- the sets of an announcement, in their order; high halves aren't written
abbrev pub sets : Announcement → List ℕ
sets a =
    basic_set a ++ (peers_set live_peers a.live
    ++ (peers_set potential_peers a.potential ++ (uses_set a.uses ++ given_set a.given)))

-- the whole frame up to its check value, whose octets the length counts
abbrev pub written : Announcement → List ℕ
written a = frame_header a.source.0 (length (sets a) + check_length) ++ sets a

-- how many octets are written at most, with so many peers in the two lists
abbrev pub most_written : ℕ → ℕ
most_written peers = 190 + 16 * peers

-- a peer list that is written has at most so many entries
abbrev pub most_listed : ℕ
most_listed = 80

-- a key for another suite isn't written
abbrev pub IsWritableKey : WrappedKey → Type 0
IsWritableKey (Aes128 wrapped) = ⊤
IsWritableKey (Aes256 wrapped) = ⊤
IsWritableKey (Xpn128 wrapped) = ⊤
IsWritableKey (Xpn256 wrapped) = ⊤
IsWritableKey Other = ⊥

-- what may be written
pub record IsWritable (a : Announcement) : Type 0 where
  pub source : a.source.0 ≡ take 6 a.sci.0
  pub named : IsCkn a.ckn
  pub live : length a.live ≤ most_listed
  pub potential : length a.potential ≤ most_listed
  pub given : IfSome a.given (λ g. IsWritableKey g.key)
  pub highs : a.highs ≡ None
