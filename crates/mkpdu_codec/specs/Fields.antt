-- Reading the fields of parameter sets from front to back: a value and the octets behind it, or
-- nothing.
use Rattle.std.specs.Prelude.{Bool, not, ℕ, zero, suc, ◌+◌, ◌/◌, ◌%◌, ◌&&◌, ◌==◌, nat_lt, if◌then◌else◌, List, [], ◌∷◌, length, take, drop, slice_index, Option, Some, None}
use Rattle.std.specs.List.{starts_with}
use Rattle.byteorder.specs.Endian.{big_number}
use Rattle.lan_base.specs.declared.association_number.AssociationNumber.{AssociationNumber}
use Rattle.lan_base.specs.AssociationNumbers.{of_bits}
use Rattle.lan_base.specs.declared.address.Mi.{Mi}
use Rattle.lan_base.specs.declared.address.Sci.{Sci}
use Rattle.mkpdu_codec.specs.declared.given.Given.{Given}
use Rattle.mkpdu_codec.specs.declared.high_halves.HighHalves.{HighHalves}
use Rattle.mkpdu_codec.specs.declared.key_use.KeyUse.{KeyUse}
use Rattle.mkpdu_codec.specs.declared.key_use.Uses.{Uses}
use Rattle.mkpdu_codec.specs.declared.offset.ConfidentialityOffset.{ConfidentialityOffset}
use Rattle.mkpdu_codec.specs.declared.peer.Peer.{Peer}
use Rattle.mkpdu_codec.specs.declared.wrapped_key.WrappedKey.{WrappedKey}
use Rattle.mkpdu_codec.specs.declared.wrapped_key.WrappedKey.TheVariants.{Aes128, Aes256, Xpn128, Xpn256, Other}
use Rattle.mkpdu_codec.specs.Frames.{Set}
use Rattle.mkpdu_codec.specs.Offsets.{offset_of_bits}
use Rattle.mkpdu_codec.specs.Refusals.{front_length, is_basic_length}
use Rattle.mkpdu_codec.specs.Sets.{missing, gcm_aes_256, gcm_aes_xpn_128, gcm_aes_xpn_256}

infixl 10 ◌>>=◌
abbrev pub ◌>>=◌ : {A B : Type 0} → Option A → (A → Option B) → Option B
(Some x) >>= f = f x
None >>= f = None

-- the association number in the two lowest bits
abbrev pub an_in : ℕ → AssociationNumber
an_in bits = of_bits (bits / 2 % 2 == 1) (bits % 2 == 1)

-- the confidentiality offset in the two lowest bits
abbrev pub offset_in : ℕ → ConfidentialityOffset
offset_in bits = offset_of_bits (bits / 2 % 2 == 1) (bits % 2 == 1)

-- so many octets
abbrev pub octets_at : ℕ → List ℕ → Option (List ℕ × List ℕ)
octets_at n octets = if nat_lt (length octets) n then None else Some (take n octets, drop n octets)

unfoldable pub number_at : List ℕ → Option (ℕ × List ℕ)
number_at octets = do
  number ← octets_at 4 octets
  Some (big_number 4 number.0, number.1)

unfoldable pub mi_at : List ℕ → Option (Mi × List ℕ)
mi_at octets = do
  mi ← octets_at 12 octets
  Some (record { 0 = mi.0 }, mi.1)

unfoldable pub sci_at : List ℕ → Option (Sci × List ℕ)
sci_at octets = do
  sci ← octets_at 8 octets
  Some (record { 0 = sci.0 }, sci.1)

-- ---- a parameter set

-- a set with its padding
unfoldable pub set_at : List ℕ → Option (Set × List ℕ)
set_at octets = do
  header ← octets_at 4 octets
  whole ← octets_at (front_length header.0 + missing (front_length header.0)) header.1
  Some (
    record {
      kind = slice_index header.0 0;
      second = slice_index header.0 1;
      flags = slice_index header.0 2 / 16;
      body = take (front_length header.0) whole.0;
    },
    whole.1,
  )

-- ---- peer lists

unfoldable pub entry_at : List ℕ → Option (Peer × List ℕ)
entry_at octets = do
  mi ← mi_at octets
  mn ← number_at mi.1
  Some (record { mi = mi.0; mn = mn.0 }, mn.1)

-- the first entry, and those behind it
abbrev pub entries_from : (List ℕ → List Peer) → Option (Peer × List ℕ) → List Peer
entries_from behind None = []
entries_from behind (Some x) = x.0 ∷ behind x.1

-- the entries, at most so many
unfoldable pub entries_at : ℕ → List ℕ → List Peer
entries_at zero octets = []
entries_at (suc n) octets = entries_from (entries_at n) (entry_at octets)

unfoldable pub peers_in : Option Set → List Peer
peers_in None = []
peers_in (Some s) = entries_at (length s.body) s.body

-- ---- SAK Use

-- one key: its half of the second octet, and its part of the body
unfoldable pub key_at : ℕ → List ℕ → Option (KeyUse × List ℕ)
key_at bits octets = do
  server ← mi_at octets
  number ← number_at server.1
  lowest ← number_at number.1
  Some (
    record {
      server = server.0;
      number = number.0;
      an = an_in (bits / 4);
      tx = bits / 2 % 2 == 1;
      rx = bits % 2 == 1;
      lowest = lowest.0;
    },
    lowest.1,
  )

unfoldable pub uses_in : Option Set → Option Uses
uses_in found = do
  s ← found
  latest ← key_at (s.second / 16) s.body
  old ← key_at (s.second % 16) latest.1
  Some (record { latest = latest.0; old = old.0 })

-- ---- Distributed SAK

-- the wrapped key of so many octets behind the identifier of its suite
abbrev pub wrapped_in : List ℕ → ℕ → List ℕ → Option (List ℕ)
wrapped_in suite count key =
    if starts_with (λ a b. a == b) key suite && (length key == 8 + count) then Some (drop 8 key)
    else None

-- the key that was found for GCM-AES-256, for GCM-AES-XPN-128 or for GCM-AES-XPN-256
abbrev pub of_suites : Option (List ℕ) → Option (List ℕ) → Option (List ℕ) → WrappedKey
of_suites (Some wrapped) x y = Aes256 wrapped
of_suites None (Some wrapped) y = Xpn128 wrapped
of_suites None None (Some wrapped) = Xpn256 wrapped
of_suites None None None = Other

-- the key behind the key number
abbrev pub key_in : List ℕ → WrappedKey
key_in key =
    if length key == 24 then Aes128 key
    else of_suites (wrapped_in gcm_aes_256 40 key) (wrapped_in gcm_aes_xpn_128 24 key)
    (wrapped_in gcm_aes_xpn_256 40 key)

unfoldable pub given_in : Option Set → Option Given
given_in found = do
  s ← found
  number ← number_at s.body
  Some (record {
    an = an_in (s.second / 64);
    offset = offset_in (s.second / 16);
    number = number.0;
    key = key_in number.1;
  })

-- ---- the XPN parameter set

unfoldable pub highs_in : Option Set → Option HighHalves
highs_in found = do
  s ← found
  latest ← number_at s.body
  old ← number_at latest.1
  Some (record { latest = latest.0; old = old.0 })

-- ---- the Basic Parameter Set

-- what the set says, without where it lies in memory
pub record Basics : Type 0 where
  pub priority : ℕ
  pub server : Bool
  pub sci : Sci
  pub mi : Mi
  pub mn : ℕ
  pub agility : List ℕ
  pub ckn : List ℕ

unfoldable pub basic_in : Set → Option Basics
basic_in s = if not (is_basic_length (length s.body)) then None else do
  sci ← sci_at s.body
  mi ← mi_at sci.1
  mn ← number_at mi.1
  agility ← octets_at 4 mn.1
  Some (record {
    priority = s.second;
    server = s.flags / 8 == 1;
    sci = sci.0;
    mi = mi.0;
    mn = mn.0;
    agility = agility.0;
    ckn = agility.1;
  })

unfoldable pub basic_at : List ℕ → Option (Basics × List ℕ)
basic_at octets = do
  s ← set_at octets
  basic ← basic_in s.0
  Some (basic, s.1)
