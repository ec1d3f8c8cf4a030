-- A protected frame as it is written (IEEE Std 802.1AE, clauses 9 and 14): addresses, SecTAG,
-- secure data and tag.
use Rattle.std.specs.Prelude.{◌≡◌, ◌<◌, ◌≤◌, ◌^◌, ℕ, ◌+◌, Bool, true, false, nat_lt, if◌then◌else◌, List, [], ◌∷◌, ◌++◌, length, take, All}
use Rattle.byteorder.specs.Endian.{big_bytes}
use Rattle.lan_base.specs.AssociationNumbers.{number_of}
use Rattle.lan_base.specs.Ranges.{IsUserData}
use Rattle.lan_base.specs.declared.association_number.AssociationNumber.{AssociationNumber}
use Rattle.lan_base.specs.declared.address.Sci.{Sci}
use Rattle.lan_base.specs.declared.frame.UserFrame.{UserFrame}
use Rattle.aes_block.specs.Octet.{octets_sum}
use Rattle.gcm_core.specs.Gcm.{gcm}

-- the octet of control information: an explicit SCI (20), E (08) and C (04) where the data is
-- enciphered, and the AN
abbrev pub control_octet : Bool → AssociationNumber → ℕ
control_octet conf an = 0x20 + (if conf then 0x0c else 0) + number_of an

-- secure data of so many octets and more has no short length
abbrev pub least_long : ℕ
least_long = 48

-- the short length: how many octets of secure data there are, 0 where they have none
abbrev pub short_length : ℕ → ℕ
short_length count = if nat_lt count least_long then count else 0

-- the SecTAG before secure data of so many octets: EtherType, control information, short length,
-- packet number and SCI
abbrev pub sec_tag : Sci → AssociationNumber → ℕ → Bool → ℕ → List ℕ
sec_tag sci an pn conf count =
    0x88 ∷ 0xe5 ∷ control_octet conf an ∷ short_length count ∷ (big_bytes 4 pn ++ sci.0)

-- the octets of a frame before its secure data: destination, the source that the SCI begins with,
-- and SecTAG
abbrev pub head_octets : Sci → AssociationNumber → ℕ → Bool → UserFrame → List ℕ
head_octets sci an pn conf user =
    user.destination.0 ++ (take 6 sci.0 ++ sec_tag sci an pn conf (length user.body))

-- the IV: the SCI, and then the packet number
abbrev pub iv : Sci → ℕ → List ℕ
iv sci pn = sci.0 ++ big_bytes 4 pn

-- the IV under a suite with extended packet numbers: the short SCI and then the packet number of 64
-- bits, xor the salt
abbrev pub xpn_iv : List ℕ → ℕ → ℕ → List ℕ
xpn_iv salt ssci number = octets_sum (big_bytes 4 ssci ++ big_bytes 8 number) salt

-- a head, the secure data, and the tag. With confidentiality the user data is enciphered, and the
-- head is the additional data; without it the head and the user data are, and nothing is
-- enciphered.
abbrev pub sealed_octets : List ℕ → List ℕ → Bool → List ℕ → List ℕ → List ℕ
sealed_octets key iv true head user =
    let sealed = gcm key iv head user in head ++ (sealed.0 ++ sealed.1)
sealed_octets key iv false head user = head ++ (user ++ (gcm key iv (head ++ user) []).1)

-- the whole protected frame
abbrev pub protected : List ℕ → Sci → AssociationNumber → ℕ → Bool → UserFrame → List ℕ
protected key sci an pn conf user =
    sealed_octets key (iv sci pn) conf (head_octets sci an pn conf user) user.body

-- how many octets a protected frame has more than its user data: addresses, a SecTAG with an SCI,
-- and the tag
abbrev pub protection_octets : ℕ
protection_octets = 12 + 16 + 16

-- a secure channel identifier: 8 octets
pub record IsSci (sci : Sci) : Type 0 where
  pub count : length sci.0 ≡ 8
  pub octets : All (λ octet. octet < 256) sci.0

-- what is sent: a whole SCI and destination, a packet number of 32 bits from 1 on, and user data
pub record IsSent (sci : Sci) (pn : ℕ) (user : UserFrame) : Type 0 where
  pub channel : IsSci sci
  pub destination : length user.destination.0 ≡ 6
  pub first : 1 ≤ pn
  pub last : pn < 2 ^ 32
  pub body : IsUserData user.body
