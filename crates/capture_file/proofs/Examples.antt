-- The definitions at worked values.
use Rattle.std.proofs.Common.{◌≡◌, List, [], ◌∷◌, ◌++◌, Ok, Err, refl}
use Rattle.std.specs.Prelude.{ℕ}
use Rattle.capture_file.specs.declared.fault.CaptureFault.TheVariants.{Magic, LinkType, Length}
use Rattle.capture_file.specs.declared.order.Order.TheVariants.{Big, Little}
use Rattle.capture_file.specs.Pcap.{head_octets, header_octets, head_read, kept_read, record_octets}

-- the head that is written
head_is : head_octets
    ≡ 0xa1 ∷ 0xb2 ∷ 0xc3 ∷ 0xd4 ∷ 0 ∷ 2 ∷ 0 ∷ 4 ∷ 0 ∷ 0 ∷ 0 ∷ 0 ∷ 0 ∷ 0 ∷ 0 ∷ 0 ∷ 0 ∷ 0 ∷ 0xff ∷ 0xff
    ∷ 0 ∷ 0 ∷ 0 ∷ 1 ∷ []
head_is = refl

-- a head in the other order of octets, with the link type given behind it
abbrev little_head : List ℕ → List ℕ
little_head link =
    0xd4 ∷ 0xc3 ∷ 0xb2 ∷ 0xa1 ∷ 2 ∷ 0 ∷ 4 ∷ 0 ∷ 0 ∷ 0 ∷ 0 ∷ 0 ∷ 0 ∷ 0 ∷ 0 ∷ 0 ∷ 0xff ∷ 0xff ∷ 0 ∷ 0
    ∷ link

little_is : head_read (little_head (1 ∷ 0 ∷ 0 ∷ 0 ∷ [])) ≡ Ok Little
little_is = refl

-- the high 16 bits of the last field are not looked at
flags_are : head_read (little_head (1 ∷ 0 ∷ 0 ∷ 0x50 ∷ [])) ≡ Ok Little
flags_are = refl

link_is_other : head_read (little_head (113 ∷ 0 ∷ 0 ∷ 0 ∷ [])) ≡ Err LinkType
link_is_other = refl

no_magic : head_read (0x0a ∷ 0x0d ∷ 0x0d ∷ 0x0a ∷ head_octets) ≡ Err Magic
no_magic = refl

-- the count in the third field, up to 262,144
kept_is : kept_read Little (0 ∷ 0 ∷ 0 ∷ 0 ∷ 0 ∷ 0 ∷ 0 ∷ 0 ∷ 0 ∷ 0 ∷ 4 ∷ 0 ∷ 9 ∷ 9 ∷ 9 ∷ 9 ∷ [])
    ≡ Ok 262144
kept_is = refl

kept_is_too_much : kept_read Big (header_octets 0 0 262145) ≡ Err Length
kept_is_too_much = refl

-- a packet of two octets, seen after 2.3 s
record_is : record_octets 2 300000 (7 ∷ 8 ∷ [])
    ≡ 0 ∷ 0 ∷ 0 ∷ 2 ∷ 0 ∷ 4 ∷ 0x93 ∷ 0xe0 ∷ 0 ∷ 0 ∷ 0 ∷ 2 ∷ 0 ∷ 0 ∷ 0 ∷ 2 ∷ 7 ∷ 8 ∷ []
record_is = refl
