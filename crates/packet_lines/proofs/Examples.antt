-- The definitions at worked files: a hello of key agreement, seen after one tick.
use Rattle.std.proofs.Common.{◌≡◌, ℕ, List, [], ◌∷◌, ◌++◌, take, drop, refl, inl, inr, arith}
use Rattle.std.specs.Prelude.{codes}
use Rattle.std.specs.Fmt.{digits}
use Rattle.mkpdu_codec.specs.Reading.{parts_at, reading}
use Rattle.capture_file.specs.declared.fault.CaptureFault.TheVariants.{Magic}
use Rattle.capture_file.specs.declared.order.Order.TheVariants.{Big, Little}
use Rattle.capture_file.specs.Pcap.{head_octets, header_octets}
use Rattle.capture_file.specs.Records.{IsFileOf}
use Rattle.packet_lines.specs.Files.{IsCutAt, IsRefusedAt}
use Rattle.packet_lines.specs.Telling.{lines}

-- a frame of 70 octets
abbrev hello : List ℕ
hello =
    0x01 ∷ 0x80 ∷ 0xc2 ∷ 0x00 ∷ 0x00 ∷ 0x03 ∷ 0x02 ∷ 0x00 ∷ 0x00 ∷ 0x00 ∷ 0x00 ∷ 0x0a ∷ 0x88
    ∷ 0x8e ∷ 0x03 ∷ 0x05 ∷ 0x00 ∷ 0x34 ∷ 0x01 ∷ 0x10 ∷ 0x60 ∷ 0x20 ∷ 0x02 ∷ 0x00 ∷ 0x00 ∷ 0x00
    ∷ 0x00 ∷ 0x0a ∷ 0x00 ∷ 0x01 ∷ 0x00 ∷ 0x00 ∷ 0x00 ∷ 0x00 ∷ 0x00 ∷ 0x00 ∷ 0x00 ∷ 0x00 ∷ 0x00
    ∷ 0x00 ∷ 0x00 ∷ 0x01 ∷ 0x00 ∷ 0x00 ∷ 0x00 ∷ 0x01 ∷ 0x00 ∷ 0x80 ∷ 0xc2 ∷ 0x01 ∷ 0x01 ∷ 0x02
    ∷ 0x03 ∷ 0x04 ∷ 0x6a ∷ 0xfe ∷ 0xa3 ∷ 0x3c ∷ 0x19 ∷ 0x7d ∷ 0x66 ∷ 0x8f ∷ 0x2e ∷ 0xf5 ∷ 0xcc
    ∷ 0x6f ∷ 0x5a ∷ 0x3c ∷ 0xba ∷ 0xe8 ∷ []

-- packets are numbered from 1
lines_are : lines ([] ∷ (1 ∷ []) ∷ []) ≡ codes "packet 1 other" ++ 10 ∷ codes "packet 2 other" ++ 10 ∷ []
unfolding digits reading parts_at
lines_are = refl

-- the head of a file alone has no packet, in either order of octets
abbrev big_alone : IsFileOf [] head_octets
big_alone = record {
  head = head_octets;
  records = [];
  order = Big;
  whole = refl;
  count = refl;
  read = refl;
  parts = refl;
}

abbrev little_head : List ℕ
little_head =
    0xd4 ∷ 0xc3 ∷ 0xb2 ∷ 0xa1 ∷ 2 ∷ 0 ∷ 4 ∷ 0 ∷ 0 ∷ 0 ∷ 0 ∷ 0 ∷ 0 ∷ 0 ∷ 0 ∷ 0 ∷ 0xff ∷ 0xff ∷ 0 ∷ 0
    ∷ 1 ∷ 0 ∷ 0 ∷ 0 ∷ []

little_alone : IsFileOf [] little_head
little_alone = record {
  head = little_head;
  records = [];
  order = Little;
  whole = refl;
  count = refl;
  read = refl;
  parts = refl;
}

-- with another first octet the head is refused
no_magic : IsRefusedAt [] 0 Magic (0x0a ∷ drop 1 little_head)
no_magic = inl (
  refl,
  refl,
  record {
    head = 0x0a ∷ drop 1 little_head;
    behind = [];
    whole = refl;
    count = refl;
    read = refl;
  },
)

-- an empty file is cut at its head
none_is_cut : IsCutAt [] 0 []
none_is_cut = inl (refl, refl, omega arith)

-- without its last octet the record is cut, where it begins
last_is_cut : IsCutAt [] 24 (head_octets ++ (header_octets 0 100000 70 ++ take 69 hello))
last_is_cut = inr (
  header_octets 0 100000 70 ++ take 69 hello,
  record { file = head_octets; packets_are = big_alone; whole = refl },
  refl,
  (λ none. cc none),
  inr (record {
    header = header_octets 0 100000 70;
    behind = take 69 hello;
    whole = refl;
    count = refl;
    kept = 70;
    read = refl;
    short = omega arith;
  }),
)
