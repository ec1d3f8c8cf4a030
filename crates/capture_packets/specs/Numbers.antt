-- Numbers and parts of a file.
use Rattle.std.specs.Prelude.{ℕ, ◌+◌, ◌*◌, ◌/◌, List, drop, take}
use Rattle.byteorder.specs.Endian.{big_number, little_number}
use Rattle.capture_file.specs.declared.order.Order.{Order}
use Rattle.capture_file.specs.declared.order.Order.TheVariants.{Big, Little}
use Rattle.capture_file.specs.Pcap.{number_in}

-- so many octets from a place on
abbrev pub part : ℕ → ℕ → List ℕ → List ℕ
part place count octets = take count (drop place octets)

-- the number in four octets from a place on
abbrev pub number_at : Order → ℕ → List ℕ → ℕ
number_at order place octets = number_in order (drop place octets)

-- the number in two octets from a place on
abbrev pub half_at : Order → ℕ → List ℕ → ℕ
half_at Big place octets = big_number 2 (drop place octets)
half_at Little place octets = little_number 2 (drop place octets)

-- so many octets with those that fill them up to a multiple of four
abbrev pub padded : ℕ → ℕ
padded count = (count + 3) / 4 * 4
