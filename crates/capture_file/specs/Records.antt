-- The file that is written of packets, and which packets a file has.
use Rattle.std.specs.Prelude.{◌≡◌, ℕ, List, [], ◌∷◌, ◌++◌, length, Ok}
use Rattle.capture_file.specs.declared.order.Order.{Order}
use Rattle.capture_file.specs.Pcap.{head_octets, head_read, kept_read, record_octets}

-- ---- what is written

-- a packet: its time in seconds and microseconds, and its octets
pub record Packet : Type 0 where
  pub seconds : ℕ
  pub micros : ℕ
  pub octets : List ℕ

-- the records of packets, one behind another
abbrev pub records_of : List Packet → List ℕ
records_of [] = []
records_of (p ∷ later) = record_octets p.seconds p.micros p.octets ++ records_of later

-- the file of packets
abbrev pub file_of : List Packet → List ℕ
file_of packets = head_octets ++ records_of packets

-- ---- what is read

-- octets begin with the record of a packet, behind which these follow
pub record IsRecord (order : Order) (packet behind octets : List ℕ) : Type 0 where
  pub header : List ℕ
  pub count : length header ≡ 16
  pub kept : kept_read order header ≡ Ok (length packet)
  pub whole : octets ≡ header ++ (packet ++ behind)

-- octets are the records of these packets, and no more
abbrev pub AreRecords : Order → List (List ℕ) → List ℕ → Type 0
AreRecords order [] octets = octets ≡ []
AreRecords order (packet ∷ later) octets =
    (behind : List ℕ) × IsRecord order packet behind octets × AreRecords order later behind

-- a file has these packets, each whole and in order
pub record IsFileOf (packets : List (List ℕ)) (file : List ℕ) : Type 0 where
  pub head : List ℕ
  pub records : List ℕ
  pub order : Order
  pub whole : file ≡ head ++ records
  pub count : length head ≡ 24
  pub read : head_read head ≡ Ok order
  pub parts : AreRecords order packets records
