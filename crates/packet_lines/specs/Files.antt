-- Where a file of captured packets is broken off, and where it is refused: at its head, or behind the
-- records of the packets before.
use Rattle.std.specs.Prelude.{◌≡◌, ◌≢◌, ◌⊎◌, ℕ, ◌<◌, List, [], ◌++◌, length, Ok, Err}
use Rattle.capture_file.specs.declared.order.Order.{Order}
use Rattle.capture_file.specs.declared.fault.CaptureFault.{CaptureFault}
use Rattle.capture_file.specs.Pcap.{head_read, kept_read}
use Rattle.capture_file.specs.Records.{IsFileOf}

-- ---- a head and a record by itself

-- octets are a front of a head
abbrev pub IsHeadCut : List ℕ → Type 0
IsHeadCut octets = length octets < 24

-- octets begin with a head that is refused
pub record IsHeadRefused (octets : List ℕ) (why : CaptureFault) : Type 0 where
  pub head : List ℕ
  pub behind : List ℕ
  pub whole : octets ≡ head ++ behind
  pub count : length head ≡ 24
  pub read : head_read head ≡ Err why

-- octets are a header, and not all octets that it says were kept
pub record IsPacketCut (order : Order) (octets : List ℕ) : Type 0 where
  pub header : List ℕ
  pub behind : List ℕ
  pub whole : octets ≡ header ++ behind
  pub count : length header ≡ 16
  pub kept : ℕ
  pub read : kept_read order header ≡ Ok kept
  pub short : length behind < kept

-- octets are a front of a record, or none: a front of its header, or of its octets
abbrev pub IsRecordCut : Order → List ℕ → Type 0
IsRecordCut order octets = (length octets < 16) ⊎ IsPacketCut order octets

-- octets begin with a header that is refused
pub record IsRecordRefused (order : Order) (octets : List ℕ) (why : CaptureFault) : Type 0 where
  pub header : List ℕ
  pub behind : List ℕ
  pub whole : octets ≡ header ++ behind
  pub count : length header ≡ 16
  pub read : kept_read order header ≡ Err why

-- ---- in a file

-- octets are a file of these packets, which is whole, and others behind it
pub record IsFileBefore (packets : List (List ℕ)) (behind octets : List ℕ) : Type 0 where
  pub file : List ℕ
  pub packets_are : IsFileOf packets file
  pub whole : octets ≡ file ++ behind

-- octets are broken off in the head, or have these packets and are broken off in a record behind them,
-- or before it
abbrev pub IsBrokenOff : List (List ℕ) → List ℕ → Type 0
IsBrokenOff packets octets =
    ((packets ≡ []) × IsHeadCut octets)
    ⊎ ((behind : List ℕ) × (f : IsFileBefore packets behind octets)
    × IsRecordCut f.packets_are.order behind)

-- octets have these packets, and then what begins at this octet is refused: the head or a record
-- which is not whole, where there are no octets more, or one that is refused by itself
abbrev pub IsRefusedAt : List (List ℕ) → ℕ → CaptureFault → List ℕ → Type 0
IsRefusedAt packets at why octets =
    ((packets ≡ []) × (at ≡ 0) × IsHeadRefused octets why)
    ⊎ ((behind : List ℕ) × (f : IsFileBefore packets behind octets) × (at ≡ length f.file)
    × IsRecordRefused f.packets_are.order behind why)

abbrev pub IsCutAt : List (List ℕ) → ℕ → List ℕ → Type 0
IsCutAt packets at octets =
    ((packets ≡ []) × (at ≡ 0) × IsHeadCut octets)
    ⊎ ((behind : List ℕ) × (f : IsFileBefore packets behind octets) × (at ≡ length f.file)
    × (behind ≢ []) × IsRecordCut f.packets_are.order behind)
