-- How packets wait in a batch, and how they are settled together.
use Rattle.std.specs.Prelude.{⊤, ◌≡◌, ℕ, suc, ◌<◌, ◌==◌, ◌&&◌, not, nat_lt, Bool, true, false, is_some, List, [], ◌∷◌, ◌++◌, drop, length, map, slice_index, slice_index_or, All, Option, Some, None, Result, Ok, Err}
use Rattle.aes_block.specs.Secrets.{secret_octets}
use Rattle.audit_report.specs.Packets.{begun_part, begun_words}
use Rattle.capture_packets.specs.Packets.{Seen}
use Rattle.capture_packets.specs.declared.packet.PacketHead.{PacketHead}
use Rattle.gcm_frames.specs.declared.tag.Tag.{Tag}
use Rattle.key_ring.specs.Rings.{Ring}
use Rattle.known_keys.specs.History.{Entry, keys}
use Rattle.lan_base.specs.Told.{after}
use Rattle.packet_verdicts.specs.declared.batch.Trial.{Trial}
use Rattle.packet_verdicts.specs.declared.kind.Kind.{Kind}
use Rattle.packet_verdicts.specs.declared.kind.Kind.TheVariants as kinds
use Rattle.packet_verdicts.specs.declared.kind.Mka.TheVariants as mkas
use Rattle.packet_verdicts.specs.declared.kind.Sec.TheVariants as secs
use Rattle.packet_verdicts.specs.Frames.{frame_of}
use Rattle.packet_verdicts.specs.Groups.{GroupKeys}
use Rattle.packet_verdicts.specs.Kinds.{packet_kind}
use Rattle.packet_verdicts.specs.Trials.{IsTrial, answer}
use Rattle.capture_audit.specs.declared.auditor.Auditor.{Auditor}
use Rattle.capture_audit.specs.declared.batch.Batch.{Batch}
use Rattle.capture_audit.specs.declared.batch.Waiting.{Waiting}
use Rattle.capture_audit.specs.declared.end.AuditEnd.{AuditEnd}
use Rattle.capture_audit.specs.declared.end.AuditEnd.TheVariants as ends
use Rattle.capture_audit.specs.declared.asks.Asks.{Asks}
use Rattle.capture_audit.specs.Before.{IsUnwrapped, Unwrapped, entries, number_behind, right_key}
use Rattle.capture_audit.specs.Reading.{in_order}
use Rattle.capture_audit.specs.Telling.{told_lines}
use Rattle.capture_audit.specs.inside.Keeping.{IsFull, IsOfGroup, Keeps}

-- a right MKPDU with a Distributed SAK
abbrev pub distributes : Kind → Bool
distributes (kinds.Mka (mkas.Right group s)) = is_some s.announcement.given
distributes _ = false

-- the EtherType is there, and begins neither like those of VLAN tags, nor like those of protected frames
-- and of key agreement
abbrev pub has_other_type : List ℕ → Bool
has_other_type octets =
    nat_lt 12 (length octets) && not (slice_index octets 12 == 0x81)
    && not (slice_index octets 12 == 0x88)

-- ---- one that waits

-- what was found in a place, if it has one
abbrev pub found_at : List (Option ℕ) → Option ℕ → Option ℕ
found_at found None = None
found_at found (Some at) = slice_index_or found at None

-- a protected frame has a place, in which the newest known key is found under which it is right
abbrev pub IsTriedAt : List Entry → List (Option ℕ) → Seen → Option ℕ → Kind → Type 0
IsTriedAt told found packet place (kinds.Sec (secs.Protected tag check)) =
    (at : ℕ) × (place ≡ Some at) × (at < length found)
    × (slice_index_or found at None ≡ right_key told tag (frame_of packet.octets))
IsTriedAt told found packet place _ = ⊤

-- a packet of this number waits: it makes no key known, and its line was begun where lines are shown
pub record IsWaiting (asks : Asks) (ring : Ring) (told : List Entry) (found : List (Option ℕ)) (n : ℕ)
    (packet : Seen) (w : Waiting) : Type 0 where
  pub head : w.head ≡ packet.head
  pub kind : w.kind ≡ packet_kind ring.groups packet
  pub quiet : distributes (packet_kind ring.groups packet) ≡ false
  pub line : w.line.items
      ≡ begun_part asks.shows n (begun_words (frame_of packet.octets) (packet_kind ring.groups packet))
  pub tried : IsTriedAt told found packet w.trial (packet_kind ring.groups packet)

-- packets wait, the first of which has this number
abbrev pub AreWaiting : Asks → Ring → List Entry → List (Option ℕ) → ℕ → List Seen → List Waiting
    → Type 0
AreWaiting asks ring told found n [] [] = ⊤
AreWaiting asks ring told found n (packet ∷ packets) (w ∷ ws) =
    IsWaiting asks ring told found n packet w
    × AreWaiting asks ring told found (suc n) packets ws
AreWaiting asks ring told found n _ _ = ⊥

-- ---- a batch

-- frames can be tried, and MKPDUs settled
pub record IsReady (groups : List GroupKeys) (b : Batch) : Type 0 where
  pub trials : All IsTrial b.trials.items
  pub groups_are : All (λ w. IsOfGroup groups w.kind) b.waiting.items

-- what will be found of the frames of trials
abbrev pub answers : List Entry → List Trial → List (Option ℕ)
answers told trials = map (answer (map secret_octets (keys told))) trials

-- Where an audit stands: these packets are settled, the newest first, those wait behind them, the oldest
-- first, and of the lines of the settled ones these octets were written.
pub record StandsAt (asks : Asks) (ring : Ring) (before : List Unwrapped) (waiting : List Seen)
    (written : List ℕ) (a : Auditor) (b : Batch) : Type 0 where
  pub keeps : Keeps ring before a
  pub asks_are : b.asks ≡ asks
  pub waits : AreWaiting asks ring (entries ring before) (answers (entries ring before) b.trials.items)
      (number_behind before) waiting b.waiting.items
  pub lines : written ++ b.text.items ≡ told_lines asks ring before

-- ---- settling those that wait

-- known keys are the same, and so are those under which a frame is right
pub record HaveSameKeys (before now : List Entry) : Type 0 where
  pub key_list : keys now ≡ keys before
  pub right : (tag : Tag) (frame : List ℕ) → right_key now tag frame ≡ right_key before tag frame

-- one more was settled, and its lines stand behind others
pub record IsTold (asks : Asks) (ring : Ring) (before : List Unwrapped) (packet : Seen) (new : Auditor)
    (text text_then : List ℕ) : Type 0 where
  pub now : List Unwrapped
  pub all : in_order now ≡ in_order before ++ packet ∷ []
  pub keeps : Keeps ring now new
  pub quiet : distributes (packet_kind ring.groups packet) ≡ false
      → HaveSameKeys (entries ring before) (entries ring now)
  pub number : number_behind now ≡ suc (number_behind before)
  pub lines : (written : List ℕ) → written ++ text ≡ told_lines asks ring before
      → written ++ text_then ≡ told_lines asks ring now

abbrev pub Tells : Asks → Ring → List Unwrapped → Seen → Auditor → Auditor → List ℕ → List ℕ
    → Result (Unit {0}) AuditEnd → Type 0
Tells asks ring before packet old new text text_then (Ok done) =
    IsTold asks ring before packet new text text_then
Tells asks ring before packet old new text text_then (Err ends.KeyLimit) =
    IsFull ring before packet old new × (text_then ≡ text)
    × (distributes (packet_kind ring.groups packet) ≡ true)
Tells asks ring before packet old new text text_then (Err ends.Memory) = ⊤
Tells asks ring before packet old new text text_then (Err _) = ⊥

-- so many of these were settled
pub record AreToldUpTo (asks : Asks) (ring : Ring) (before : List Unwrapped) (packets : List Seen)
    (found : List (Option ℕ)) (ws : List Waiting) (count : ℕ) (a : Auditor) (text text_then : List ℕ)
    : Type 0 where
  pub now : List Unwrapped
  pub rest : List Seen
  pub all : in_order now ++ rest ≡ in_order before ++ packets
  pub left : AreWaiting asks ring (entries ring before) found (number_behind now) rest (drop count ws)
  pub keeps : Keeps ring now a
  pub same : HaveSameKeys (entries ring before) (entries ring now)
  pub lines : (written : List ℕ) → written ++ text ≡ told_lines asks ring before
      → written ++ text_then ≡ told_lines asks ring now

-- all of these were settled
pub record AreTold (asks : Asks) (ring : Ring) (before : List Unwrapped) (packets : List Seen)
    (new : Auditor) (text text_then : List ℕ) : Type 0 where
  pub now : List Unwrapped
  pub all : in_order now ≡ in_order before ++ packets
  pub keeps : Keeps ring now new
  pub lines : (written : List ℕ) → written ++ text ≡ told_lines asks ring before
      → written ++ text_then ≡ told_lines asks ring now

abbrev pub TellsAll : Asks → Ring → List Unwrapped → List Seen → Auditor → List ℕ → List ℕ
    → Result (Unit {0}) AuditEnd → Type 0
TellsAll asks ring before packets new text text_then (Ok done) =
    AreTold asks ring before packets new text text_then
TellsAll asks ring before packets new text text_then (Err ends.Memory) = ⊤
TellsAll asks ring before packets new text text_then (Err _) = ⊥

-- ---- what is written

-- a part of the lines of packets that end so was written, behind what was
pub record IsPartWritten (asks : Asks) (ring : Ring) (before : List Unwrapped) (packets : List Seen)
    (written : List ℕ) (held then : Option (List ℕ)) : Type 0 where
  pub now : List Unwrapped
  pub later : List Seen
  pub all : in_order now ++ later ≡ in_order before ++ packets
  pub unwrapped : All (IsUnwrapped ring) now
  pub more : List ℕ
  pub rest : List ℕ
  pub lines : (written ++ more) ++ rest ≡ told_lines asks ring now
  pub written_is : then ≡ after held more

-- the audit is further: of these packets some are settled, and the others wait
pub record IsFurther (asks : Asks) (ring : Ring) (before : List Unwrapped) (packets : List Seen)
    (written : List ℕ) (held then : Option (List ℕ)) (a : Auditor) (b : Batch) : Type 0 where
  pub now : List Unwrapped
  pub waiting : List Seen
  pub all : in_order now ++ waiting ≡ in_order before ++ packets
  pub more : List ℕ
  pub written_is : then ≡ after held more
  pub stands : StandsAt asks ring now waiting (written ++ more) a b

-- all of these are settled, and their lines written
pub record IsSettledUp (asks : Asks) (ring : Ring) (before : List Unwrapped) (packets : List Seen)
    (written : List ℕ) (held then : Option (List ℕ)) (a : Auditor) (b : Batch) : Type 0 where
  pub now : List Unwrapped
  pub all : in_order now ≡ in_order before ++ packets
  pub more : List ℕ
  pub written_is : then ≡ after held more
  pub stands : StandsAt asks ring now [] (written ++ more) a b
  pub empty : b.text.items ≡ []

-- the last of these makes a key too many, and those before it are settled, and their lines written
pub record IsAtLimit (asks : Asks) (ring : Ring) (before : List Unwrapped) (packets : List Seen)
    (packet : Seen) (written : List ℕ) (held then : Option (List ℕ)) (a : Auditor) (b : Batch) : Type 0
  where
    pub now : List Unwrapped
    pub all : in_order now ≡ in_order before ++ packets
    pub more : List ℕ
    pub written_is : then ≡ after held more
    pub keeps : Keeps ring now a
    pub lines : (written ++ more) ++ b.text.items ≡ told_lines asks ring now
    pub full : IsFull ring now packet a a

-- what settling all that wait did
abbrev pub SettlesUp : Asks → Ring → List Unwrapped → List Seen → List ℕ → Option (List ℕ)
    → Option (List ℕ) → Auditor → Batch → Result (Unit {0}) AuditEnd → Type 0
SettlesUp asks ring before packets written held then a b (Ok done) =
    IsSettledUp asks ring before packets written held then a b
SettlesUp asks ring before packets written held then a b (Err ends.WriteFault) =
    IsPartWritten asks ring before packets written held then
SettlesUp asks ring before packets written held then a b (Err ends.Memory) =
    IsPartWritten asks ring before packets written held then
SettlesUp asks ring before packets written held then a b (Err _) = ⊥

-- a packet was judged so: what is told beside its octets, its kind, and its frame
pub record IsJudged (ring : Ring) (packet : Seen) (head : PacketHead) (kind : Kind) (frame : List ℕ)
    : Type 0 where
  pub head_is : head ≡ packet.head
  pub kind_is : kind ≡ packet_kind ring.groups packet
  pub frame_is : frame ≡ frame_of packet.octets

-- some stand behind others
abbrev pub IsLonger : {X : Type 0} → List X → List X → Type 0
IsLonger {X} old new = (more : List X) × (new ≡ old ++ more)

-- what settling a packet did that may make a key known, where none waits
abbrev pub SettlesAlone : Asks → Ring → List Unwrapped → Seen → List ℕ → Option (List ℕ)
    → Option (List ℕ) → Auditor → Batch → Result (Unit {0}) AuditEnd → Type 0
SettlesAlone asks ring before packet written held then a b (Ok done) =
    IsSettledUp asks ring before (packet ∷ []) written held then a b
SettlesAlone asks ring before packet written held then a b (Err ends.KeyLimit) =
    IsAtLimit asks ring before [] packet written held then a b
SettlesAlone asks ring before packet written held then a b (Err ends.WriteFault) =
    IsPartWritten asks ring before (packet ∷ []) written held then
SettlesAlone asks ring before packet written held then a b (Err ends.Memory) =
    IsPartWritten asks ring before (packet ∷ []) written held then
SettlesAlone asks ring before packet written held then a b (Err _) = ⊥

-- what taking a packet did, behind those that wait
abbrev pub Takes : Asks → Ring → List Unwrapped → List Seen → Seen → List ℕ → Option (List ℕ)
    → Option (List ℕ) → Auditor → Batch → Result (Unit {0}) AuditEnd → Type 0
Takes asks ring before waiting packet written held then a b (Ok done) =
    IsFurther asks ring before (waiting ++ packet ∷ []) written held then a b
Takes asks ring before waiting packet written held then a b (Err ends.KeyLimit) =
    IsAtLimit asks ring before waiting packet written held then a b
Takes asks ring before waiting packet written held then a b (Err ends.WriteFault) =
    IsPartWritten asks ring before (waiting ++ packet ∷ []) written held then
Takes asks ring before waiting packet written held then a b (Err ends.Memory) =
    IsPartWritten asks ring before (waiting ++ packet ∷ []) written held then
Takes asks ring before waiting packet written held then a b (Err _) = ⊥

-- what writing text did: all of it, or a part
abbrev pub Writes : List ℕ → Option (List ℕ) → Option (List ℕ) → Result (Unit {0}) AuditEnd → Type 0
Writes text held then (Ok done) = then ≡ after held text
Writes text held then (Err ends.WriteFault) =
    (more : List ℕ) × (rest : List ℕ) × (0 < length rest) × (more ++ rest ≡ text) × (then ≡ after held more)
Writes text held then (Err ends.Memory) =
    (more : List ℕ) × (rest : List ℕ) × (0 < length rest) × (more ++ rest ≡ text) × (then ≡ after held more)
Writes text held then (Err _) = ⊥
