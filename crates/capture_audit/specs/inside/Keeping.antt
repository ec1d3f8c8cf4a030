-- What is kept of packets, and how it changes.
use Rattle.std.specs.Prelude.{⊤, ◌≡◌, ℕ, ◌^◌, ◌<◌, ◌≤◌, Bool, List, [], ◌∷◌, ◌++◌, length, drop, map, unwrap_or, All, Option, None, option_map, Result, Ok, Err}
use Rattle.aes_block.specs.declared.secret.Secret.{Secret}
use Rattle.audit_facts.specs.Standing.{StandsFor as FactsStandFor}
use Rattle.audit_report.specs.Lines.{set_lines}
use Rattle.audit_report.specs.Tallies.{tally_of}
use Rattle.audit_report.specs.declared.finding.Finding.{Finding}
use Rattle.audit_report.specs.declared.finding.Finding.TheVariants as findings
use Rattle.audit_report.specs.declared.finding.Handed.{Handed}
use Rattle.capture_packets.specs.Packets.{Seen}
use Rattle.capture_packets.specs.declared.packet.PacketHead.{PacketHead}
use Rattle.key_ring.specs.declared.ring.HandKey.{HandKey}
use Rattle.key_ring.specs.Rings.{Ring}
use Rattle.known_keys.specs.Numbered.{number_in, most_keys}
use Rattle.known_keys.specs.declared.fault.KeyError.{KeyError}
use Rattle.known_keys.specs.declared.fault.KeyError.TheVariants.{TooManyKeys, Memory as KeyMemory}
use Rattle.known_keys.specs.History.{Entry, Gave, keys}
use Rattle.known_keys.specs.Standing.{KeptKeys, StandsFor as KnownStandsFor}
use Rattle.member_notes.specs.declared.mkpdu.RightMkpdu.{RightMkpdu}
use Rattle.member_notes.specs.Standing.{StandsFor as MembersStandFor}
use Rattle.packet_verdicts.specs.declared.given.Gift.{Gift}
use Rattle.packet_verdicts.specs.declared.given.NoSak.{NoSak}
use Rattle.packet_verdicts.specs.declared.kind.Kind.{Kind}
use Rattle.packet_verdicts.specs.declared.kind.Kind.TheVariants as kinds
use Rattle.packet_verdicts.specs.declared.kind.Mka.{Mka}
use Rattle.packet_verdicts.specs.declared.kind.Sec.{Sec}
use Rattle.packet_verdicts.specs.declared.kind.Sec.TheVariants as secs
use Rattle.packet_verdicts.specs.Frames.{frame_of}
use Rattle.packet_verdicts.specs.Groups.{GroupKeys}
use Rattle.packet_verdicts.specs.Kinds.{FitsMka, packet_kind}
use Rattle.use_notes.specs.declared.frame.RightFrame.{RightFrame}
use Rattle.use_notes.specs.Frames.{novelty_in}
use Rattle.use_notes.specs.Standing.{StandsFor as UsesStandFor}
use Rattle.capture_audit.specs.declared.auditor.Auditor.{Auditor}
use Rattle.capture_audit.specs.declared.end.AuditEnd.{AuditEnd}
use Rattle.capture_audit.specs.declared.end.AuditEnd.TheVariants as ends
use Rattle.capture_audit.specs.Before.{IsUnwrapped, Unwrapped, UnwrapsBy, entries, entries_by, frames, gift_entries, giving_by, mkpdu_by, mkpdus, right_key, right_under, set_behind, with_some}
use Rattle.capture_audit.specs.Findings.{finding, mka_finding, sec_finding}
use Rattle.capture_audit.specs.Giving.{handed, handed_by}
use Rattle.capture_audit.specs.Telling.{all_told, noted}

-- ---- what is kept

-- of what made keys known, the right frames, and the right MKPDUs
pub record Holds (groups : List GroupKeys) (told : List Entry) (rights : List RightFrame)
    (spelled : List RightMkpdu) (a : Auditor) : Type 0 where
  pub groups_are : a.groups ≡ groups
  pub known : KnownStandsFor told a.known
  pub uses : UsesStandFor rights a.uses
  pub members : MembersStandFor spelled a.members

-- this holds of all that an auditor may hold
abbrev pub OfHeld : Auditor → (List GroupKeys → List Entry → List RightFrame → List RightMkpdu → Type 0)
    → Type 0
OfHeld a Says = (groups : List GroupKeys) (told : List Entry) (rights : List RightFrame)
    (spelled : List RightMkpdu) → Holds groups told rights spelled a → Says groups told rights spelled

-- of packets behind a key text, the newest of which is the first
pub record Keeps (ring : Ring) (before : List Unwrapped) (a : Auditor) : Type 0 where
  pub holds : Holds ring.groups (entries ring before) (frames ring before) (mkpdus ring before) a
  pub facts : FactsStandFor (noted ring before) a.facts
  pub tally : a.tally ≡ tally_of (all_told ring before)
  pub unwrapped : All (IsUnwrapped ring) before
  pub few : length (keys (entries ring before)) ≤ most_keys

-- no packet behind those that were counted gave a key, and the groups can be numbered
pub record IsSound (a : Auditor) : Type 0 where
  pub last : a.known.firsts.last ≤ a.tally.all
  pub few : length a.groups < 2 ^ 32

-- there are too many keys
abbrev pub AreTooMany : List Entry → Type 0
AreTooMany told = most_keys < length (keys told)

abbrev pub IsTooMany : Ring → List Unwrapped → Type 0
IsTooMany ring packets = AreTooMany (entries ring packets)

-- ---- a packet more

-- what a packet of this number did beside what is told of it: nothing was noted or counted
pub record IsWithin (packet : ℕ) (old new : Auditor) : Type 0 where
  pub groups : new.groups ≡ old.groups
  pub facts : new.facts ≡ old.facts
  pub tally : new.tally ≡ old.tally
  pub last : new.known.firsts.last ≤ packet

-- ---- a protected frame

-- a right frame more, and what is said of it
abbrev pub NotesFrame : List GroupKeys → List Entry → List RightFrame → List RightMkpdu → RightFrame
    → Auditor → Finding → Type 0
NotesFrame groups told rights spelled frame new it =
    (it ≡ findings.RightFrame frame (novelty_in rights frame))
    × Holds groups told (frame ∷ rights) spelled new

-- as a right frame of this number and time under the key that was found, if one was
abbrev pub frame_under : ℕ → ℕ → Option ℕ → Sec → Option RightFrame
frame_under n nanos newest (secs.Protected tag check) = option_map (right_under n nanos tag check) newest
frame_under n nanos newest _ = None

abbrev pub NotesSec : List GroupKeys → List Entry → List RightFrame → List RightMkpdu → ℕ → ℕ → Option ℕ
    → Sec → Auditor → Finding → Type 0
NotesSec groups told rights spelled n nanos newest sec new it =
    (it ≡ sec_finding told rights (frame_under n nanos newest sec) nanos sec)
    × Holds groups told (with_some (frame_under n nanos newest sec) rights) spelled new

-- ---- a key that is given

-- what a packet that gives a key, or none, did to the known keys
abbrev pub HandsOver : List Entry → ℕ → ℕ → ℕ → Option Gift → KeptKeys → KeptKeys
    → Result (Option Handed) KeyError → Type 0
HandsOver told n nanos group gift old new (Ok it) =
    (it ≡ handed told n nanos group gift)
    × KnownStandsFor (gift_entries n nanos group gift ++ told) new
    × (length (keys (gift_entries n nanos group gift ++ told)) ≤ most_keys)
HandsOver told n nanos group gift old new (Err TooManyKeys) =
    AreTooMany (gift_entries n nanos group gift ++ told) × (new ≡ old)
HandsOver told n nanos group gift old new (Err KeyMemory) = ⊤

-- of one that gives this
abbrev pub HandsGift : List Entry → ℕ → ℕ → ℕ → Gift → Result Secret NoSak → KeptKeys → KeptKeys
    → Result Handed KeyError → Type 0
HandsGift told n nanos group gift sak old new (Ok it) =
    (it ≡ handed_by told n nanos group gift sak)
    × KnownStandsFor (Gave n nanos group gift.id gift.an (giving_by gift.offset sak) ∷ told) new
    × (length (keys (Gave n nanos group gift.id gift.an (giving_by gift.offset sak) ∷ told)) ≤ most_keys)
HandsGift told n nanos group gift sak old new (Err TooManyKeys) =
    AreTooMany (Gave n nanos group gift.id gift.an (giving_by gift.offset sak) ∷ told) × (new ≡ old)
HandsGift told n nanos group gift sak old new (Err KeyMemory) = ⊤

-- of one that gives none, for this reason
abbrev pub HandsNone : List Entry → ℕ → ℕ → ℕ → Gift → NoSak → KeptKeys → Handed → Type 0
HandsNone told n nanos group gift why new it =
    (it ≡ handed_by told n nanos group gift (Err why))
    × KnownStandsFor (Gave n nanos group gift.id gift.an (giving_by gift.offset (Err why)) ∷ told) new

abbrev pub end_of_key : KeyError → AuditEnd
end_of_key TooManyKeys = ends.KeyLimit
end_of_key KeyMemory = ends.Memory

-- ---- a frame of key agreement

-- what an MKPDU is, and what is kept with it
pub record IsHandled (groups : List GroupKeys) (told : List Entry) (rights : List RightFrame)
    (spelled : List RightMkpdu) (n nanos : ℕ) (mka : Mka) (it : Finding) (new : Auditor) : Type 0 where
  pub gift : Option Gift
  pub unwrapped : UnwrapsBy groups gift (kinds.Mka mka)
  pub told_is : it ≡ mka_finding told spelled n nanos gift mka
  pub holds : Holds groups (entries_by n nanos gift (kinds.Mka mka) ++ told) rights
      (with_some (mkpdu_by n (kinds.Mka mka)) spelled) new
  pub few : length (keys (entries_by n nanos gift (kinds.Mka mka) ++ told)) ≤ most_keys

-- an MKPDU gives a key too many
pub record IsOverfull (groups : List GroupKeys) (told : List Entry) (n nanos : ℕ) (mka : Mka)
    (old new : Auditor) : Type 0 where
  pub gift : Option Gift
  pub unwrapped : UnwrapsBy groups gift (kinds.Mka mka)
  pub many : AreTooMany (entries_by n nanos gift (kinds.Mka mka) ++ told)
  pub same : new ≡ old

abbrev pub Handles : List GroupKeys → List Entry → List RightFrame → List RightMkpdu → ℕ → ℕ → Mka
    → Auditor → Auditor → Result Finding AuditEnd → Type 0
Handles groups told rights spelled n nanos mka old new (Ok it) =
    IsHandled groups told rights spelled n nanos mka it new
Handles groups told rights spelled n nanos mka old new (Err ends.KeyLimit) =
    IsOverfull groups told n nanos mka old new
Handles groups told rights spelled n nanos mka old new (Err ends.Memory) = ⊤
Handles groups told rights spelled n nanos mka old new (Err _) = ⊥

-- ---- any packet

-- the key that was found for a protected frame is the newest of those known to it under which it is right
abbrev pub IsTried : List Entry → Seen → Kind → Option ℕ → Type 0
IsTried told packet (kinds.Sec (secs.Protected tag check)) newest =
    newest ≡ right_key told tag (frame_of packet.octets)
IsTried told packet _ newest = ⊤

-- the group of a right MKPDU is there
abbrev pub IsOfGroup : List GroupKeys → Kind → Type 0
IsOfGroup groups (kinds.Mka mka) = FitsMka groups mka
IsOfGroup groups _ = ⊤

pub record IsFound (ring : Ring) (before : List Unwrapped) (packet : Seen) (head : PacketHead)
    (kind : Kind) (newest : Option ℕ) : Type 0 where
  pub head_is : head ≡ packet.head
  pub kind_is : kind ≡ packet_kind ring.groups packet
  pub tried : IsTried (entries ring before) packet kind newest

-- what a packet is, with what was unwrapped of it, behind others, which are counted alone
pub record IsFindable (ring : Ring) (before : List Unwrapped) (packet : Seen) (it : Finding)
    (new : Auditor) : Type 0 where
  pub gift : Option Gift
  pub unwrapped : IsUnwrapped ring (record { packet = packet; gift = gift })
  pub told_is : it ≡ finding ring before (record { packet = packet; gift = gift })
  pub holds : Holds ring.groups (entries ring (record { packet = packet; gift = gift } ∷ before))
      (frames ring (record { packet = packet; gift = gift } ∷ before))
      (mkpdus ring (record { packet = packet; gift = gift } ∷ before)) new
  pub few : length (keys (entries ring (record { packet = packet; gift = gift } ∷ before))) ≤ most_keys

-- a packet and what was unwrapped of it make a key too many
pub record IsFull (ring : Ring) (before : List Unwrapped) (packet : Seen) (old new : Auditor) : Type 0
  where
    pub gift : Option Gift
    pub unwrapped : IsUnwrapped ring (record { packet = packet; gift = gift })
    pub many : IsTooMany ring (record { packet = packet; gift = gift } ∷ before)
    pub same : new ≡ old

-- what finding what a packet is did
abbrev pub Finds : Ring → List Unwrapped → Seen → Auditor → Auditor → Result Finding AuditEnd → Type 0
Finds ring before packet old new (Ok it) = IsFindable ring before packet it new
Finds ring before packet old new (Err ends.KeyLimit) = IsFull ring before packet old new
Finds ring before packet old new (Err ends.Memory) = ⊤
Finds ring before packet old new (Err _) = ⊥

-- a packet and what was unwrapped of it, behind others and counted with them
pub record IsSettled (ring : Ring) (before : List Unwrapped) (packet : Seen) (it : Finding)
    (new : Auditor) : Type 0 where
  pub gift : Option Gift
  pub told_is : it ≡ finding ring before (record { packet = packet; gift = gift })
  pub keeps : Keeps ring (record { packet = packet; gift = gift } ∷ before) new

-- what settling a packet did
abbrev pub Settles : Ring → List Unwrapped → Seen → Auditor → Auditor → Result Finding AuditEnd
    → Type 0
Settles ring before packet old new (Ok it) = IsSettled ring before packet it new
Settles ring before packet old new (Err ends.KeyLimit) = IsFull ring before packet old new
Settles ring before packet old new (Err ends.Memory) = ⊤
Settles ring before packet old new (Err _) = ⊥

-- ---- keys that are set by hand

abbrev pub numbered_among : List Secret → List HandKey → List (ℕ × HandKey)
numbered_among saks hand = map (λ key. (unwrap_or (number_in saks key.sak) 0, key)) hand

-- so many were set, and their lines, with the keys themselves or without, stand behind others
pub record AreSetUpTo (hand : List HandKey) (shown : Bool) (count : ℕ) (known : KeptKeys) (text text_then : List ℕ) : Type 0
  where
    pub told : List Entry
    pub done : List (ℕ × HandKey)
    pub rest_is : set_behind told (drop count hand) ≡ set_behind [] hand
    pub stands : KnownStandsFor told known
    pub few : length (keys told) ≤ most_keys
    pub lines : text_then ≡ text ++ set_lines shown done
    pub numbers : done ++ numbered_among (keys (set_behind [] hand)) (drop count hand)
        ≡ numbered_among (keys (set_behind [] hand)) hand

-- what setting keys did
abbrev pub SetsKeys : List HandKey → Bool → KeptKeys → List ℕ → List ℕ → Result (Unit {0}) AuditEnd → Type 0
SetsKeys hand shown new text text_then (Ok done) =
    KnownStandsFor (set_behind [] hand) new
    × (length (keys (set_behind [] hand)) ≤ most_keys)
    × (text_then ≡ text ++ set_lines shown (numbered_among (keys (set_behind [] hand)) hand))
SetsKeys hand shown new text text_then (Err ends.KeyLimit) = AreTooMany (set_behind [] hand)
SetsKeys hand shown new text text_then (Err ends.Memory) = ⊤
SetsKeys hand shown new text text_then (Err _) = ⊥

-- why there is no auditor behind a key text
abbrev pub EndsOf : {X : Type 0} → Ring → Result X AuditEnd → Type 0
EndsOf ring (Ok a) = ⊤
EndsOf ring (Err ends.KeyLimit) = IsTooMany ring []
EndsOf ring (Err ends.Memory) = ⊤
EndsOf ring (Err _) = ⊥
