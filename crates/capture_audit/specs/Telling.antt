-- What is told of packets: their lines, what is judged of them, and the report.
use Rattle.std.specs.Prelude.{◌≡◌, ℕ, List, [], ◌∷◌, ◌++◌, map, unwrap_or}
use Rattle.audit_facts.specs.Noted.{Noted, events, fresh_frames, noted_of, spoken_of, unknown_names}
use Rattle.audit_report.specs.Told.{Told}
use Rattle.audit_report.specs.Lines.{set_lines}
use Rattle.audit_report.specs.Packets.{begun_words}
use Rattle.audit_report.specs.Report as reports
use Rattle.audit_report.specs.Unknown.{unknown_of}
use Rattle.audit_report.specs.Uses.{timed}
use Rattle.audit_report.specs.Verdicts.{Verdict}
use Rattle.audit_report.specs.declared.ending.Ending.{Ending}
use Rattle.use_notes.specs.changes.Changes.{AreChangesOf}
use Rattle.key_ring.specs.declared.ring.HandKey.{HandKey}
use Rattle.key_ring.specs.Rings.{Ring}
use Rattle.known_keys.specs.History.{keys}
use Rattle.known_keys.specs.Numbered.{number_in}
use Rattle.known_keys.specs.OneKey.{BreaksOneKey}
use Rattle.least_pairs.specs.Pairs.{IsJudged}
use Rattle.member_notes.specs.Facts.{AreMembersOf}
use Rattle.packet_verdicts.specs.Frames.{frame_of}
use Rattle.rollover_notes.specs.Counted.{AreUnreadyOf}
use Rattle.use_notes.specs.Once.{BreaksOnce}
use Rattle.use_notes.specs.Uses.{AreUsesOf}
use Rattle.capture_audit.specs.declared.asks.Asks.{Asks}
use Rattle.capture_audit.specs.Before.{Unwrapped, entries, frames, kind_in}
use Rattle.capture_audit.specs.Findings.{finding}

-- ---- packets

-- what is told of a packet behind others
abbrev pub told_of : Ring → List Unwrapped → Unwrapped → Told
told_of ring before u = record {
  begun = begun_words (frame_of u.packet.octets) (kind_in ring u);
  finding = finding ring before u;
  is_untimed = u.packet.head.is_untimed;
}

-- what is told of packets, of which the newest is the first
abbrev pub all_told : Ring → List Unwrapped → List Told
all_told ring [] = []
all_told ring (u ∷ before) = told_of ring before u ∷ all_told ring before

-- packets as far as they tell of changes of key, of members, and of who was ready for a key
abbrev pub noted : Ring → List Unwrapped → List Noted
noted ring [] = []
noted ring (u ∷ before) =
    noted_of (finding ring before u) u.packet.head.nanos (kind_in ring u) ∷ noted ring before

-- ---- lines

-- the keys that are set by hand, each with its number among the keys
abbrev pub numbered_hand : Ring → List (ℕ × HandKey)
numbered_hand ring =
    map (λ key. (unwrap_or (number_in (keys (entries ring [])) key.sak) 0, key)) ring.hand

-- the lines of the keys that are set by hand, and those of packets, as is asked for
abbrev pub told_lines : Asks → Ring → List Unwrapped → List ℕ
told_lines asks ring packets =
    set_lines asks.keys (numbered_hand ring) ++ reports.packet_lines asks.shows asks.keys (all_told ring packets)

-- ---- the verdict

-- The least pair of packets that are right under one key, of one sender and packet number, with other
-- check values; the least pair that give one identifier with two keys or association numbers, or one
-- key under two identifiers; what is told of each key and sender, and how many of its fresh frames came
-- late; from which key each sender came to which, and which members were not ready for a key; what is told of
-- each member; and of the names that no group has.
pub record IsVerdict (ring : Ring) (packets : List Unwrapped) (v : Verdict) : Type 0 where
  pub once : IsJudged (BreaksOnce (frames ring packets)) v.once
  pub one_key : IsJudged (BreaksOneKey (entries ring packets)) v.one_key
  pub uses : AreUsesOf (frames ring packets) v.uses
  pub timed : v.timed ≡ map (timed (events (noted ring packets))) v.uses
  pub changes : AreChangesOf (fresh_frames (noted ring packets)) v.changes
  pub unready : AreUnreadyOf (events (noted ring packets)) v.unready
  pub members : AreMembersOf (spoken_of (noted ring packets)) v.members
  pub unknown : v.unknown ≡ unknown_of (unknown_names (noted ring packets))

-- ---- the report

abbrev pub report : Asks → Ring → List Unwrapped → Verdict → Ending → List ℕ
report asks ring packets v ending =
    reports.report asks.shows asks.keys (numbered_hand ring) (all_told ring packets) v ending
