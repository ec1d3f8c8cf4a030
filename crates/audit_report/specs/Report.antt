-- The report on packets: their lines, and what is told at the end.
use Rattle.std.specs.Prelude.{ℕ, ◌+◌, Bool, List, [], ◌∷◌, ◌++◌, length, codes, decimal}
use Rattle.capture_packets.specs.declared.fault.CaptureFault.{CaptureFault}
use Rattle.capture_packets.specs.declared.fault.CaptureFault.TheVariants as faults
use Rattle.audit_report.specs.declared.ending.Ending.{Ending}
use Rattle.audit_report.specs.declared.ending.Ending.TheVariants as endings
use Rattle.key_ring.specs.declared.ring.HandKey.{HandKey}
use Rattle.audit_report.specs.declared.tally.Malformations.{Malformations}
use Rattle.audit_report.specs.declared.tally.MkaCounts.{MkaCounts}
use Rattle.audit_report.specs.declared.tally.SecCounts.{SecCounts}
use Rattle.audit_report.specs.declared.tally.Tally.{Tally}
use Rattle.audit_report.specs.declared.tally.UndecidedCounts.{UndecidedCounts}
use Rattle.audit_report.specs.Told.{Told}
use Rattle.audit_report.specs.Lines.{counts_line, line_of, set_lines}
use Rattle.audit_report.specs.Packets.{finding_lines}
use Rattle.audit_report.specs.declared.unknown.UnknownName.{UnknownName}
use Rattle.audit_report.specs.Tallies.{tally_of}
use Rattle.audit_report.specs.Unknown.{unknown_lines}
use Rattle.audit_report.specs.Verdicts.{Verdict, begun_verdict, verdict_lines}

-- ---- the lines of packets

-- of which the newest is the first, with their own lines or without, and with keys themselves or without
abbrev pub packet_lines : Bool → Bool → List Told → List ℕ
packet_lines shows keys [] = []
packet_lines shows keys (t ∷ before) =
    packet_lines shows keys before ++ finding_lines shows keys (length before + 1) t.begun t.finding

-- ---- how many packets there are of each kind

abbrev pub fault_text : CaptureFault → List ℕ
fault_text faults.Magic = codes "Magic"
fault_text faults.LinkType = codes "LinkType"
fault_text faults.Cut = codes "Cut"
fault_text faults.Length = codes "Length"
fault_text faults.Block = codes "Block"
fault_text faults.Interface = codes "Interface"

abbrev pub ending_words : Ending → List (List ℕ)
ending_words endings.Whole = codes "whole" ∷ []
ending_words endings.Fault = codes "fault" ∷ []
ending_words endings.InputLimit = codes "limit" ∷ codes "CaptureInput" ∷ []
ending_words endings.KeyLimit = codes "limit" ∷ codes "Keys" ∷ []
ending_words (endings.Octet at why) = codes "octet" ∷ decimal at ∷ fault_text why ∷ []

abbrev pub read_line : ℕ → Ending → List ℕ
read_line count ending = line_of (codes "read") (decimal count ∷ ending_words ending)

abbrev pub packets_line : Tally → List ℕ
packets_line t = counts_line (codes "packets") ((codes "mka", t.mka.all) ∷ (codes "sec", t.sec.all)
    ∷ (codes "other", t.other) ∷ (codes "foreign", t.foreign) ∷ (codes "untimed", t.untimed) ∷ [])

abbrev pub mka_line : MkaCounts → List ℕ
mka_line m = counts_line (codes "mka") ((codes "right", m.right) ∷ (codes "wrong", m.wrong)
    ∷ (codes "unknown", m.unknown) ∷ (codes "dropped", m.dropped) ∷ (codes "cut", m.cut) ∷ [])

abbrev pub sec_line : SecCounts → List ℕ
sec_line s = counts_line (codes "sec") ((codes "right", s.right) ∷ (codes "wrong", s.wrong)
    ∷ (codes "undecided", s.undecided) ∷ (codes "malformed", s.malformed) ∷ (codes "cut", s.cut) ∷ [])

abbrev pub undecided_line : UndecidedCounts → List ℕ
undecided_line u = counts_line (codes "undecided") ((codes "suite", u.suite) ∷ (codes "offset", u.offset)
    ∷ (codes "unseen", u.unseen) ∷ (codes "ckn", u.ckn) ∷ (codes "nokey", u.no_key) ∷ [])

abbrev pub malformed_line : Malformations → List ℕ
malformed_line m = counts_line (codes "malformed") ((codes "version", m.version) ∷ (codes "mode", m.mode)
    ∷ (codes "short", m.short) ∷ (codes "slwrong", m.sl_wrong) ∷ (codes "long", m.long) ∷ [])

abbrev pub count_lines : Tally → List UnknownName → Ending → List ℕ
count_lines t unknown ending = read_line t.all ending ++ (packets_line t ++ (mka_line t.mka ++ (unknown_lines unknown
    ++ (sec_line t.sec ++ (undecided_line t.sec.reasons ++ malformed_line t.sec.malformations)))))

-- ---- the report

-- before the lines of members
abbrev pub begun_lines : Tally → Verdict → Ending → List ℕ
begun_lines t v ending = count_lines t v.unknown ending ++ begun_verdict v

abbrev pub end_lines : Tally → Verdict → Ending → List ℕ
end_lines t v ending = count_lines t v.unknown ending ++ verdict_lines t v

-- keys that are set by hand with their numbers, what is told of packets, and the end
abbrev pub report : Bool → Bool → List (ℕ × HandKey) → List Told → Verdict → Ending → List ℕ
report shows keys hand told v ending =
    set_lines keys hand ++ (packet_lines shows keys told ++ end_lines (tally_of told) v ending)
