-- The lines of members, and of what is told of all of them.
use Rattle.std.specs.Prelude.{ℕ, List, [], ◌∷◌, ◌++◌, flat_map, codes, decimal}
use Rattle.hex.specs.Hex.{encode_lower}
use Rattle.member_notes.specs.declared.facts.Member.{Member}
use Rattle.member_notes.specs.declared.facts.MemberCounts.{MemberCounts}
use Rattle.member_notes.specs.declared.sums.MemberSums.{MemberSums}
use Rattle.audit_report.specs.Lines.{counts_line, line_of}

-- a member, its first SCI, and how many MKPDUs there are
abbrev pub member_words : Member → List (List ℕ)
member_words m = decimal m.group ∷ encode_lower m.mi.0 ∷ codes "sci" ∷ encode_lower m.counts.sci.0
    ∷ codes "mkpdus" ∷ decimal m.counts.mkpdus ∷ codes "again" ∷ decimal m.counts.again ∷ codes "given"
    ∷ decimal m.counts.given ∷ []

-- of four kinds how many, and the packet of the first one
abbrev pub kind_words : MemberCounts → List (List ℕ)
kind_words c = codes "fell" ∷ decimal c.fell.count ∷ decimal c.fell.first ∷ codes "servers"
    ∷ decimal c.servers.count ∷ decimal c.servers.first ∷ codes "returned" ∷ decimal c.returned.count
    ∷ decimal c.returned.first ∷ codes "high" ∷ decimal c.high.count ∷ decimal c.high.first ∷ []

abbrev pub member_line : Member → List ℕ
member_line m = line_of (codes "member") (member_words m ++ kind_words m.counts)

abbrev pub member_lines : List Member → List ℕ
member_lines ms = flat_map member_line ms

abbrev pub sums_line : MemberSums → List ℕ
sums_line s = counts_line (codes "mka") ((codes "members", s.members) ∷ (codes "scis", s.scis)
    ∷ (codes "fell", s.fell) ∷ (codes "servers", s.servers) ∷ (codes "returned", s.returned)
    ∷ (codes "high", s.high) ∷ [])
