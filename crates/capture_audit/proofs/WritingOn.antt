-- The report is written part by part.
use Rattle.std.proofs.Common.{◌≡◌, ◌∙◌, ◌<◌, ◌+◌, ℕ, suc, get_or, take, drop, List, [], ◌∷◌, ◌++◌, length, Option, Result, Ok, Err, refl, sym, ap, arith, append_assoc, length-append}
use Rattle.std.specs.Prelude.{OnOk, codes, flat_map}
use Rattle.std.proofs.Math.Seq.{take-suc}
use Rattle.std.proofs.lemmas.List.{append-nil, take-append-drop}
use Rattle.std.proofs.lemmas.List.Concat.{flat_map-append}
use Rattle.lan_base.specs.Told.{after}
use Rattle.trace_text.specs.Words.{spaced}
use Rattle.audit_report.specs.Lines.{count_words, line_of}
use Rattle.audit_report.specs.Members.{member_line, member_lines, sums_line}
use Rattle.audit_report.specs.Readiness.{rollover_line, sums_of}
use Rattle.audit_report.specs.Report.{begun_lines, count_lines, end_lines}
use Rattle.audit_report.specs.Verdicts.{Verdict, begun_verdict, judged_lines, last_lines, verdict_lines}
use Rattle.member_notes.specs.Facts.{sums_of as member_sums}
use Rattle.member_notes.specs.declared.facts.Member.{Member}
use Rattle.member_notes.specs.declared.sums.MemberSums.{MemberSums}
use Rattle.audit_report.specs.declared.ending.Ending.{Ending}
use Rattle.audit_report.specs.declared.tally.Tally.{Tally}
use Rattle.capture_audit.specs.declared.end.AuditEnd.{AuditEnd}
use Rattle.capture_audit.specs.declared.end.AuditEnd.TheVariants as ends
use Rattle.capture_audit.specs.inside.Batches.{Writes}
use Rattle.capture_audit.specs.inside.Reporting.{IsPartOf, IsWrittenOn, WritesOn}
use Rattle.capture_audit.proofs.Going.{after-both}
use Rattle.capture_audit.proofs.Standing.{after-none}

-- ---- some are written

pub nothing-written : (held : Option (List ℕ)) (text : List ℕ) → IsWrittenOn text held held text
nothing-written held text = record { written = []; written_is = after-none held; lines = refl }

module _ (all : List ℕ) (held now : Option (List ℕ)) (text : List ℕ) (on : IsWrittenOn all held now text) where
  pub text-more : (more new : List ℕ) → new ≡ text ++ more → IsWrittenOn (all ++ more) held now new
  text-more more new is = record {
    written = on.written;
    written_is = on.written_is;
    lines = ap (λ (xs : List ℕ). on.written ++ xs) is ∙ sym (append_assoc on.written text more)
        ∙ ap (λ (xs : List ℕ). xs ++ more) on.lines;
  }

  -- the text is not written
  pub text-left : IsPartOf all held now
  text-left = record { more = on.written; rest = text; parts = on.lines; written_is = on.written_is }

  module _ (then : Option (List ℕ)) where
    whole : then ≡ after now text → then ≡ after held all
    whole is = is ∙ ap (λ (o : Option (List ℕ)). after o text) on.written_is ∙ after-both held on.written text
        ∙ ap (λ (xs : List ℕ). after held xs) on.lines

    part : (more rest : List ℕ) → more ++ rest ≡ text → then ≡ after now more
        → ((on.written ++ more) ++ rest ≡ all) × (then ≡ after held (on.written ++ more))
    part more rest parts is = (
      append_assoc on.written more rest ∙ ap (λ (xs : List ℕ). on.written ++ xs) parts ∙ on.lines,
      is ∙ ap (λ (o : Option (List ℕ)). after o more) on.written_is ∙ after-both held on.written more,
    )

    part-of : (more : List ℕ) × (rest : List ℕ) × (0 < length rest) × (more ++ rest ≡ text) × (then ≡ after now more)
        → IsPartOf all held then
    part-of it =
        let both = part it.0 it.1 it.3 it.4 in
        record { more = on.written ++ it.0; rest = it.1; parts = both.0; written_is = both.1 }

    -- the text is written, and none is written next
    pub text-written : (new : List ℕ) (r : Result (Unit {0}) AuditEnd) → Writes text now then r → OnOk r (new ≡ [])
        → WritesOn all held then new r
    text-written new (Ok done) it empty = record {
      written = all;
      written_is = whole it;
      lines = ap (λ (xs : List ℕ). all ++ xs) empty ∙ append-nil all;
    }
    text-written new (Err ends.WriteFault) it empty = part-of it
    text-written new (Err ends.Memory) it empty = part-of it
    text-written new (Err _) it empty = absurd it

    -- all is written
    pub all-written : (r : Result (Unit {0}) AuditEnd) → Writes text now then r → Writes all held then r
    all-written (Ok done) it = whole it
    all-written (Err ends.WriteFault) it =
        let both = part it.0 it.1 it.3 it.4 in (on.written ++ it.0, it.1, it.2, both.0, both.1)
    all-written (Err ends.Memory) it =
        let both = part it.0 it.1 it.3 it.4 in (on.written ++ it.0, it.1, it.2, both.0, both.1)
    all-written (Err _) it = absurd it

-- ---- a part

module _ (xs more ys : List ℕ) (is : xs ++ more ≡ ys) (held then : Option (List ℕ)) where
  longer : (part : IsPartOf xs held then) → part.more ++ (part.rest ++ more) ≡ ys
  longer part = sym (append_assoc part.more part.rest more) ∙ ap (λ (zs : List ℕ). zs ++ more) part.parts ∙ is

  pub part-longer : IsPartOf xs held then → IsPartOf ys held then
  part-longer part =
      record { more = part.more; rest = part.rest ++ more; parts = longer part; written_is = part.written_is }

  -- where a write stopped before these
  pub stops-before : (text new : List ℕ) (end : AuditEnd) → WritesOn xs held then text (Err end) → WritesOn ys held then new (Err end)
  stops-before text new ends.WriteFault it = part-longer it
  stops-before text new ends.Memory it = part-longer it
  stops-before text new _ it = absurd it

  module _ (some : 0 < length more) where
    less : (part : IsPartOf xs held then)
        → (front : List ℕ) × (rest : List ℕ) × (0 < length rest) × (front ++ rest ≡ ys) × (then ≡ after held front)
    less part = (
      part.more,
      part.rest ++ more,
      omega (arith, some, length-append part.rest more),
      longer part,
      part.written_is,
    )

    pub part-written : IsPartOf xs held then → Writes ys held then (Err ends.Memory)
    part-written part = less part

    pub stops : (text : List ℕ) (end : AuditEnd) → WritesOn xs held then text (Err end) → Writes ys held then (Err end)
    stops text ends.WriteFault it = less it
    stops text ends.Memory it = less it
    stops text _ it = absurd it

-- ---- what is told at the end

some-behind : (xs ys : List ℕ) → 0 < length ys → 0 < length (xs ++ ys)
some-behind xs ys some = omega (arith, some, length-append xs ys)

some-feed : 0 < length {A = ℕ} (10 ∷ [])
some-feed = omega arith

some-line : (first : List ℕ) (words : List (List ℕ)) → 0 < length (line_of first words)
some-line first words =
    some-behind first (spaced words ++ 10 ∷ []) (some-behind (spaced words) (10 ∷ []) some-feed)

some-sums : (s : MemberSums) → 0 < length (sums_line s)
some-sums s =
    some-line (codes "mka") (count_words ((codes "members", s.members) ∷ (codes "scis", s.scis)
    ∷ (codes "fell", s.fell) ∷ (codes "servers", s.servers) ∷ (codes "returned", s.returned) ∷ (codes "high", s.high) ∷ []))

module _ (t : Tally) (v : Verdict) where
  pub some-last : 0 < length (last_lines t v)
  some-last =
      some-behind (judged_lines t v) (rollover_line (length v.changes) (sums_of v.unready v.timed) ++ sums_line (member_sums v.members))
      (some-behind (rollover_line (length v.changes) (sums_of v.unready v.timed)) (sums_line (member_sums v.members))
      (some-sums (member_sums v.members)))

  pub some-end : (ending : Ending) → 0 < length (end_lines t v ending)
  some-end ending =
      some-behind (count_lines t v.unknown ending) (verdict_lines t v) (some-behind (begun_verdict v) (member_lines v.members ++ last_lines t v)
      (some-behind (member_lines v.members) (last_lines t v) some-last))

  -- the lines of members stand between both parts
  in-parts : (text a b m last : List ℕ)
      → ((text ++ (a ++ b)) ++ m) ++ last ≡ text ++ (a ++ (b ++ (m ++ last)))
  in-parts text a b m last = simp append_assoc

  pub end-in-parts : (text : List ℕ) (ending : Ending)
      → ((text ++ begun_lines t v ending) ++ member_lines v.members) ++ last_lines t v ≡ text ++ end_lines t v ending
  end-in-parts text ending =
      in-parts text (count_lines t v.unknown ending) (begun_verdict v) (member_lines v.members) (last_lines t v)

-- ---- the lines of members, one after the other

-- what a loop takes behind the last one
abbrev pub nobody : Member
nobody = record {
  group = 0;
  mi = record { 0 = [] };
  counts = record {
    sci = record { 0 = [] };
    mkpdus = 0;
    again = 0;
    given = 0;
    fell = record { count = 0; first = 0 };
    servers = record { count = 0; first = 0 };
    returned = record { count = 0; first = 0 };
    high = record { count = 0; first = 0 };
  };
}

abbrev pub nth : List Member → ℕ → Member
nth ms i = get_or ms i nobody

module _ (ms : List Member) (i : ℕ) (less : i < length ms) where
  one-more : flat_map member_line (take (i + 1) ms) ≡ flat_map member_line (take i ms) ++ member_line (nth ms i)
  one-more =
      let n : i + 1 ≡ suc i = omega arith in
      ap (λ k. flat_map member_line (take k ms)) n
      ∙ ap (λ (xs : List Member). flat_map member_line xs) (take-suc ms i nobody less)
      ∙ flat_map-append member_line (take i ms) (nth ms i ∷ [])
      ∙ ap (λ (xs : List ℕ). flat_map member_line (take i ms) ++ xs) (append-nil (member_line (nth ms i)))

  pub line-next : (all : List ℕ)
      → (all ++ flat_map member_line (take i ms)) ++ member_line (nth ms i) ≡ all ++ flat_map member_line (take (i + 1) ms)
  line-next all =
      append_assoc all (flat_map member_line (take i ms)) (member_line (nth ms i)) ∙ ap (λ (xs : List ℕ). all ++ xs) (sym one-more)

  pub lines-rest : (all : List ℕ)
      → ((all ++ flat_map member_line (take i ms)) ++ member_line (nth ms i)) ++ flat_map member_line (drop (i + 1) ms)
      ≡ all ++ member_lines ms
  lines-rest all =
      ap (λ (xs : List ℕ). xs ++ flat_map member_line (drop (i + 1) ms)) (line-next all)
      ∙ append_assoc all (flat_map member_line (take (i + 1) ms)) (flat_map member_line (drop (i + 1) ms))
      ∙ ap (λ (xs : List ℕ). all ++ xs) (sym (flat_map-append member_line (take (i + 1) ms) (drop (i + 1) ms))
      ∙ ap (λ (xs : List Member). flat_map member_line xs) (take-append-drop (i + 1) ms))
