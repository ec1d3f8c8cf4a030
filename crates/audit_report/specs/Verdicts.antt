-- What is judged of packets, and its lines.
use Rattle.std.specs.Prelude.{ℕ, ◌==◌, ◌||◌, nat_lt, if◌then◌else◌, Bool, List, [], ◌∷◌, ◌++◌, length, codes, decimal, Option, Some, None}
use Rattle.use_notes.specs.declared.changes.change.Change.{Change}
use Rattle.member_notes.specs.Facts.{sums_of as member_sums}
use Rattle.member_notes.specs.declared.facts.Member.{Member}
use Rattle.rollover_notes.specs.declared.unready.Unready.{Unready}
use Rattle.use_notes.specs.declared.notes.Use.{Use}
use Rattle.use_notes.specs.declared.order.Order.{Order}
use Rattle.use_notes.specs.Uses.{order_of}
use Rattle.audit_report.specs.declared.blame.Blame.{Blame}
use Rattle.audit_report.specs.declared.blame.Blame.TheVariants as blames
use Rattle.audit_report.specs.declared.blame.Breach.{Breach}
use Rattle.audit_report.specs.declared.blame.Breach.TheVariants as breaches
use Rattle.audit_report.specs.declared.tally.SecCounts.{SecCounts}
use Rattle.audit_report.specs.declared.tally.Tally.{Tally}
use Rattle.audit_report.specs.declared.unknown.UnknownName.{UnknownName}
use Rattle.audit_report.specs.declared.uses.TimedUse.{TimedUse}
use Rattle.audit_report.specs.Changes.{change_lines}
use Rattle.audit_report.specs.Lines.{counts_line, line_of}
use Rattle.audit_report.specs.Members.{member_lines, sums_line}
use Rattle.audit_report.specs.Readiness.{rollover_line, sums_of, unready_lines}
use Rattle.audit_report.specs.Uses.{timed_lines}

-- The least pair that uses a packet number twice under a key, and the least that breaks one key under each
-- identifier; what is told of each key and sender, and the same with how many of its fresh frames came late;
-- from which key each sender came to which, and which members were not ready for a key; and what is told of
-- each member, and of the names that no group has.
pub record Verdict : Type 0 where
  pub once : Option (ℕ × ℕ)
  pub one_key : Option (ℕ × ℕ)
  pub uses : List Use
  pub timed : List TimedUse
  pub changes : List Change
  pub unready : List Unready
  pub members : List Member
  pub unknown : List UnknownName

-- ---- for what a capture is to blame

-- what breaks: of the two least pairs that which shares a nonce comes before that which disagrees on a key
abbrev pub breach_of : Option (ℕ × ℕ) → Option (ℕ × ℕ) → Option Breach
breach_of (Some pair) one_key = Some (breaches.Nonce pair.0 pair.1)
breach_of None (Some pair) = Some (breaches.Key pair.0 pair.1)
breach_of None None = None

abbrev pub breach : Verdict → Option Breach
breach v = breach_of v.once v.one_key

-- what a strict judge asks of protected frames: none is wrong or undecided, and one is right
abbrev pub strict_doubt : SecCounts → Blame
strict_doubt s = if nat_lt 0 s.wrong || nat_lt 0 s.undecided then blames.Doubted s.wrong s.undecided
    else (if s.right == 0 then blames.NotJudged else blames.None)

-- where no pair breaks
abbrev pub doubt : Bool → Tally → Blame
doubt strict t = if strict then strict_doubt t.sec else blames.None

-- a breach comes before all doubt
abbrev pub blame_for : Option Breach → Blame → Blame
blame_for (Some breach) doubted = blames.Refuted breach
blame_for None doubted = doubted

abbrev pub blame : Bool → Tally → Verdict → Blame
blame strict t v = blame_for (breach v) (doubt strict t)

-- ---- lines

-- a verdict: the pair that breaks, or that of so many packets so many were judged
abbrev pub verdict_words : Option (ℕ × ℕ) → ℕ → ℕ → List (List ℕ)
verdict_words (Some pair) judged all = codes "broken" ∷ decimal pair.0 ∷ decimal pair.1 ∷ []
verdict_words None judged all = codes "ok" ∷ decimal judged ∷ codes "of" ∷ decimal all ∷ []

abbrev pub once_line : Tally → Option (ℕ × ℕ) → List ℕ
once_line t pair = line_of (codes "once") (verdict_words pair t.sec.right t.sec.all)

abbrev pub one_key_line : Tally → Option (ℕ × ℕ) → List ℕ
one_key_line t pair = line_of (codes "onekey") (verdict_words pair t.mka.giving t.mka.distributing)

abbrev pub order_line : Order → List ℕ
order_line o = counts_line (codes "order") ((codes "fell", o.fell) ∷ (codes "window", o.window)
    ∷ (codes "high", o.high) ∷ [])

-- each key and sender, each change, and each member that was not ready for a key
abbrev pub begun_verdict : Verdict → List ℕ
begun_verdict v = timed_lines v.timed ++ (change_lines v.changes ++ unready_lines v.unready)

abbrev pub judged_lines : Tally → Verdict → List ℕ
judged_lines t v = once_line t v.once ++ (one_key_line t v.one_key ++ order_line (order_of v.uses))

abbrev pub sum_lines : Verdict → List ℕ
sum_lines v = rollover_line (length v.changes) (sums_of v.unready v.timed) ++ sums_line (member_sums v.members)

abbrev pub last_lines : Tally → Verdict → List ℕ
last_lines t v = judged_lines t v ++ sum_lines v

-- each member stands between
abbrev pub verdict_lines : Tally → Verdict → List ℕ
verdict_lines t v = begun_verdict v ++ (member_lines v.members ++ last_lines t v)
