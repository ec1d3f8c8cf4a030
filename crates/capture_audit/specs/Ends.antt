-- How an audit ends, and what was written.
use Rattle.std.specs.Prelude.{[], ◌≡◌, ◌⊎◌, ℕ, ◌<◌, ◌≤◌, true, List, ◌++◌, length, All, Option, Result, Ok, Err}
use Rattle.lan_base.specs.Faults.{Rose}
use Rattle.lan_base.specs.Told.{after}
use Rattle.known_keys.specs.History.{keys}
use Rattle.known_keys.specs.OneKey.{BreaksOneKey}
use Rattle.least_pairs.specs.Pairs.{IsLeast}
use Rattle.use_notes.specs.Once.{BreaksOnce}
use Rattle.capture_audit.specs.declared.asks.Asks.{Asks}
use Rattle.capture_audit.specs.declared.end.AuditEnd.{AuditEnd}
use Rattle.capture_audit.specs.declared.end.AuditEnd.TheVariants as ends
use Rattle.audit_report.specs.declared.blame.Blame.{Blame}
use Rattle.audit_report.specs.declared.blame.Blame.TheVariants as blames
use Rattle.audit_report.specs.declared.blame.Breach.{Breach}
use Rattle.audit_report.specs.declared.blame.Breach.TheVariants as breaches
use Rattle.audit_report.specs.declared.ending.Ending.{Ending}
use Rattle.audit_report.specs.declared.ending.Ending.TheVariants as endings
use Rattle.key_ring.specs.Rings.{Ring, ring_in}
use Rattle.capture_audit.specs.Before.{IsUnwrapped, Unwrapped, entries, frames}
use Rattle.known_keys.specs.Numbered.{most_keys}
use Rattle.capture_audit.specs.Reading.{AreFirst, IsHeadFailed, IsHeadPast, IsHeadRefused, IsRead}
use Rattle.audit_report.specs.Tallies.{tally_of}
use Rattle.audit_report.specs.Verdicts.{Verdict, blame}
use Rattle.capture_audit.specs.Telling.{IsVerdict, all_told, report, told_lines}

-- The packets of a text were read, and reading ended so; for this the capture is to blame; and the whole
-- report was written.
pub record IsReported (asks : Asks) (text : List ℕ) (left : Option (List ℕ)) (ending : Ending)
    (blamed : Blame) (held then : Option (List ℕ)) : Type 0 where
  pub ring : Ring
  pub packets : List Unwrapped
  pub verdict : Verdict
  pub read : IsRead text left ring packets ending
  pub judged : IsVerdict ring packets verdict
  pub blame_is : blame asks.strict (tally_of (all_told ring packets)) verdict ≡ blamed
  pub written : then ≡ after held (report asks ring packets verdict ending)

-- For this the capture is to blame, however reading ended; where that was by a fault, the source failed.
abbrev pub IsBlamed : Asks → List ℕ → Option (List ℕ) → Type 0 → Blame → Option (List ℕ)
    → Option (List ℕ) → Type 0
IsBlamed asks text left failed blamed held then = (ending : Ending) × (ending ≡ endings.Fault → failed)
    × IsReported asks text left ending blamed held then

-- Octets were written with which the lines of packets begin; and with these packets the capture begins,
-- however reading ends behind them.
pub record IsFrontTold (asks : Asks) (text : List ℕ) (held then : Option (List ℕ)) : Type 0 where
  pub ring : Ring
  pub packets : List Unwrapped
  pub said : ring_in text ≡ Ok ring
  pub first : AreFirst text packets
  pub unwrapped : All (IsUnwrapped ring) packets
  pub more : List ℕ
  pub rest : List ℕ
  pub parts : more ++ rest ≡ told_lines asks ring packets
  pub written : then ≡ after held more

-- octets were written with which the report begins, but not all of it
pub record IsFrontReported (asks : Asks) (text : List ℕ) (left held then : Option (List ℕ)) : Type 0
  where
    pub ring : Ring
    pub packets : List Unwrapped
    pub verdict : Verdict
    pub ending : Ending
    pub read : IsRead text left ring packets ending
    pub judged : IsVerdict ring packets verdict
    pub more : List ℕ
    pub rest : List ℕ
    pub less : 0 < length rest
    pub parts : more ++ rest ≡ report asks ring packets verdict ending
    pub written : then ≡ after held more

abbrev pub IsPartReported : Asks → List ℕ → Option (List ℕ) → Option (List ℕ) → Option (List ℕ)
    → Type 0
IsPartReported asks text left held then =
    IsFrontTold asks text held then ⊎ IsFrontReported asks text left held then

-- the keys that are set by hand are too many
pub record HasManySet (text : List ℕ) : Type 0 where
  pub ring : Ring
  pub said : ring_in text ≡ Ok ring
  pub many : most_keys < length (keys (entries ring []))

-- How an audit ends. Want of memory and a fault of the sink leave a part of the report; where a pair
-- breaks, the capture is refuted by the least however reading ended; where none does, and where it is asked
-- that a protected frame be right, and none wrong or undecided, the capture is doubted if that is not so; and
-- nothing was written where a key line was refused, the head was not read, or the keys that are set by hand
-- are too many.
abbrev pub EndsAudit : Asks → List ℕ → Option (List ℕ) → Type 0 → Option (List ℕ) → Option (List ℕ)
    → Result (Unit {0}) AuditEnd → Type 0
EndsAudit asks text left failed held then (Ok done) =
    IsReported asks text left endings.Whole blames.None held then
EndsAudit asks text left failed held then (Err (ends.Refuted breach)) =
    IsBlamed asks text left failed (blames.Refuted breach) held then
EndsAudit asks text left failed held then (Err (ends.Doubted wrong undecided)) =
    IsBlamed asks text left failed (blames.Doubted wrong undecided) held then
EndsAudit asks text left failed held then (Err ends.NotJudged) =
    IsBlamed asks text left failed blames.NotJudged held then
EndsAudit asks text left failed held then (Err (ends.KeyLine line why)) =
    (ring_in text ≡ Err (record { line = line; why = why })) × (then ≡ held)
EndsAudit asks text left failed held then (Err (ends.Refused at why)) =
    (IsHeadRefused text at why × (then ≡ held))
    ⊎ IsReported asks text left (endings.Octet at why) blames.None held then
EndsAudit asks text left failed held then (Err ends.InputLimit) =
    (IsHeadPast text × (then ≡ held))
    ⊎ IsReported asks text left endings.InputLimit blames.None held then
EndsAudit asks text left failed held then (Err ends.KeyLimit) =
    (HasManySet text × (then ≡ held))
    ⊎ IsReported asks text left endings.KeyLimit blames.None held then
EndsAudit asks text left failed held then (Err ends.ReadFault) =
    (IsHeadFailed text left × (then ≡ held))
    ⊎ IsReported asks text left endings.Fault blames.None held then
EndsAudit asks text left failed held then (Err ends.WriteFault) =
    IsPartReported asks text left held then
EndsAudit asks text left failed held then (Err ends.Memory) =
    (then ≡ held) ⊎ IsPartReported asks text left held then

-- how an audit ends whose capture was read to its end, and is to blame for this
abbrev pub end_for : Blame → Result (Unit {0}) AuditEnd
end_for blames.None = Ok tt
end_for (blames.Refuted breach) = Err (ends.Refuted breach)
end_for (blames.Doubted wrong undecided) = Err (ends.Doubted wrong undecided)
end_for blames.NotJudged = Err ends.NotJudged

-- how an audit ends whose capture is to blame for nothing, where reading ended so
abbrev pub end_at : Ending → Result (Unit {0}) AuditEnd
end_at endings.Whole = Ok tt
end_at endings.Fault = Err ends.ReadFault
end_at endings.InputLimit = Err ends.InputLimit
end_at endings.KeyLimit = Err ends.KeyLimit
end_at (endings.Octet at why) = Err (ends.Refused at why)

-- and whose capture is to blame for this
abbrev pub end_of : Blame → Ending → Result (Unit {0}) AuditEnd
end_of blames.None ending = end_at ending
end_of (blames.Refuted breach) ending = Err (ends.Refuted breach)
end_of (blames.Doubted wrong undecided) ending = Err (ends.Doubted wrong undecided)
end_of blames.NotJudged ending = Err ends.NotJudged

-- a pair of these packets breaks what is judged
abbrev pub IsBroken : Ring → List Unwrapped → ℕ → ℕ → Type 0
IsBroken ring packets i j =
    BreaksOnce (frames ring packets) i j ⊎ BreaksOneKey (entries ring packets) i j

-- what breaks of them: the least pair that shares a nonce, and where none does, or the source failed before it
-- was read, the least that disagrees on a key
abbrev pub IsBreach : Ring → List Unwrapped → Type 0 → Breach → Type 0
IsBreach ring packets failed (breaches.Nonce i j) = IsLeast (BreaksOnce (frames ring packets)) i j
IsBreach ring packets failed (breaches.Key i j) =
    IsLeast (BreaksOneKey (entries ring packets)) i j
    × (((k m : ℕ) → BreaksOnce (frames ring packets) k m → ⊥) ⊎ failed)

-- the capture is refuted by what breaks of these packets
abbrev pub IsRefuted : Ring → List Unwrapped → Type 0 → Result (Unit {0}) AuditEnd → Type 0
IsRefuted ring packets failed result =
    (breach : Breach) × IsBreach ring packets failed breach × (result ≡ Err (ends.Refuted breach))

-- it was asked that a protected frame be right, and none wrong or undecided, and the capture is doubted
abbrev pub IsDoubted : Asks → Result (Unit {0}) AuditEnd → Type 0
IsDoubted asks (Err (ends.Doubted wrong undecided)) = asks.strict ≡ true
IsDoubted asks (Err ends.NotJudged) = asks.strict ≡ true
IsDoubted asks result = ⊥

-- A fault of the outside, or want of memory; where the source failed, what was read before it may be doubted.
abbrev pub IsOfOutside : Asks → Type 0 → Result (Unit {0}) AuditEnd → Type 0
IsOfOutside asks failed result = (result ≡ Err ends.ReadFault) ⊎ ((result ≡ Err ends.WriteFault)
    ⊎ ((result ≡ Err ends.Memory) ⊎ (IsDoubted asks result × failed)))

-- A count of faults, before and now: it rose where this is the answer, and it never falls.
pub record RisesAt {A : Type 0} (answer : A) (before now : ℕ) (result : A) : Type 0 where
  pub rose : result ≡ answer → Rose before now
  pub counts : before ≤ now
