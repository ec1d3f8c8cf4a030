-- What is said of each order: a row of `CarriesOut`, and one of `EndsUndisturbed`.
use Rattle.std.specs.Prelude.{⊤, ◌≡◌, ◌≢◌, ◌⊎◌, true, false, List, ℕ, Some}
use Rattle.lan_base.specs.Faults.{Rose}
use Rattle.trace_maker.specs.Made.{made}
use Rattle.rollover_program.specs.declared.status.Status.{Status}
use Rattle.rollover_program.specs.declared.status.Status.TheVariants.{Done, Usage, Trace, ReadFault, WriteFault, Memory, Input, Limit, RepeatedDraw, Forged}
use Rattle.rollover_program.specs.declared.words.Order.{Order}
use Rattle.rollover_program.specs.declared.words.Order.TheVariants.{Run, Make, Try, Check, Capture, Dissect, Roll, Draw, Audit}
use Rattle.rollover_program.specs.Outside.{Outside}
use Rattle.rollover_program.specs.commands.Run.{EndsAsRun, EndsWithin}
use Rattle.rollover_program.specs.commands.Make.{EndsMade}
use Rattle.rollover_program.specs.commands.Try.{EndsTried}
use Rattle.rollover_program.specs.commands.Check.{EndsAsCheck}
use Rattle.rollover_program.specs.commands.Capture.{EndsAsCapture}
use Rattle.rollover_program.specs.commands.Dissect.{EndsAsDissect}
use Rattle.rollover_program.specs.commands.Roll.{EndsAsRoll, EndsRollWithin}
use Rattle.rollover_program.specs.commands.Draw.{EndsAsDraw}
use Rattle.rollover_program.specs.commands.Audit.{EndsAsAudit, EndsAsView, IsJudgedWhole}

-- ---- whatever the end

-- The order was carried out, and the call ended with this status. Rows that name a text or a file speak
-- of a source that tells its octets.
abbrev pub CarriesOut : Order → Outside → Status → Type 0
-- `run`, with or without `--summary`: which octets were taken, what of the text was performed, what is
-- promised of its run, and what was written of it
CarriesOut (Run summary) o status =
    (text : List ℕ) → o.left.left ≡ Some text → EndsAsRun summary text o.left o.now o.old o.new status
-- `make N`: what was written of the trace that is made of the number
CarriesOut (Make n) o status = EndsMade n o.old o.new status
-- `try N`: how that trace was performed, for its summary
CarriesOut (Try n) o status = EndsTried n o.old o.new status
-- `check`: how a transcript was judged, and what was written of the verdict
CarriesOut Check o status =
    (text : List ℕ) → o.left.left ≡ Some text → EndsAsCheck text o.left o.now o.old o.new status
-- `capture`: how a transcript was captured, and what was written of its file
CarriesOut Capture o status =
    (text : List ℕ) → o.left.left ≡ Some text → EndsAsCapture text o.left o.now o.old o.new status
-- `dissect`: how a file was told, and what was written of its lines
CarriesOut Dissect o status = (file : List ℕ) → o.left.left ≡ Some file
    → EndsAsDissect file o.now.left o.old.held o.new.held status
-- `roll`: which octets were taken, what of the text was performed, what is promised of both groups, and
-- what was written of them
CarriesOut Roll o status =
    (text : List ℕ) → o.left.left ≡ Some text → EndsAsRoll text o.left o.now o.old o.new status
-- `draw`: how a transcript was drawn, and what was written of its picture
CarriesOut Draw o status =
    (text : List ℕ) → o.left.left ≡ Some text → EndsAsDraw text o.left o.now o.old o.new status
-- `audit`, with or without `--packets`, `--strict` and `--keys`: what was read of keys and packets, what
-- breaks of them or is doubted, and what was written of the report
CarriesOut (Audit asks false) o status = (text : List ℕ) → o.left.left ≡ Some text
    → EndsAsAudit asks text o.now.left (Rose o.left.faults o.now.faults) o.old.held o.new.held status
-- `audit --draw`: what was seen of keys and packets, how their audit ends, and what was written of the
-- picture
CarriesOut (Audit asks true) o status = (text : List ℕ) → o.left.left ≡ Some text
    → EndsAsView asks text o.now.left (Rose o.left.faults o.now.faults) o.old o.new status

-- What holds of each command that reads the source. It carries this order out. Its status is not that of words
-- which order nothing; and where that is a fault of the source, or of the sink, it is one of the outside.
pub record IsCarriedOut (order : Order) (o : Outside) (status : Status) : Type 0 where
  pub ends : CarriesOut order o status
  pub no_usage : status ≢ Usage
  pub read_cause : status ≡ ReadFault → Rose o.left.faults o.now.faults
  pub write_cause : status ≡ WriteFault → Rose o.old.faults o.new.faults

-- ---- where nothing fails outside

-- all was done, or what was read, which is no trace, is refuted, doubted, refused or past a limit
abbrev pub IsDecided : Status → Type 0
IsDecided Usage = ⊥
IsDecided ReadFault = ⊥
IsDecided WriteFault = ⊥
IsDecided Memory = ⊥
IsDecided (Trace line kind) = ⊥
IsDecided Input = ⊥
IsDecided (Limit which) = ⊥
IsDecided (RepeatedDraw first second) = ⊥
IsDecided (Forged line) = ⊥
IsDecided status = ⊤

-- How an order ends that works on this text, and that nothing outside disturbs. Where that is decided by
-- what others wrote, `CarriesOut` says which end comes, and when.
abbrev pub EndsUndisturbed : Order → List ℕ → Status → Type 0
-- as the lines of the trace do
EndsUndisturbed (Run summary) text status = EndsWithin text status
-- a trace was made
EndsUndisturbed (Make n) text status = status ≡ Done
-- as the lines of the made trace do
EndsUndisturbed (Try n) text status = EndsWithin text status
-- as the transcript decides
EndsUndisturbed Check text status = IsDecided status
EndsUndisturbed Capture text status = IsDecided status
-- as the file decides
EndsUndisturbed Dissect text status = IsDecided status
-- as the lines of the trace of two groups do
EndsUndisturbed Roll text status = EndsRollWithin text status
-- as the transcript decides
EndsUndisturbed Draw text status = IsDecided status
-- as the capture decides; where it can be read to its end, it is judged whole
EndsUndisturbed (Audit asks draws) text status = IsDecided status × IsJudgedWhole asks text status

-- The order works on this text: `make` and `try` on the trace of their number, and the others on what the
-- source tells, at no fault of it.
abbrev pub WorksOn : Order → Outside → List ℕ → Type 0
WorksOn (Make n) o text = text ≡ made n
WorksOn (Try n) o text = text ≡ made n
WorksOn order o text = (o.left.left ≡ Some text) × (Rose o.left.faults o.now.faults → ⊥)

-- without a fault of the source, where it is read, and of the sink, the order ends so, unless memory runs out
abbrev pub Completes : Order → Outside → Status → Type 0
Completes order o status = (text : List ℕ) → WorksOn order o text → (Rose o.old.faults o.new.faults → ⊥)
    → EndsUndisturbed order text status ⊎ (status ≡ Memory)
