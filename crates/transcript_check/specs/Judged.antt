-- What a list of facts is judged by: all pairs of them, numbered from 1.
use Rattle.std.specs.Prelude.{ℕ, zero, suc, ◌+◌, ◌==◌, ◌&&◌, Bool, true, false, if◌then◌else◌, List, [], ◌∷◌, slice_get, Option, Some, None, option_map, option_and_then}
use Rattle.std.specs.Option.{option_or}
use Rattle.least_pairs.specs.Pairs.{Noted, Breaks}
use Rattle.lan_base.specs.AssociationNumbers.{same_an}
use Rattle.transcript.specs.declared.fault.FactError.{FactError}
use Rattle.transcript.specs.declared.fault.FactError.TheVariants as readings
use Rattle.transcript_reader.specs.Forms.{station_of}
use Rattle.transcript_check.specs.declared.fault.CheckError.{CheckError}
use Rattle.transcript_check.specs.declared.fault.CheckError.TheVariants.{Refused, Memory}
use Rattle.transcript_check.specs.declared.fault.CheckFault.{CheckFault}
use Rattle.transcript_check.specs.declared.fault.CheckFault.TheVariants.{Unread}
use Rattle.transcript_reader.specs.declared.take_error.TakeError.{TakeError}
use Rattle.transcript_reader.specs.declared.take_error.TakeError.TheVariants as takings
use Rattle.lan_base.specs.declared.key_id.KeyId.{KeyId}
use Rattle.aes_block.specs.declared.secret.Secret.{Secret}
use Rattle.aes_block.specs.Secrets.{same_secret}
use Rattle.rx_slots.specs.declared.arrival.Arrival.TheVariants.{Missed}
use Rattle.lan_core.specs.declared.fact.Fact.{Fact}
use Rattle.transcript_check.specs.declared.named.Named.{Named}
use Rattle.lan_core.specs.declared.fact.Fact.TheVariants as shows

-- the fact of a number
abbrev pub fact_at : List Fact → ℕ → Option Fact
fact_at facts zero = None
fact_at facts (suc n) = slice_get facts n

-- ---- one use of each packet number

abbrev pub sak_here : ℕ → ℕ → Fact → Option Secret
sak_here s epoch (shows.Installed station id an e sak) =
    if (station == s) && (e == epoch) then Some sak else None
sak_here s epoch _ = None

-- the SAK that a station installed in a group under an epoch, of the first such install: its place tells both
abbrev pub sak_in : List Fact → ℕ → ℕ → Option Secret
sak_in [] s epoch = None
sak_in (fact ∷ later) s epoch = option_or (sak_here s epoch fact) (sak_in later s epoch)

-- what a claim uses: a packet number of a station under a SAK, in whichever group it claims it
pub record Use : Type 0 where
  pub station : ℕ
  pub sak : Secret
  pub pn : ℕ

abbrev pub use_of : List Fact → Fact → Option (Use × Unit {0})
use_of facts (shows.Claimed s an epoch pn) =
    option_map (λ sak. (record { station = station_of s; sak = sak; pn = pn }, tt)) (sak_in facts s epoch)
use_of facts _ = None

abbrev pub uses : List Fact → Noted Use (Unit {0})
uses facts number = option_and_then (use_of facts) (fact_at facts number)

-- no two uses agree
abbrev pub never : Unit {0} → Unit {0} → Bool
never _ _ = false

abbrev pub BreaksOnce : List Fact → ℕ → ℕ → Type 0
BreaksOnce facts = Breaks Use (Unit {0}) never (uses facts)

-- ---- one key under each identifier

abbrev pub named_by : Fact → Option (KeyId × Named)
named_by (shows.Installed s id an epoch sak) = Some (id, record { an = an; sak = sak })
named_by _ = None

abbrev pub names : List Fact → Noted KeyId Named
names facts number = option_and_then named_by (fact_at facts number)

abbrev pub same_named : Named → Named → Bool
same_named a b = same_an a.an b.an && same_secret a.sak b.sak

abbrev pub BreaksOneKey : List Fact → ℕ → ℕ → Type 0
BreaksOneKey facts = Breaks KeyId Named same_named (names facts)

-- ---- frames that no key was there for

abbrev pub is_missed : Fact → Bool
is_missed (shows.Arrived k s (Missed an)) = true
is_missed _ = false

abbrev pub missed_in : List Fact → ℕ
missed_in [] = 0
missed_in (fact ∷ later) = (if is_missed fact then 1 else 0) + missed_in later

-- ---- refusals

-- why a line is not taken that is not read
abbrev pub error_of_reading : FactError → CheckError
error_of_reading readings.Unread = Refused Unread
error_of_reading readings.Memory = Memory

-- why a fact is not taken
abbrev pub error_of_taking : CheckError → TakeError CheckFault
error_of_taking (Refused why) = takings.Refused why
error_of_taking Memory = takings.Memory
