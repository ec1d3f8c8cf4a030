-- What is told of a key that a right MKPDU distributes.
use Rattle.std.specs.Prelude.{ℕ, not, List, Option, Some, None, unwrap_or, Result, Ok, Err}
use Rattle.aes_block.specs.declared.secret.Secret.{Secret}
use Rattle.audit_report.specs.declared.finding.Handed.{Handed}
use Rattle.audit_report.specs.declared.finding.Handed.TheVariants as handeds
use Rattle.known_keys.specs.declared.gives.Gives.{Gives}
use Rattle.known_keys.specs.declared.giving.Giving.TheVariants.{Key}
use Rattle.known_keys.specs.History.{Entry, Gave}
use Rattle.known_keys.specs.Known.{number_told}
use Rattle.known_keys.specs.Telling.{told_of}
use Rattle.known_keys.specs.Undecided.{group_id, was_without}
use Rattle.packet_verdicts.specs.declared.given.Gift.{Gift}
use Rattle.packet_verdicts.specs.declared.given.NoSak.{NoSak}
use Rattle.capture_audit.specs.Before.{why_of}

-- the number of the key that an entry gives
abbrev pub key_number : List Entry → Entry → ℕ
key_number told entry = unwrap_or (number_told told entry) 0

-- what is told of it, after what was told before
abbrev pub gives_of : List Entry → ℕ → ℕ → ℕ → Gift → Secret → Gives
gives_of told n nanos group gift sak = told_of told group gift.id gift.an gift.offset
    (key_number told (Gave n nanos group gift.id gift.an (Key gift.offset sak)))

abbrev pub handed_by : List Entry → ℕ → ℕ → ℕ → Gift → Result Secret NoSak → Handed
handed_by told n nanos group gift (Ok sak) =
    handeds.Key gift.id gift.an gift.offset sak (gives_of told n nanos group gift sak)
handed_by told n nanos group gift (Err why) =
    handeds.Untaken gift.id (why_of why) (not (was_without told (why_of why) (group_id group gift.id)))

-- of what a packet of this number and time gives in a group, if it gives something
abbrev pub handed : List Entry → ℕ → ℕ → ℕ → Option Gift → Option Handed
handed told n nanos group None = None
handed told n nanos group (Some gift) = Some (handed_by told n nanos group gift gift.sak)
