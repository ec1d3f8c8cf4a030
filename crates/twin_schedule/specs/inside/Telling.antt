-- What is kept and told of an event's facts.
use Rattle.std.specs.Prelude.{ℕ, if◌then◌else◌, List, [], ◌∷◌, ◌++◌, Result, Ok, Err}
use Rattle.std.specs.Prelude.{slice_get, option_to_list}
use Rattle.std.specs.List.{flat_map}
use Rattle.lan_base.specs.declared.address.Sci.{Sci}
use Rattle.lan_core.specs.declared.fact.Fact.{Fact}
use Rattle.lan_core.specs.declared.fact.Fact.TheVariants as facts
use Rattle.cak_roll.specs.declared.event.GroupNumber.{GroupNumber}
use Rattle.cak_roll.specs.declared.event.TwinEvent.{TwinEvent}
use Rattle.cak_roll.specs.declared.event.TwinEvent.TheVariants as twins
use Rattle.cak_roll.specs.declared.told.Told.{Told}
use Rattle.cak_roll.specs.Twin.{of_group, same_group}
use Rattle.lan_base.specs.declared.sink.Unwritten.{Unwritten}
use Rattle.trace_acts.specs.Tellings.{WereToldUpTo}
use Rattle.twin_schedule.specs.Reports.{Report, AreTold}

-- ---- who joins

-- the name and the SCI of a station that starts
abbrev pub started_name : TwinEvent → List (List ℕ)
started_name (twins.Start name sci priority) = name ∷ []
started_name _ = []

abbrev pub started_sci : TwinEvent → List Sci
started_sci (twins.Start name sci priority) = sci ∷ []
started_sci _ = []

-- the name of a station that adopts the second group, where those of the first have these
abbrev pub adopted_name : List (List ℕ) → TwinEvent → List (List ℕ)
adopted_name names (twins.Adopt station) = option_to_list (slice_get names station)
adopted_name names _ = []

-- ---- frames

-- the senders of the frames that facts put on the air, by their places in the group
abbrev pub sender_in : Fact → List ℕ
sender_in (facts.Framed number station sec octets) = station ∷ []
sender_in _ = []

abbrev pub senders_in : List Fact → List ℕ
senders_in shown = flat_map sender_in shown

-- those of the frames of a group
abbrev pub sent_in : GroupNumber → List Told → List ℕ
sent_in g [] = []
sent_in g (told ∷ later) =
    (if same_group told.group g then senders_in told.facts else []) ++ sent_in g later

-- ---- what is told

-- the report of what is told of a group, where the stations have these names in the groups
abbrev pub report_with : List (List ℕ) → List (List ℕ) → Told → Report
report_with first second told =
    record { group = told.group; names = of_group told.group first second; facts = told.facts }

-- all reports were told, or those up to one, at which the recorder broke
abbrev pub AreTelling : {K : Type 0} → (K → Report → K → Type 0)
    → (K → Report → K → Unwritten → Type 0) → List Report → K → K → Result (Unit {0}) Unwritten → Type 0
AreTelling Took Broke all old new (Ok done) = AreTold Took old all new
AreTelling Took Broke all old new (Err why) = WereToldUpTo Took Broke all old new why
