-- Where lines stand.
use Rattle.std.specs.Prelude.{◌≡◌, ℕ, Bool, true, false, not, nat_eq, List, Option, Some, None}
use Rattle.std.specs.Cmp.Lexicographic.{pointwise}
use Rattle.lan_base.specs.Ranges.{IsCkn}
use Rattle.trace_text.specs.declared.twin.line.RollLine.{RollLine}
use Rattle.trace_text.specs.declared.twin.line.RollLine.TheVariants.{Plain, Group2}
use Rattle.trace_acts.specs.declared.choices.Choices.{Choices}
use Rattle.trace_acts.specs.declared.choices.Keyed.{Keyed}
use Rattle.trace_acts.specs.Kinds.{is_allowed}
use Rattle.trace_acts.specs.Places.{is_elsewhere}
use Rattle.trace_acts.specs.Settings.{secret_of}
use Rattle.twin_schedule.specs.World.{World, waiting}
use Rattle.twin_schedule.specs.Kinds.{may_be_second}

-- whether a line may stand only before the first station, but for that of a second group
abbrev pub is_later : RollLine → Bool
is_later (Plain line) = not (is_elsewhere line)
is_later _ = true

-- a line of one group may stand before the first station
abbrev pub MayPrepare : RollLine → Choices → Type 0
MayPrepare (Plain line) chosen = is_allowed line false chosen ≡ true
MayPrepare _ chosen = Unit {0}

-- a second group may come
abbrev pub MayJoin : RollLine → Option Keyed → Option Keyed → Type 0
MayJoin (Group2 cak ckn) first second = may_be_second ckn first second ≡ true
MayJoin _ first second = Unit {0}

-- a group of this name can be opened, and then a second one
abbrev pub CanOpen : List ℕ → Option Keyed → Type 0
CanOpen ckn None = IsCkn ckn
CanOpen ckn (Some keyed) =
    IsCkn ckn × IsCkn keyed.ckn × (pointwise nat_eq keyed.ckn ckn ≡ false)

-- the second group came
abbrev pub with_second : List ℕ → List ℕ → World → World
with_second cak ckn w =
    record w { kept = record w.kept { second = Some (record { cak = secret_of cak; ckn = ckn }) } }

-- the first station came
abbrev pub begun_in : World → World
begun_in w = record w { kept = record w.kept { begun = true } }

-- a world that the groups open by these choices, with its first line
abbrev pub IsOpening : World → Choices → Option Keyed → ℕ → Type 0
IsOpening w chosen second line = w ≡ begun_in (waiting line chosen second)
