-- The two forms of a transcript (this profile's own rule): its lines are those of the facts of one group,
-- or each stands behind the number of its group, 1 or 2, and a space. Which of both a text has, its first
-- line says.
use Rattle.std.specs.Prelude.{ℕ, ◌+◌, ◌%◌, ◌==◌, if◌then◌else◌, List, [], ◌∷◌, Option, Some, None, option_map, is_some}
use Rattle.lan_core.specs.declared.fact.Fact.{Fact}
use Rattle.lan_core.specs.Run.{place}
use Rattle.lan_core.specs.TypedFacts.{at_place}
use Rattle.transcript.specs.Naming.{most_named}
use Rattle.transcript_reader.specs.declared.form.Form.{Form}
use Rattle.transcript_reader.specs.declared.form.Form.TheVariants.{OneGroup, TwoGroups}
use Rattle.transcript_reader.specs.declared.group.Group.{Group}
use Rattle.transcript_reader.specs.declared.group.Group.TheVariants.{First, Second}

-- the group with this digit
abbrev pub group_of : ℕ → Option Group
group_of digit = if digit == 49 then Some First else if digit == 50 then Some Second else None

-- the group whose number stands in front of a line, and what stands behind it
abbrev pub marked : List ℕ → Option (Group × List ℕ)
marked [] = None
marked (digit ∷ []) = None
marked (digit ∷ space ∷ text) =
    if space == 32 then option_map (λ group. (group, text)) (group_of digit) else None

-- the form of a text whose first line this is
abbrev pub form_of : List ℕ → Form
form_of line = if is_some (marked line) then TwoGroups else OneGroup

-- the form of a text whose lines so far have this one, if there were lines, and whose next line this is
abbrev pub form_then : Option Form → List ℕ → Form
form_then None line = form_of line
form_then (Some form) line = form

-- the group whose fact a line of a form tells, and the line of the fact
abbrev pub parted : Form → List ℕ → Option (Group × List ℕ)
parted OneGroup line = Some (First, line)
parted TwoGroups line = marked line

-- ---- places

-- a fact of the second group: its stations have places behind all that can be of the first
abbrev pub moved : Fact → Fact
moved fact = at_place (place fact + most_named) fact

abbrev pub placed : Group → Fact → Fact
placed First fact = fact
placed Second fact = moved fact

-- the station of a place, whichever group the place is of
abbrev pub station_of : ℕ → ℕ
station_of place = place % most_named
