-- What the lines of a transcript tell, one after another (this profile's own rule).
use Rattle.std.specs.Prelude.{ℕ, ◌≡◌, ◌⊎◌, List, [], Option, Some, None}
use Rattle.lan_base.specs.declared.name.Name.{Name}
use Rattle.lan_core.specs.declared.fact.Fact.{Fact}
use Rattle.lan_core.specs.declared.fact.Fact.TheVariants.{Life}
use Rattle.transcript.specs.Naming.{Reads}
use Rattle.transcript.specs.Rendering.{AreNames, Says}
use Rattle.transcript_reader.specs.declared.form.Form.{Form}
use Rattle.transcript_reader.specs.declared.form.Form.TheVariants.{OneGroup}
use Rattle.transcript_reader.specs.declared.group.Group.{Group}
use Rattle.transcript_reader.specs.declared.group.Group.TheVariants.{First, Second}
use Rattle.transcript_reader.specs.Forms.{form_then, parted, placed}

-- the names of the stations that began a life in each group; a place is that of the first
pub record Names : Type 0 where
  pub first : List Name
  pub second : List Name

-- A text is the line of a fact of a group. In the second its station is one of the first, and begins or began
-- a life in the second, where the same text is a line under the names of that group.
abbrev pub IsLineIn : Group → Names → List ℕ → Names → Fact → Type 0
IsLineIn First names text then own = Reads names.first text then.first own × (then.second ≡ names.second)
IsLineIn Second names text then own =
    Says names.first text own × (then.first ≡ names.first)
    × ((there : Fact) × Reads names.second text then.second there)

-- what is known from lines: their form, where there were any, and the names of the stations
pub record Known : Type 0 where
  pub form : Option Form
  pub names : Names

abbrev pub unnamed : Names
unnamed = record { first = []; second = [] }

abbrev pub nothing : Known
nothing = record { form = None; names = unnamed }

-- the names of each group are those of stations, each of another
abbrev pub AreNamed : Names → Type 0
AreNamed names = AreNames names.first × AreNames names.second

-- behind lines from which this is known, a line tells this fact, and that is known then
pub record Tells (known : Known) (line : List ℕ) (then : Known) (fact : Fact) : Type 0 where
  pub group : Group
  pub text : List ℕ
  pub own : Fact
  pub part : parted (form_then known.form line) line ≡ Some (group, text)
  pub reads : IsLineIn group known.names text then.names own
  pub form_is : then.form ≡ Some (form_then known.form line)
  pub fact_is : fact ≡ placed group own

-- a life begins
abbrev pub IsLife : Fact → Type 0
IsLife (Life s mi) = Unit {0}
IsLife fact = ⊥

-- ---- texts of one group

-- no line was of two groups
abbrev pub IsOfOneGroup : Option Form → Type 0
IsOfOneGroup form = (form ≡ None) ⊎ (form ≡ Some OneGroup)

-- what is known from lines of one group that gave these names
abbrev pub in_one_group : List Name → List Name → Known
in_one_group names others = record { form = Some OneGroup; names = record { first = names; second = others } }
