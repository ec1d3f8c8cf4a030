-- What was said, in sets.
use Rattle.std.specs.Prelude.{◌≡◌, true, not, if◌then◌else◌, List}
use Rattle.std.specs.BTreeMap.{is_at}
use Rattle.std.specs.declared.cmp.Ordering.{Ordering}
use Rattle.known_keys.specs.declared.said.Fresh.{Fresh}
use Rattle.known_keys.specs.Said.{Statement}
use Rattle.known_keys.specs.Maps.{Sets, has, naming_cmp, statement_cmp}

-- a key more is in a set
abbrev pub Adds : {K : Type 0} → (K → K → Ordering) → K → List K → List K → Type 0
Adds {K} cmp k old new = (q : K) → has cmp new q ≡ (if is_at (cmp k) q then true else has cmp old q)

-- a statement is put, and whether it and its naming are new
pub record IsPut (statement : Statement) (old new : Sets) (fresh : Fresh) : Type 0 where
  pub statement_in : Adds statement_cmp statement old.statements new.statements
  pub naming_in : Adds naming_cmp statement.1.0 old.namings new.namings
  pub new_statement : fresh.statement ≡ not (has statement_cmp old.statements statement)
  pub new_naming : fresh.naming ≡ not (has naming_cmp old.namings statement.1.0)
