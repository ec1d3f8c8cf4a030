-- Items that come one after another, in columns of so many ticks (this profile's own rule).
use Rattle.std.specs.Prelude.{ℕ, ◌≡◌, ◌<◌, ◌≤◌, ◌/◌, List, [], ◌∷◌, ◌++◌, All, length, Option, Some, None, option_to_list}
use Rattle.tick_columns.specs.declared.column.Column.{Column}

-- the items of one column: the last one of them, and how many came before it
pub record IsColumn {T : Type 0} (time : T → ℕ) (ticks : ℕ) (items : List T) (column : Column T) : Type 0 where
  pub before : List T
  pub items_are : items ≡ before ++ column.last ∷ []
  pub counted : column.before ≡ length before
  pub together : All (λ x. time x / ticks ≡ time column.last / ticks) before

-- items cut into columns: those of one, and then those that lie in later ones
abbrev pub AreColumns : {T : Type 0} → (T → ℕ) → ℕ → List T → List (Column T) → Type 0
AreColumns time ticks items [] = items ≡ []
AreColumns {T} time ticks items (column ∷ later) =
    (own : List T) × (rest : List T) × (items ≡ own ++ rest) × IsColumn time ticks own column
    × All (λ x. time column.last / ticks < time x / ticks) rest × AreColumns time ticks rest later

-- what is kept: how many ticks a column has, the columns before the latest one, and that one
pub record Columns (T : Type 0) : Type 0 where
  pub ticks : ℕ
  pub earlier : List (Column T)
  pub latest : Option (Column T)

abbrev pub no_columns : {T : Type 0} → Columns T
no_columns = record { ticks = 1; earlier = []; latest = None }

abbrev pub columns : {T : Type 0} → Columns T → List (Column T)
columns kept = kept.earlier ++ option_to_list kept.latest

-- the most columns
abbrev pub most_columns : ℕ
most_columns = 202

-- these items are kept in few columns
pub record IsThinned {T : Type 0} (time : T → ℕ) (items : List T) (kept : Columns T) : Type 0 where
  pub columns_are : AreColumns time kept.ticks items (columns kept)
  pub few : length (columns kept) ≤ most_columns
  pub none : kept.latest ≡ None → items ≡ []

-- the last of items, where there is one
abbrev pub IsLast : {T : Type 0} → List T → Option T → Type 0
IsLast items None = items ≡ []
IsLast {T} items (Some x) = (front : List T) × (items ≡ front ++ x ∷ [])
