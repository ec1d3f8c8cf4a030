-- How columns come one behind another.
use Rattle.std.specs.Prelude.{ℕ, ◌≡◌, ◌≤◌, ◌==◌, ◌+◌, ◌*◌, ◌/◌, length, if◌then◌else◌, List, [], ◌∷◌, ◌++◌, Option, Some, None}
use Rattle.tick_columns.specs.declared.column.Column.{Column}
use Rattle.tick_columns.specs.Columns.{AreColumns, IsThinned, Columns, columns}

abbrev pub both : {T : Type 0} → Column T → Column T → Column T
both earlier later = record { before = earlier.before + 1 + later.before; last = later.last }

abbrev pub joined_to : {T : Type 0} → (T → ℕ) → Column T → Columns T → Option (Column T) → Columns T
joined_to time column old None = record old { latest = Some column }
joined_to time column old (Some latest) =
    if time latest.last / old.ticks == time column.last / old.ticks
    then record old { latest = Some (both latest column) }
    else record old { earlier = old.earlier ++ latest ∷ []; latest = Some column }

-- a column comes behind the others, or to the latest one, where that is the same
abbrev pub joined : {T : Type 0} → (T → ℕ) → Column T → Columns T → Columns T
joined time column old = joined_to time column old old.latest

abbrev pub renewed_latest : {T : Type 0} → T → Option (Column T) → Option (Column T)
renewed_latest item None = None
renewed_latest item (Some column) = Some (record { before = column.before; last = item })

-- the last item becomes another one
abbrev pub renewed : {T : Type 0} → T → Columns T → Columns T
renewed item old = record { ticks = old.ticks; earlier = old.earlier; latest = renewed_latest item old.latest }

-- whatever items were kept are kept
abbrev pub IsWidened : {T : Type 0} → (T → ℕ) → Columns T → Columns T → Type 0
IsWidened {T} time old new = (items : List T) → IsThinned time items old → IsThinned time items new

-- these columns came, one after the other, to such as are twice as wide
pub record IsWider {T : Type 0} (time : T → ℕ) (ticks : ℕ) (came : List (Column T)) (kept : Columns T) : Type 0 where
  pub ticks_are : kept.ticks ≡ ticks * 2
  pub stands : (items : List T) → AreColumns time ticks items came
      → AreColumns time (ticks * 2) items (columns kept)
  pub few : length (columns kept) ≤ length came
  pub none : kept.latest ≡ None → came ≡ []
