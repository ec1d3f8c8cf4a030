-- How one giving and one reused packet more are kept.
use Rattle.std.specs.Prelude.{ℕ, ◌≡◌, if◌then◌else◌, List, [], ◌∷◌, ◌++◌, Some, None}
use Rattle.std.specs.Map.{lookup}
use Rattle.std.specs.Option.{option_or}
use Rattle.std.specs.BTreeMap.{is_at}
use Rattle.std.specs.Ordering.{nat_cmp}
use Rattle.lan_base.specs.declared.address.Sci.{Sci}
use Rattle.tick_columns.specs.Columns.{IsThinned, Columns}
use Rattle.mark_notes.specs.declared.giving.Giving.{Giving}
use Rattle.mark_notes.specs.declared.reuse.Reuse.{Reuse}
use Rattle.mark_notes.specs.Standing.{sci_cmp}

-- a giving is found under its key where none was
abbrev pub IsGivenMore : Giving → List (ℕ × Giving) → List (ℕ × Giving) → Type 0
IsGivenMore g old new =
    (key : ℕ) → lookup (is_at (nat_cmp key)) new
    ≡ option_or (lookup (is_at (nat_cmp key)) old) (if is_at (nat_cmp g.key) key then Some g else None)

-- under its sender are the columns of these reused packets and of one more, and others are as they were
pub record IsReusedAt (r : Reuse) (rs : List Reuse) (old new : List (Sci × Columns Reuse)) : Type 0 where
  pub columns : Columns Reuse
  pub thinned : IsThinned (λ r. r.packet) (rs ++ r ∷ []) columns
  pub changed : (sci : Sci) → lookup (is_at (sci_cmp sci)) new
      ≡ (if is_at (sci_cmp r.sci) sci then Some columns else lookup (is_at (sci_cmp sci)) old)
