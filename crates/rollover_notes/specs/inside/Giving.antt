-- How one giving more is kept.
use Rattle.std.specs.Prelude.{ℕ, ◌≡◌, if◌then◌else◌}
use Rattle.lan_base.specs.declared.key_id.KeyId.{KeyId}
use Rattle.rollover_notes.specs.declared.givings.Givings.{Givings}
use Rattle.rollover_notes.specs.Givings.{group_id, with_key}
use Rattle.rollover_notes.specs.Standing.{group_id_cmp, group_key_cmp, has}
use Rattle.rollover_notes.specs.inside.Putting.{Adds, PutsFirst}

-- a key is given in a group under an identifier
pub record IsGivenMore (group : ℕ) (id : KeyId) (key : ℕ) (old new : Givings) : Type 0 where
  pub ids : PutsFirst group_id_cmp (group_id group id) key old.ids.entries new.ids.entries
  pub groups : Adds group_key_cmp (group, key) old.groups.keys new.groups.keys
  pub order : new.order.items
      ≡ (if has group_key_cmp old.groups.keys (group, key) then old.order.items else with_key key old.order.items)
