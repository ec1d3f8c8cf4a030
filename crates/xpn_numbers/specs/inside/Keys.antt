-- The keys of identifiers, as they are kept.
use Rattle.std.specs.Prelude.{ℕ, List, Option}
use Rattle.std.specs.Map.{lookup}
use Rattle.std.specs.BTreeMap.{is_at}
use Rattle.lan_base.specs.declared.key_id.KeyId.{KeyId}
use Rattle.xpn_numbers.specs.Standing.{GroupId, group_id, group_id_cmp}

-- the key of an identifier in a group
abbrev pub key_in : List (GroupId × ℕ) → ℕ → KeyId → Option ℕ
key_in ids group id = lookup (is_at (group_id_cmp (group_id group id))) ids
