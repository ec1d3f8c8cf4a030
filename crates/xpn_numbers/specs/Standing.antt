-- What is kept of a history.
use Rattle.std.specs.Prelude.{ℕ, ◌≡◌, List}
use Rattle.std.specs.Map.{lookup}
use Rattle.std.specs.BTreeMap.{is_at}
use Rattle.std.specs.Ordering.{nat_cmp, ordering_then}
use Rattle.std.specs.Cmp.Lexicographic.{slice_cmp}
use Rattle.std.specs.declared.cmp.Ordering.{Ordering}
use Rattle.lan_base.specs.declared.address.Mi.{Mi}
use Rattle.lan_base.specs.declared.address.Sci.{Sci}
use Rattle.lan_base.specs.declared.key_id.KeyId.{KeyId}
use Rattle.lan_base.specs.Identifiers.{order}
use Rattle.xpn_numbers.specs.declared.place.Places.{Places}
use Rattle.xpn_numbers.specs.declared.shown.Said.{Said}
use Rattle.xpn_numbers.specs.History.{Entry, Member, first_key, places, spoken}

abbrev pub use_cmp : ℕ × Sci → ℕ × Sci → Ordering
use_cmp a b = ordering_then (nat_cmp a.0 b.0) (slice_cmp nat_cmp a.1.0 b.1.0)

abbrev pub id_cmp : Mi × ℕ → Mi × ℕ → Ordering
id_cmp a b = ordering_then (order a.0 b.0) (nat_cmp a.1 b.1)

-- an identifier in a group
abbrev pub GroupId : Type 0
GroupId = ℕ × (Mi × ℕ)

abbrev pub group_id_cmp : GroupId → GroupId → Ordering
group_id_cmp a b = ordering_then (nat_cmp a.0 b.0) (id_cmp a.1 b.1)

abbrev pub group_id : ℕ → KeyId → GroupId
group_id group id = (group, (id.server, id.number))

pub record Kept : Type 0 where
  pub uses : List ((ℕ × Sci) × Places)
  pub ids : List (GroupId × ℕ)
  pub members : List (Member × Said)

pub record StandsFor (history : List Entry) (kept : Kept) : Type 0 where
  pub uses : (key : ℕ) (sci : Sci)
      → lookup (is_at (use_cmp (key, sci))) kept.uses ≡ places key sci history
  pub ids : (group : ℕ) (id : KeyId)
      → lookup (is_at (group_id_cmp (group_id group id))) kept.ids ≡ first_key group id history
  pub members : kept.members ≡ spoken history
