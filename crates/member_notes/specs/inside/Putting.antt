-- How what is kept of a member is put.
use Rattle.std.specs.Prelude.{ℕ, ◌≡◌, ◌≢◌, Some, List}
use Rattle.std.specs.Map.{lookup}
use Rattle.std.specs.BTreeMap.{is_at}
use Rattle.lan_base.specs.declared.address.Mi.{Mi}
use Rattle.member_notes.specs.declared.mkpdu.RightMkpdu.{RightMkpdu}
use Rattle.member_notes.specs.Standing.{KeptOfMember, Keeps, Members, member_cmp}

-- what stands for these MKPDUs is found under a member, and what is found under others is as it was
pub record IsPutAt (at : ℕ × Mi) (ms : List RightMkpdu) (old new : Members) : Type 0 where
  pub kept : KeptOfMember
  pub here : lookup (is_at (member_cmp at)) new ≡ Some kept
  pub keeps : Keeps ms kept
  pub others : (other : ℕ × Mi) → other ≢ at
      → lookup (is_at (member_cmp other)) new ≡ lookup (is_at (member_cmp other)) old
