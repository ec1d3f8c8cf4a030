-- What is kept of right MKPDUs.
use Rattle.std.specs.Prelude.{ℕ, ◌≡◌, nat_lt, Bool, true, List, [], Option, Some, None}
use Rattle.std.specs.Map.{lookup}
use Rattle.std.specs.BTreeMap.{is_at}
use Rattle.std.specs.Ordering.{nat_cmp, ordering_then}
use Rattle.std.specs.declared.cmp.Ordering.{Ordering}
use Rattle.lan_base.specs.declared.address.Mi.{Mi}
use Rattle.lan_base.specs.Identifiers.{order}
use Rattle.member_notes.specs.declared.mkpdu.RightMkpdu.{RightMkpdu}
use Rattle.member_notes.specs.declared.mkpdu.First.{First}
use Rattle.member_notes.specs.Mkpdus.{mkpdus_of, first_of, is_above}

-- of a member: by message number the first MKPDU, and the greatest message number
pub record KeptOfMember : Type 0 where
  pub firsts : List (ℕ × First)
  pub greatest : Option ℕ

abbrev pub above_all : ℕ → Option ℕ → Bool
above_all mn None = true
above_all mn (Some greatest) = nat_lt greatest mn

-- after these MKPDUs of the member
pub record Keeps (ms : List RightMkpdu) (kept : KeptOfMember) : Type 0 where
  pub firsts : (mn : ℕ) → lookup (is_at (nat_cmp mn)) kept.firsts ≡ first_of mn ms
  pub greatest : (mn : ℕ) → above_all mn kept.greatest ≡ is_above mn ms

-- a group and an MI
abbrev pub member_cmp : ℕ × Mi → ℕ × Mi → Ordering
member_cmp a b = ordering_then (nat_cmp a.0 b.0) (order a.1 b.1)

-- by member what is kept
abbrev pub Members : Type 0
Members = List ((ℕ × Mi) × KeptOfMember)

abbrev pub kept_at : Members → ℕ → Mi → Option KeptOfMember
kept_at members group mi = lookup (is_at (member_cmp (group, mi))) members

abbrev pub KeepsSome : List RightMkpdu → Option KeptOfMember → Type 0
KeepsSome ms None = ms ≡ []
KeepsSome ms (Some kept) = Keeps ms kept

abbrev pub StandsFor : List RightMkpdu → Members → Type 0
StandsFor h members =
    (group : ℕ) (mi : Mi) → KeepsSome (mkpdus_of group mi h) (kept_at members group mi)
