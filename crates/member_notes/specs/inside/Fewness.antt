-- What is kept of a member that sent one MKPDU alone, or has nothing that few have.
use Rattle.std.specs.Prelude.{ℕ, if◌then◌else◌, Bool, [], ◌∷◌, Option, Some, None}
use Rattle.std.specs.Global.{Box}
use Rattle.lan_base.specs.declared.address.Sci.{Sci}
use Rattle.member_notes.specs.declared.claim.Claim.{Claim}
use Rattle.member_notes.specs.declared.facts.Kinds.{Kinds}
use Rattle.member_notes.specs.declared.facts.MemberCounts.{MemberCounts}
use Rattle.member_notes.specs.declared.kept.Notes.{Notes}
use Rattle.member_notes.specs.declared.kept.Notes.TheVariants.{One, More}
use Rattle.member_notes.specs.declared.mkpdu.First.{First}
use Rattle.member_notes.specs.declared.seldom.Seldom.{Seldom}
use Rattle.member_notes.specs.Facts.{times}
use Rattle.member_notes.specs.Speakers.{Speaker}
use Rattle.member_notes.specs.Standing.{KeptOfMember}

abbrev pub kept_of_one : ℕ → First → KeptOfMember
kept_of_one mn first = record { firsts = (mn, first) ∷ []; greatest = Some mn }

abbrev pub kept_in : Notes → KeptOfMember
kept_in (One mn first) = kept_of_one mn first
kept_in (More notes) = notes.value

-- ---- what few have

abbrev pub no_kinds : Kinds
no_kinds = record { fell = times []; servers = times []; returned = times []; high = times [] }

abbrev pub kinds_of : MemberCounts → Kinds
kinds_of c = record { fell = c.fell; servers = c.servers; returned = c.returned; high = c.high }

abbrev pub seldom_in : Option (Box Seldom) → Seldom
seldom_in None = record { kinds = no_kinds; claim = None }
seldom_in (Some seldom) = seldom.value

-- what was kept, with these counts; a new MKPDU renews the claim
abbrev pub renewed : Kinds → Bool → Option Claim → Seldom → Seldom
renewed kinds is_new claim old =
    record { kinds = kinds; claim = if is_new then claim else old.claim }

abbrev pub counts_in : Sci → ℕ → ℕ → ℕ → Kinds → MemberCounts
counts_in sci mkpdus again given kinds = record {
  sci = sci;
  mkpdus = mkpdus;
  again = again;
  given = given;
  fell = kinds.fell;
  servers = kinds.servers;
  returned = kinds.returned;
  high = kinds.high;
}

abbrev pub speaks : Sci → ℕ → ℕ → ℕ → ℕ → Seldom → Speaker
speaks sci mkpdus again given greatest seldom = record {
  counts = counts_in sci mkpdus again given seldom.kinds;
  greatest = greatest;
  claim = seldom.claim;
}
