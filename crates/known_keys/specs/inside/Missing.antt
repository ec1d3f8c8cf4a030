-- How what says why a frame is undecided changes, and what is asked of it.
use Rattle.std.specs.Prelude.{ℕ, ◌≡◌, ◌≤◌, ◌&&◌, ◌⊎◌, nat_lt, not, Bool, true, false, if◌then◌else◌, List, Option, Some, None}
use Rattle.std.specs.List.{list_any}
use Rattle.std.specs.Option.{option_or}
use Rattle.std.specs.BTreeMap.{is_at}
use Rattle.lan_base.specs.declared.address.Sci.{Sci}
use Rattle.lan_base.specs.declared.association_number.AssociationNumber.{AssociationNumber}
use Rattle.lan_base.specs.declared.association_number.AssociationNumber.TheVariants.{An0, An1, An2, An3}
use Rattle.lan_base.specs.AssociationNumbers.{same_an}
use Rattle.mkpdu_codec.specs.declared.offset.ConfidentialityOffset.{ConfidentialityOffset}
use Rattle.known_keys.specs.declared.giving.NoSak.{NoSak}
use Rattle.known_keys.specs.declared.giving.NoSak.TheVariants.{OtherSuite, WrongWrap}
use Rattle.known_keys.specs.declared.reason.Reason.{Reason}
use Rattle.known_keys.specs.Undecided.{GroupId, is_for, same_no_sak}
use Rattle.lan_base.specs.Instants.{is_recent}
use Rattle.known_keys.specs.Maps.{IsCoveredBy, IsIn, Missed, NamedTimes, Offsets, group_id_cmp, has, offset_at, sci_cmp, times_under}
use Rattle.known_keys.specs.inside.Sets.{Adds}

-- ---- what is named

abbrev pub is_later : Option ℕ → ℕ → Bool
is_later None nanos = true
is_later (Some before) nanos = nat_lt before nanos

-- an identifier is named at a time
pub record IsNamedMore (it : GroupId) (nanos : ℕ) (old new : List (GroupId × ℕ)) : Type 0 where
  pub kept : IsCoveredBy old new
  pub here : (y : GroupId × ℕ) × (IsIn new y × ((y.0 ≡ it) × (nanos ≤ y.1)))
  pub only : (y : GroupId × ℕ) → IsIn new y → (y ≡ (it, nanos)) ⊎ IsIn old y

-- this is so, or all is as it was
abbrev pub NamesIf : Bool → GroupId → ℕ → List (GroupId × ℕ) → List (GroupId × ℕ) → Type 0
NamesIf true it nanos old new = IsNamedMore it nanos old new
NamesIf false it nanos old new = new ≡ old

pub record IsNamedUnder (an : AssociationNumber) (it : GroupId) (nanos : ℕ) (old new : NamedTimes) : Type 0
  where
    pub an0 : NamesIf (same_an an An0) it nanos old.an0 new.an0
    pub an1 : NamesIf (same_an an An1) it nanos old.an1 new.an1
    pub an2 : NamesIf (same_an an An2) it nanos old.an2 new.an2
    pub an3 : NamesIf (same_an an An3) it nanos old.an3 new.an3

-- ---- what is given

-- a SAK of an identifier is given: the first one's offset is kept
abbrev pub PutsFirst : GroupId → ConfidentialityOffset → Offsets → Offsets → Type 0
PutsFirst it offset old new = (q : GroupId)
    → offset_at new q ≡ option_or (offset_at old q) (if is_at (group_id_cmp it) q then Some offset else None)

pub record IsOffered (an : AssociationNumber) (it : GroupId) (nanos : ℕ) (offset : ConfidentialityOffset)
    (old new : Missed) : Type 0 where
  pub named : IsNamedUnder an it nanos old.named new.named
  pub offsets : PutsFirst it offset old.offsets new.offsets
  pub suites : new.suites ≡ old.suites
  pub wraps : new.wraps ≡ old.wraps
  pub strange : new.strange ≡ old.strange

-- an identifier is shown
pub record IsShown (an : AssociationNumber) (it : GroupId) (nanos : ℕ) (old new : Missed) : Type 0 where
  pub named : IsNamedUnder an it nanos old.named new.named
  pub offsets : new.offsets ≡ old.offsets
  pub suites : new.suites ≡ old.suites
  pub wraps : new.wraps ≡ old.wraps
  pub strange : new.strange ≡ old.strange

-- a packet of an unknown key name is of this sender
pub record IsStranger (sci : Sci) (old new : Missed) : Type 0 where
  pub strange : Adds sci_cmp sci old.strange new.strange
  pub offsets : new.offsets ≡ old.offsets
  pub suites : new.suites ≡ old.suites
  pub wraps : new.wraps ≡ old.wraps
  pub named : new.named ≡ old.named

abbrev pub AddsIf : Bool → GroupId → List GroupId → List GroupId → Type 0
AddsIf true it old new = Adds group_id_cmp it old new
AddsIf false it old new = new ≡ old

abbrev pub without_of : Missed → NoSak → List GroupId
without_of misses OtherSuite = misses.suites
without_of misses WrongWrap = misses.wraps

-- an identifier is given without a SAK, and whether that is new is answered
pub record IsWithheld (an : AssociationNumber) (it : GroupId) (nanos : ℕ) (why : NoSak) (old new : Missed)
    (is_first : Bool) : Type 0 where
  pub named : IsNamedUnder an it nanos old.named new.named
  pub offsets : new.offsets ≡ old.offsets
  pub suites : AddsIf (same_no_sak why OtherSuite) it old.suites new.suites
  pub wraps : AddsIf (same_no_sak why WrongWrap) it old.wraps new.wraps
  pub strange : new.strange ≡ old.strange
  pub first : is_first ≡ not (has group_id_cmp (without_of old why) it)

-- ---- what is asked

-- this reason holds for an identifier, by what is kept of it
abbrev pub is_lacking : Reason → Missed → GroupId → Bool
is_lacking reason misses it = is_for reason (offset_at misses.offsets it) (has group_id_cmp misses.suites it)

-- it holds for one that was named
abbrev pub is_one_lacking : Missed → AssociationNumber → ℕ → Reason → Bool
is_one_lacking misses an now reason =
    list_any (λ it. is_recent it.1 now && is_lacking reason misses it.0) (times_under misses.named an)
