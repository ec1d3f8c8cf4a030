-- What a twin holds, and for which twin runs it stands: the only place that knows of tables and
-- counts.
use Rattle.std.specs.Prelude.{◌≡◌, ℕ, ◌-◌, ◌==◌, ◌&&◌, Bool, List, [], map, length, slice_get}
use Rattle.std.specs.Prelude.{Option, Some, None}
use Rattle.std.specs.List.{list_any}
use Rattle.lan_base.specs.declared.address.Mi.{Mi}
use Rattle.lan_base.specs.declared.frame.UserFrame.{UserFrame}
use Rattle.lan_base.specs.declared.suite.Suite.{Suite}
use Rattle.aes_block.specs.declared.secret.Secret.{Secret}
use Rattle.lan_core.specs.declared.settings.Settings.{Settings}
use Rattle.lan_core.specs.Run.{Run, Profile, stations}
use Rattle.lan_core.specs.Types.{IsSetting}
use Rattle.lan_core.specs.Fresh.{IsFresh}
use Rattle.lan_core.specs.Stops.{draws_in, mi_number, sak_number}
use Rattle.lan_core.specs.Standing.{State, StandsFor as GroupStandsFor, Numbers, AreDrawn}
use Rattle.next_numbers.specs.Numbers.{TellNext}
use Rattle.cak_roll.specs.declared.fault.TwinError.{TwinError}
use Rattle.cak_roll.specs.declared.event.GroupNumber.{GroupNumber}
use Rattle.cak_roll.specs.declared.event.GroupNumber.TheVariants.{First, Second}
use Rattle.cak_roll.specs.declared.members.Station.{Station}
use Rattle.cak_roll.specs.declared.members.Leaver.{Leaver}
use Rattle.cak_roll.specs.Twin.{Pair, setting_of, Twin, run_of, merged, same_group}
use Rattle.cak_roll.specs.Twin.{adopters, has_left, IsTwinRun}

-- ---- one of the groups

-- a group, its next packet numbers, and for each of its draws the number, over both groups, of the
-- first draw of what it gave
pub record Side : Type 0 where
  pub suite : Suite
  pub lan : State
  pub numbers : List (List ℕ)
  pub draws : List ℕ

-- what was drawn in a run was drawn in another, under these numbers there
pub record AreTraced (suite : Suite) (r whole : Run) (draws : List ℕ) : Type 0 where
  pub count : length draws ≡ draws_in suite r
  pub mis : (mi : Mi) (own : ℕ) → mi_number suite r mi ≡ Some own
      → (over : ℕ) × (slice_get draws (own - 1) ≡ Some over)
      × (mi_number suite whole mi ≡ Some over)
  pub saks : (sak : Secret) (own : ℕ) → sak_number suite r sak ≡ Some own
      → (over : ℕ) × (slice_get draws (own - 1) ≡ Some over)
      × (sak_number suite whole sak ≡ Some over)

-- a side stands for a run of its group, among the events of both
pub record StandsIn (settings : Settings) (users : List UserFrame) (r whole : Run) (side : Side) :
    Type 0 where
  pub suite : side.suite ≡ settings.suite
  pub lan : GroupStandsFor settings users side.lan r
  pub numbers : TellNext settings r side.numbers
  pub draws : AreTraced settings.suite r whole side.draws

-- ---- who is where

-- what contracts see of the members: the stations as they started, which of them adopted the second
-- group, and who left a group
pub record Members : Type 0 where
  pub stations : List Station
  pub adopters : List ℕ
  pub leavers : List Leaver

-- what a station starts with
abbrev pub profile_of : Station → Profile
profile_of s = record { name = s.name; sci = s.sci; priority = s.priority }

-- whether a station left a group
abbrev pub is_leaver : GroupNumber → ℕ → Leaver → Bool
is_leaver g s l = same_group l.group g && (l.station == s)

-- they are those of a twin run
pub record AreMembers (t : Twin) (members : Members) : Type 0 where
  pub stations : map profile_of members.stations ≡ stations (run_of First t)
  pub adopters : members.adopters ≡ adopters t
  pub leavers : (g : GroupNumber) (s : ℕ)
      → list_any (is_leaver g s) members.leavers ≡ has_left g s t

-- ---- both

-- what contracts see of a twin; why it was stopped, if it was
pub record Held : Type 0 where
  pub settings : Settings
  pub stopped : Option TwinError
  pub first : Side
  pub second : Option Side
  pub members : Members
  pub drawn : Numbers

-- the second group stands for its run, or is not there, and nothing happened in it
abbrev pub IfThere : Settings → List UserFrame → Run → Run → Option Side → Type 0
IfThere settings users r whole None = r ≡ []
IfThere settings users r whole (Some side) = StandsIn settings users r whole side

-- Both groups stand for runs, and what was drawn in both is noted.
pub record StandBoth (pair : Pair) (users : List UserFrame) (r s whole : Run) (held : Held) :
    Type 0 where
  pub first : StandsIn pair.first users r whole held.first
  pub second : IfThere pair.second users s whole held.second
  pub drawn : AreDrawn pair.first.suite whole held.drawn

-- what is set up may be, and both groups have one cipher suite
pub record IsSetUp (pair : Pair) (held : Held) : Type 0 where
  pub first : held.settings ≡ pair.first
  pub suites : pair.second.suite ≡ pair.first.suite
  pub settings : (g : GroupNumber) → IsSetting (setting_of pair g)

-- A twin stands for a twin run: it is not stopped, and both groups stand for their runs. What was
-- drawn in both differs, so that the laws of twin runs apply.
pub record StandsFor (pair : Pair) (users : List UserFrame) (held : Held) (t : Twin) : Type 0 where
  pub set_up : IsSetUp pair held
  pub goes : held.stopped ≡ None
  pub groups : StandBoth pair users (run_of First t) (run_of Second t) (merged t) held
  pub members : AreMembers t held.members
  pub legal : IsTwinRun pair users t
  pub fresh : IsFresh (merged t)
