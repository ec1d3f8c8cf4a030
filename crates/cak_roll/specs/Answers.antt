-- What a twin answers to an event: it goes on, or says why not. And what a second group is refused
-- for.
use Rattle.std.specs.Prelude.{◌≡◌, ℕ, ◌+◌, ◌==◌, ◌||◌, if◌then◌else◌, nat_eq, nat_lt, List, []}
use Rattle.std.specs.Prelude.{◌∷◌, ◌++◌, length, Option, Some, None, is_some, Result, Ok, Err}
use Rattle.std.specs.Prelude.{Bool, false}
use Rattle.std.specs.Option.{is_none}
use lib.Pointwise.{pointwise}
use Rattle.lan_base.specs.declared.frame.UserFrame.{UserFrame}
use Rattle.lan_base.specs.Ranges.{most_ckn_octets}
use Rattle.aes_block.specs.declared.secret.Secret.{Secret}
use Rattle.lan_core.specs.declared.settings.Settings.{Settings}
use Rattle.lan_core.specs.declared.stop.Stop.{Stop}
use Rattle.lan_core.specs.Run.{Run}
use Rattle.lan_core.specs.Claims.{user_at}
use Rattle.lan_core.specs.Unstopped.{AreDraws}
use Rattle.lan_core.specs.Answers.{IsWhy}
use Rattle.cak_roll.specs.declared.event.GroupNumber.{GroupNumber}
use Rattle.cak_roll.specs.declared.event.GroupNumber.TheVariants.{First, Second}
use Rattle.cak_roll.specs.declared.event.TwinEvent.{TwinEvent}
use Rattle.cak_roll.specs.declared.event.TwinEvent.TheVariants as twins
use Rattle.cak_roll.specs.declared.fault.SecondFault.{SecondFault}
use Rattle.cak_roll.specs.declared.fault.SecondFault.TheVariants.{CknLength, SameCkn, Twice}
use Rattle.cak_roll.specs.declared.fault.TwinError.{TwinError}
use Rattle.cak_roll.specs.declared.fault.TwinError.TheVariants.{Failed, NoSecond}
use Rattle.cak_roll.specs.declared.told.Told.{Told}
use Rattle.cak_roll.specs.Twin.{Pair, Twin, TwinHappening, MayComeTwin}
use Rattle.cak_roll.specs.Stepping.{Supply, happening, twin_stop, twin_draws}
use Rattle.cak_roll.specs.Standing.{Held, StandsFor}

-- ---- a second group

-- another group with the same settings
abbrev pub another : Settings → Secret → List ℕ → Settings
another settings cak ckn = record settings { cak = cak; ckn = ckn }

-- why a second group is refused: the first of these
abbrev pub second_fault : Held → List ℕ → Option SecondFault
second_fault held ckn =
    if (length ckn == 0) || nat_lt most_ckn_octets (length ckn) then Some CknLength
    else if pointwise nat_eq ckn held.settings.ckn then Some SameCkn
    else if is_some held.second then Some Twice
    else None

-- ---- what is told

-- what events of a group showed, oldest first
abbrev pub told_of : GroupNumber → Run → List Told
told_of g [] = []
told_of g (y ∷ ys) = told_of g ys ++ record { group = g; facts = y.facts } ∷ []

-- what an event showed in both groups, the first before the second
abbrev pub told_in : TwinHappening → List Told
told_in x = told_of First x.first ++ told_of Second x.second

-- ---- a step

-- a user frame that is sent is given
abbrev pub IsGiven : List UserFrame → Option UserFrame → TwinEvent → Type 0
IsGiven users given (twins.Send station user) = given ≡ user_at users user
IsGiven users given _ = Unit {0}

-- an event may happen after a twin run, with the user frame that is given with it, and the draws of
-- a supply
pub record MayHappen (users : List UserFrame) (t : Twin) (given : Option UserFrame)
    (event : TwinEvent) (nth : Supply) : Type 0 where
  pub may_come : MayComeTwin users t event
  pub gives : IsGiven users given event
  pub draws : AreDraws nth

-- a station adopts a second group that isn't there
abbrev pub is_early : Held → TwinEvent → Bool
is_early held (twins.Adopt station) = is_none held.second
is_early held _ = false

-- why a step fails, unless there is no second group: it is the first stop, unless memory ran out
abbrev pub IsWhyTwin : Option Stop → TwinError → Type 0
IsWhyTwin first (Failed error) = IsWhy first error
IsWhyTwin first NoSecond = Unit {0}

-- a step goes on with this happening, and leaves this twin and this supply
pub record GoesOnWith (pair : Pair) (users : List UserFrame) (t : Twin) (event : TwinEvent)
    (before after : Supply) (held : Held) (told : List Told) (x : TwinHappening) : Type 0 where
  pub goes : twin_stop pair users t event before ≡ None
  pub shows : happening pair users t event before ≡ Some x
  pub tells : told ≡ told_in x
  pub stands : StandsFor pair users held (x ∷ t)
  pub drawn : (k : ℕ) → after k ≡ before (k + twin_draws pair t event)

-- a step goes on, or fails at the first stop, or for want of memory, or there is no second group
abbrev pub AnswersTwin : Pair → List UserFrame → Twin → TwinEvent → Supply → Supply → Held
    → Result (List Told) TwinError → Type 0
AnswersTwin pair users t event before after held (Ok told) =
    (x : TwinHappening) × GoesOnWith pair users t event before after held told x
AnswersTwin pair users t event before after held (Err error) =
    IsWhyTwin (twin_stop pair users t event before) error
