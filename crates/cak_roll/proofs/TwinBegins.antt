-- A twin to which nothing happened, and one that gets a second group.
use Rattle.std.proofs.Common.{◌≡◌, ◌==◌, ◌||◌, ℕ, Bool, true, false, List, [], cond, length}
use Rattle.std.proofs.Common.{Option, Some, None, refl, sym, ap, ◌∙◌, subst}
use Rattle.std.specs.Prelude.{nat_eq, nat_lt, is_some}
use lib.Pointwise.{pointwise}
use Rattle.lan_base.specs.Ranges.{most_ckn_octets}
use Rattle.lan_base.specs.declared.frame.UserFrame.{UserFrame}
use Rattle.lan_base.specs.declared.suite.Suite.{Suite}
use Rattle.aes_block.specs.declared.secret.Secret.{Secret}
use Rattle.aes_block.specs.declared.secret.Secret.TheVariants.{S128, S256}
use Rattle.lan_core.specs.declared.settings.Settings.{Settings}
use Rattle.lan_core.specs.Run.{Run}
use Rattle.lan_core.specs.Ledgers.{births}
use Rattle.lan_core.specs.Types.{IsSetting}
use Rattle.lan_core.specs.Fresh.{IsFresh, drawn_saks}
use Rattle.lan_core.specs.Stops.{draws_in, mi_number, sak_number}
use Rattle.lan_core.specs.Standing.{AreDrawn, number_of_sak}
use Rattle.cak_roll.specs.declared.event.GroupNumber.{GroupNumber}
use Rattle.cak_roll.specs.declared.event.GroupNumber.TheVariants.{First, Second}
use Rattle.cak_roll.specs.Twin.{Pair, setting_of, Twin, run_of, merged}
use Rattle.cak_roll.specs.Standing.{Side, StandsIn, Held, IfThere, AreMembers}
use Rattle.cak_roll.specs.Standing.{StandsFor}
use Rattle.cak_roll.specs.declared.fault.SecondFault.TheVariants.{CknLength, SameCkn, Twice}
use Rattle.cak_roll.specs.Answers.{another, second_fault}
use Rattle.cak_roll.proofs.Lone.{lone-run}

none-drawn : (suite : Suite)
    → AreDrawn suite [] (record { count = 0; mis = []; narrow = []; wide = [] })
unfolding draws_in mi_number sak_number
none-drawn suite = record { count = refl; mis = λ mi. refl; saks = none }
  where
    none : (sak : Secret) → number_of_sak (record { count = 0; mis = []; narrow = []; wide = [] }) sak
        ≡ sak_number suite [] sak
    none (S128 octets) = refl
    none (S256 octets) = refl

none-fresh : IsFresh []
unfolding births drawn_saks
none-fresh = record { mis = tt; saks = tt }

pub begins : (settings : Settings) (users : List UserFrame) (held : Held)
    → held.settings ≡ settings → held.stopped ≡ None → StandsIn settings users [] [] held.first
    → held.second ≡ None → AreMembers [] held.members
    → held.drawn ≡ record { count = 0; mis = []; narrow = []; wide = [] }
    → StandsFor (record { first = settings; second = settings }) users held []
unfolding run_of merged
begins settings users held kept still first second members drawn = record {
  set_up = record { first = kept; suites = refl; settings = λ g. each g };
  goes = still;
  groups = record {
    first = first;
    second = subst (IfThere settings users [] []) (sym second) refl;
    drawn = subst (AreDrawn settings.suite []) (sym drawn) (none-drawn settings.suite);
  };
  members = members;
  legal = tt;
  fresh = none-fresh;
}
  where
    each : (g : GroupNumber) → IsSetting (setting_of (record { first = settings; second = settings }) g)
    each First = first.lan.setting
    each Second = first.lan.setting

pub begins-second : (pair : Pair) (users : List UserFrame) (old new : Held) (t : Twin)
    (cak : Secret) (ckn : List ℕ) (side : Side) (there : Option Side) → StandsFor pair users old t
    → old.second ≡ None
    → ((whole : Run) → StandsIn (another pair.first cak ckn) users [] whole side)
    → there ≡ Some side → new ≡ record old { second = there }
    → StandsFor (record pair { second = another pair.first cak ckn }) users new t
begins-second pair users old new t cak ckn side there stands none second at is =
    subst (λ h. StandsFor (record pair { second = another pair.first cak ckn }) users h t)
    (sym (is ∙ ap (λ o. record old { second = o }) at))
    (record {
      set_up = record { first = stands.set_up.first; suites = refl; settings = λ g. each g };
      goes = stands.goes;
      groups = record {
        first = stands.groups.first;
        second = subst (λ r. StandsIn (another pair.first cak ckn) users r (merged t) side)
            (sym empty) (second (merged t));
        drawn = stands.groups.drawn;
      };
      members = stands.members;
      legal = lone-run pair (another pair.first cak ckn) users t stands.legal empty;
      fresh = stands.fresh;
    })
  where
    empty : run_of Second t ≡ []
    empty = subst (IfThere pair.second users (run_of Second t) (merged t)) none stands.groups.second

    each : (g : GroupNumber)
        → IsSetting (setting_of (record pair { second = another pair.first cak ckn }) g)
    each First = stands.set_up.settings First
    each Second = (second []).lan.setting

-- where nothing is refused, there was no second group
pub no-fault : (held : Held) (ckn : List ℕ) → second_fault held ckn ≡ None → held.second ≡ None
no-fault held ckn none =
    go ((length ckn == 0) || nat_lt most_ckn_octets (length ckn))
    (pointwise nat_eq ckn held.settings.ckn) held.second none
  where
    go : (b c : Bool) (o : Option Side) → cond b (Some CknLength)
        (cond c (Some SameCkn) (cond (is_some o) (Some Twice) None)) ≡ None → o ≡ None
    go true c o none = absurd (cc none)
    go false true o none = absurd (cc none)
    go false false None none = refl
    go false false (Some side) none = absurd (cc none)

-- what a group with no station stands for, by what its settings are
pub stands-alone : (settings other : Settings) (users : List UserFrame) (side : Side)
    → settings ≡ other → ((whole : Run) → StandsIn settings users [] whole side)
    → (whole : Run) → StandsIn other users [] whole side
stands-alone settings other users side same stands whole =
    subst (λ s. StandsIn s users [] whole side) same (stands whole)
