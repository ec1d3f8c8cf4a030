-- What a twin stands for after an event that nothing stops.
use Rattle.std.proofs.Common.{◌≡◌, true, false, List, [], ◌∷◌, ◌++◌, Option, Some, None, Result, Ok, Err}
use Rattle.std.proofs.Common.{IsErrAnd, sym, ap, ◌∙◌, subst}
use Rattle.std.specs.Prelude.{option_map}
use Rattle.std.specs.Option.{is_none}
use Rattle.lan_base.specs.declared.frame.UserFrame.{UserFrame}
use Rattle.lan_core.specs.declared.stop.StepError.{StepError}
use Rattle.lan_core.specs.Answers.{IsWhy}
use Rattle.lan_core.proofs.Public.{mapped, chained}
use Rattle.cak_roll.specs.declared.event.GroupNumber.TheVariants.{First, Second}
use Rattle.cak_roll.specs.declared.event.TwinEvent.{TwinEvent}
use Rattle.cak_roll.specs.declared.fault.TwinError.{TwinError}
use Rattle.cak_roll.specs.declared.fault.TwinError.TheVariants.{Failed}
use Rattle.cak_roll.specs.declared.told.Told.{Told}
use Rattle.cak_roll.specs.Twin.{Pair, Twin, TwinHappening, run_of, merged, events_in, IsTwinStep}
use Rattle.cak_roll.specs.Twin.{MayComeTwin}
use Rattle.cak_roll.specs.Stepping.{Supply, first_part, second_part, in_groups, happening, twin_stop}
use Rattle.cak_roll.specs.Unstopped.{IsTypedTwin, IsUnstoppedTwin}
use Rattle.cak_roll.specs.Standing.{AreMembers, Held, IfThere, StandBoth, StandsFor}
use Rattle.cak_roll.specs.Answers.{is_early, MayHappen, GoesOnWith, IsWhyTwin, AnswersTwin}
use Rattle.cak_roll.specs.inside.Turns.{TurnGoes}
use Rattle.cak_roll.proofs.Lone.{lone-stays}
use Rattle.cak_roll.proofs.UnstoppedTwins.{twin-step, twin-fresh}

-- an error is passed on
pub answer-refused : (pair : Pair) (users : List UserFrame) (t : Twin) (event : TwinEvent)
    (before after : Supply) (held : Held) (result : Result (List Told) TwinError)
    (error : StepError) → IsErrAnd result (λ given. given ≡ Failed error)
    → IsWhy (twin_stop pair users t event before) error
    → AnswersTwin pair users t event before after held result
answer-refused pair users t event before after held (Ok told) error is why = absurd is
answer-refused pair users t event before after held (Err given) error is why =
    subst (IsWhyTwin (twin_stop pair users t event before)) (sym is) why

-- where there is no second group, nothing happens in it
pub lone-part : (pair : Pair) (users : List UserFrame) (t : Twin) (held : Held) (event : TwinEvent)
    → StandsFor pair users held t → MayComeTwin users t event → is_early held event ≡ false
    → held.second ≡ None → events_in pair Second t event ≡ []
lone-part pair users t held event stands may there none =
    lone-stays pair users t event may
    (subst (IfThere pair.second users (run_of Second t) (merged t)) none stands.groups.second)
    (λ station is.
    let bad : true ≡ false =
    sym (ap (λ o. is_none o) none) ∙ subst (λ e. is_early held e ≡ false) is there in cc bad)

-- an event shows one happening
pub one-happening : (pair : Pair) (users : List UserFrame) (t : Twin) (event : TwinEvent)
    (before after : Supply) (held : Held) (told : List Told) (x y : TwinHappening)
    → GoesOnWith pair users t event before after held told x
    → happening pair users t event before ≡ Some y → StandsFor pair users held (y ∷ t)
one-happening pair users t event before after held told x y go is =
    subst (λ z. StandsFor pair users held (z ∷ t)) (some-same (sym go.shows ∙ is)) go.stands
  where
    some-same : {A : Type 0} {a b : A} → Some a ≡ Some b → a ≡ b
    some-same e = cc e

module _ (pair : Pair) (users : List UserFrame) (t : Twin) (event : TwinEvent)
    (before after : Supply) (old turned : Held) (told : List Told) (x : TwinHappening)
    (given : Option UserFrame) (stands : StandsFor pair users old t)
    (may : MayHappen users t given event before) (typed : IsTypedTwin event)
    (go : TurnGoes pair users t event (twin_stop pair users t event before) before after turned told x)
  where
    on : IsUnstoppedTwin pair users t event before x
    on = record {
      suites = stands.set_up.suites;
      settings = stands.set_up.settings;
      typed = typed;
      draws = may.draws;
      may_come = may.may_come;
      shows = go.shows;
      goes = go.goes;
    }

    pub is-step : IsTwinStep pair users x t
    is-step = twin-step pair users t event before x stands.legal on

    pub event-is : x.event ≡ event
    event-is =
        let c = chained
        (λ first. option_map (in_groups event first) (second_part pair users t event before))
        (first_part pair users t event before) x go.shows in
        let m = mapped (in_groups event c.0) (second_part pair users t event before) x c.2 in
        ap (λ (y : TwinHappening). y.event) (sym m.2)

    pub goes-on : (new : Held) → turned.settings ≡ old.settings → turned.stopped ≡ old.stopped
        → new ≡ record turned { members = new.members } → AreMembers (x ∷ t) new.members
        → GoesOnWith pair users t event before after new told x
    unfolding run_of merged
    goes-on new kept still is members = record {
      goes = go.goes;
      shows = go.shows;
      tells = go.tells;
      stands = record {
        set_up = record {
          first = ap (λ (h : Held). h.settings) is ∙ kept ∙ stands.set_up.first;
          suites = stands.set_up.suites;
          settings = stands.set_up.settings;
        };
        goes = ap (λ (h : Held). h.stopped) is ∙ still ∙ stands.goes;
        groups = subst (λ h. StandBoth pair users (x.first ++ run_of First t)
            (x.second ++ run_of Second t) (x.second ++ (x.first ++ merged t)) h) (sym is)
            (record { first = go.stands.first; second = go.stands.second; drawn = go.stands.drawn });
        members = members;
        legal = (is-step, stands.legal);
        fresh = twin-fresh pair users t event before x stands.legal on stands.fresh;
      };
      drawn = go.drawn;
    }
