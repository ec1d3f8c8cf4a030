-- What an event of both groups is in one of them is ready to be performed there.
use Rattle.std.proofs.Common.{◌≡◌, inl, inr, ◌==◌, ℕ, Bool, true, false, List, [], ◌∷◌, cond}
use Rattle.std.proofs.Common.{Option, Some, None, refl, sym, subst}
use Rattle.std.specs.Prelude.{slice_get, option_map, option_to_list}
use Rattle.lan_base.specs.declared.frame.UserFrame.{UserFrame}
use Rattle.sak_exchange.specs.declared.held_key.Key.{Key}
use Rattle.lan_core.specs.declared.event.Event.{Event}
use Rattle.lan_core.specs.declared.event.Event.TheVariants as events
use Rattle.lan_core.specs.declared.settings.Settings.{Settings}
use Rattle.lan_core.specs.Run.{Run, Profile, stations}
use Rattle.lan_core.specs.Lives.{transmitting_at}
use Rattle.lan_core.specs.Claims.{user_at}
use Rattle.lan_core.specs.Stops.{MayCome, IsDemanded}
use Rattle.next_numbers.specs.Numbers.{ShowsNext}
use Rattle.cak_roll.specs.declared.event.GroupNumber.{GroupNumber}
use Rattle.cak_roll.specs.declared.event.GroupNumber.TheVariants.{First, Second}
use Rattle.cak_roll.specs.declared.event.TwinEvent.{TwinEvent}
use Rattle.cak_roll.specs.declared.event.TwinEvent.TheVariants as twins
use Rattle.cak_roll.specs.declared.part.Part.{Part}
use Rattle.cak_roll.specs.declared.part.Part.TheVariants.{Nothing, One, Sent}
use Rattle.cak_roll.specs.Twin.{Pair, Twin, setting_of, run_of, events_in, only, same_group}
use Rattle.cak_roll.specs.Twin.{takes_part, place_in, next_in, claimed_in, carrier, start_of, IsTwinRun}
use Rattle.cak_roll.specs.Unstopped.{IsTypedTwin}
use Rattle.cak_roll.specs.Answers.{MayHappen, IsGiven}
use Rattle.cak_roll.specs.Stepping.{Supply}
use Rattle.cak_roll.specs.inside.Parts.{events_of_part, IsReadyEvent, IsReadyPart}
use Rattle.cak_roll.proofs.PartSteps.{IsPlainly}
use Rattle.cak_roll.proofs.PartsOn.{AreReady, nothing, single, sending}
use Rattle.cak_roll.proofs.Ready.{ready}

-- ---- what is given

-- a claim is given its user frame, and shows no number; a tick shows the next number
abbrev IsFit : Settings → List UserFrame → Run → Option UserFrame → Event → Type 0
IsFit settings users r given (events.Claim s user pn) = given ≡ user_at users user
IsFit settings users r given (events.Tick s shown) = ShowsNext settings r (events.Tick s shown)
IsFit settings users r given _ = Unit {0}

abbrev AreFit : Settings → List UserFrame → Run → Option UserFrame → List Event → Type 0
AreFit settings users r given [] = Unit {0}
AreFit settings users r given (e ∷ es) =
    IsFit settings users r given e × AreFit settings users r given es

fit-only : (settings : Settings) (users : List UserFrame) (r : Run) (given : Option UserFrame)
    (b : Bool) (e : Event) → IsFit settings users r given e
    → AreFit settings users r given (only b (e ∷ []))
fit-only settings users r given true e fit = (fit, tt)
fit-only settings users r given false e fit = tt

fit-start : (settings : Settings) (users : List UserFrame) (r : Run) (given : Option UserFrame)
    (o : Option Profile) → AreFit settings users r given (option_to_list (option_map start_of o))
fit-start settings users r given None = tt
fit-start settings users r given (Some p) = (tt, tt)

fit-sent : (settings : Settings) (users : List UserFrame) (r : Run) (given : Option UserFrame)
    (b c : Bool) (s user pn : ℕ) → given ≡ user_at users user
    → AreFit settings users r given (only b (cond c (events.Claim s user pn ∷ [])
    (events.Emit ∷ events.Claim s user pn ∷ [])))
fit-sent settings users r given true true s user pn is = (is, tt)
fit-sent settings users r given true false s user pn is = (tt, (is, tt))
fit-sent settings users r given false c s user pn is = tt

fit-in : (pair : Pair) (users : List UserFrame) (t : Twin) (g : GroupNumber)
    (given : Option UserFrame) (e : TwinEvent) → IsGiven users given e
    → AreFit (setting_of pair g) users (run_of g t) given (events_in pair g t e)
fit-in pair users t First given (twins.Start name sci priority) gives = (tt, tt)
fit-in pair users t Second given (twins.Start name sci priority) gives = tt
fit-in pair users t First given (twins.Adopt station) gives = tt
fit-in pair users t Second given (twins.Adopt station) gives =
    fit-start pair.second users (run_of Second t) given
    (slice_get (stations (run_of First t)) station)
fit-in pair users t g given (twins.Leave station group) gives = tt
fit-in pair users t g given (twins.Tick station group) gives =
    fit-only (setting_of pair g) users (run_of g t) given (same_group group g)
    (events.Tick (place_in g station t) (next_in pair g station t)) refl
fit-in pair users t g given (twins.Deliver group frame station) gives =
    fit-only (setting_of pair g) users (run_of g t) given (same_group group g)
    (events.Deliver frame (place_in g station t)) tt
fit-in pair users t g given (twins.Restart station) gives =
    fit-only (setting_of pair g) users (run_of g t) given (takes_part g station t)
    (events.Restart (place_in g station t)) tt
fit-in pair users t g given (twins.Send station user) gives =
    fit-sent (setting_of pair g) users (run_of g t) given (same_group (carrier pair station t) g)
    (claimed_in pair g station t == 0) (place_in g station t) user (claimed_in pair g station t) gives

-- ---- an event that is ready

demanded : (settings : Settings) (s : ℕ) (r : Run) (pn : ℕ) (old given named : Option UserFrame)
    (k : Option Key) → given ≡ named → IsDemanded settings s r pn old named k
    → IsDemanded settings s r pn given named k
demanded settings s r pn old given named None is demand = demand
demanded settings s r pn old given named (Some k) is (inl none) = inl none
demanded settings s r pn old given named (Some k) is (inr (some, above, below, same)) =
    inr (some, above, below, is)

ready-event : (settings : Settings) (users : List UserFrame) (r : Run)
    (old given : Option UserFrame) (e : Event) → MayCome settings users r old e → IsPlainly e
    → IsFit settings users r given e → IsReadyEvent settings users r given e
ready-event settings users r old given (events.Start name sci priority) may plain fit =
    record { may_come = may; homely = tt; next = tt }
ready-event settings users r old given (events.Tick s shown) may plain fit =
    record { may_come = may; homely = tt; next = fit }
ready-event settings users r old given (events.Deliver frame s) may plain fit =
    record { may_come = may; homely = tt; next = tt }
ready-event settings users r old given (events.Restart s) may plain fit =
    record { may_come = may; homely = tt; next = tt }
ready-event settings users r old given (events.Claim s user pn) (there, sendable, demand) plain fit =
    record {
      may_come = (
        there,
        sendable,
        demanded settings s r pn old given (user_at users user) (transmitting_at settings s r) fit
            demand,
      );
      homely = tt;
      next = tt;
    }
ready-event settings users r old given events.Emit may plain fit =
    record { may_come = may; homely = tt; next = tt }
ready-event settings users r old given (events.Inject s octets) may plain fit = absurd plain

-- ---- a part that is ready

first-same : {A : Type 0} {a b : A} {as' bs : List A} → a ∷ as' ≡ b ∷ bs → a ≡ b
first-same e = cc e

part-ready : (settings : Settings) (users : List UserFrame) (r : Run) (given : Option UserFrame)
    (p : Part) (es : List Event) → AreReady settings users r es
    → AreFit settings users r given es → events_of_part p ≡ es
    → IsReadyPart settings users r given p
part-ready settings users r given Nothing es are fit is = tt
part-ready settings users r given (One e) es nothing fit is = absurd (cc is)
part-ready settings users r given (One e) es (single f old typed may plain) (fit, none) is =
    subst (IsReadyEvent settings users r given) (sym (first-same is))
    (ready-event settings users r old given f may plain fit)
part-ready settings users r given (One e) es (sending s user pn old typed may some turn) fit is =
    absurd (cc is)
part-ready settings users r given (Sent s user pn) es nothing fit is = absurd (cc is)
part-ready settings users r given (Sent s user pn) es (single f old typed may plain) fit is =
    absurd (cc is)
part-ready settings users r given (Sent s user pn) es (sending s' user' pn' old typed may some turn)
    (none, (fit, rest)) is =
    subst (λ e. IsReadyPart settings users r given (part_of e)) (sym claim) (
      ready-event settings users r old given (events.Claim s' user' pn') may tt fit,
      some,
    )
  where
    claim : events.Claim s user pn ≡ events.Claim s' user' pn'
    claim = cc is

    part_of : Event → Part
    part_of (events.Claim s user pn) = Sent s user pn
    part_of _ = Nothing

pub ready-part : (pair : Pair) (users : List UserFrame) (t : Twin) (g : GroupNumber)
    (given : Option UserFrame) (e : TwinEvent) (nth : Supply) (p : Part)
    → IsTwinRun pair users t → MayHappen users t given e nth → IsTypedTwin e
    → events_of_part p ≡ events_in pair g t e
    → IsReadyPart (setting_of pair g) users (run_of g t) given p
ready-part pair users t g given e nth p run may typed is =
    part-ready (setting_of pair g) users (run_of g t) given p (events_in pair g t e)
    (ready pair users t run g e may.may_come typed) (fit-in pair users t g given e may.gives) is
