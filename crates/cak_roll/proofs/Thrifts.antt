-- Each claim of a twin run takes the next number: a group's run is thrifty.
use Rattle.std.proofs.Common.{◌≡◌, ◌⊎◌, ◌==◌, ℕ, Bool, true, false, List, [], ◌∷◌, ◌++◌}
use Rattle.std.proofs.Common.{Option, Some, None, refl, sym, subst, inl, inr}
use Rattle.std.specs.Prelude.{cond, nat_lt, option_map, option_to_list, slice_get}
use Rattle.lan_base.specs.declared.frame.UserFrame.{UserFrame}
use Rattle.lan_core.specs.declared.event.Event.{Event}
use Rattle.lan_core.specs.declared.event.Event.TheVariants as events
use Rattle.lan_core.specs.declared.settings.Settings.{Settings}
use Rattle.lan_core.specs.Run.{Run, Happening, Profile, stations}
use Rattle.lan_core.specs.Expected.{last_number}
use Rattle.lan_core.specs.Legal.{IsStep, IsThrifty}
use Rattle.lan_core.specs.Unstopped.{LeavesNoneOut}
use Rattle.cak_roll.specs.declared.event.GroupNumber.{GroupNumber}
use Rattle.cak_roll.specs.declared.event.GroupNumber.TheVariants.{First, Second}
use Rattle.cak_roll.specs.declared.event.TwinEvent.{TwinEvent}
use Rattle.cak_roll.specs.declared.event.TwinEvent.TheVariants as twins
use Rattle.cak_roll.specs.Twin.{Pair, of_group, same_group, setting_of, Twin, part_of, run_of}
use Rattle.cak_roll.specs.Twin.{AreSteps, events_of, events_in, start_of, sent_as, only}
use Rattle.cak_roll.specs.Twin.{IsTwinRun, place_in, next_in, claimed_in, takes_part, carrier}

-- an event that takes no number, whatever was before
abbrev TakesNone : Event → Type 0
TakesNone (events.Claim s user pn) = ⊥
TakesNone (events.Tick s shown) = ⊥
TakesNone _ = Unit {0}

none-out : (settings : Settings) (r : Run) (e : Event) → TakesNone e → LeavesNoneOut settings r e
none-out settings r (events.Start name sci priority) n = tt
none-out settings r (events.Tick s next) n = absurd n
none-out settings r (events.Deliver frame s) n = tt
none-out settings r (events.Restart s) n = tt
none-out settings r (events.Claim s user pn) n = absurd n
none-out settings r events.Emit n = tt
none-out settings r (events.Inject s octets) n = tt

-- the oldest of these leaves no number out after the run, and the others take none
abbrev LeaveNoneOut : Settings → Run → List Event → Type 0
LeaveNoneOut settings r [] = Unit {0}
LeaveNoneOut settings r (e ∷ []) = LeavesNoneOut settings r e
LeaveNoneOut settings r (e ∷ d ∷ es) = TakesNone e × LeaveNoneOut settings r (d ∷ es)

-- one step more that leaves no number out keeps a run thrifty
abbrev pub KeepsThrifty : Type 0
KeepsThrifty = (settings : Settings) (users : List UserFrame) (x : Happening) (r : Run)
    → IsStep settings users x r → LeavesNoneOut settings r x.event → IsThrifty settings r
    → IsThrifty settings (x ∷ r)

thrifty-part : KeepsThrifty → (settings : Settings) (users : List UserFrame) (ys r : Run)
    → AreSteps settings users ys r → LeaveNoneOut settings r (events_of ys) → IsThrifty settings r
    → IsThrifty settings (ys ++ r)
thrifty-part keeps settings users [] r steps none thrifty = thrifty
thrifty-part keeps settings users (y ∷ []) r (s, later) none thrifty =
    keeps settings users y r s none thrifty
thrifty-part keeps settings users (y ∷ z ∷ ys) r (s, later) (n, none) thrifty =
    let front = (z ∷ ys) ++ r in
    keeps settings users y front s (none-out settings front y.event n)
    (thrifty-part keeps settings users (z ∷ ys) r later none thrifty)

none-only : (settings : Settings) (r : Run) (b : Bool) (e : Event) → LeavesNoneOut settings r e
    → LeaveNoneOut settings r (only b (e ∷ []))
none-only settings r true e n = n
none-only settings r false e n = tt

none-start : (settings : Settings) (r : Run) (o : Option Profile)
    → LeaveNoneOut settings r (option_to_list (option_map start_of o))
none-start settings r None = tt
none-start settings r (Some p) = tt

none-of_group : (settings : Settings) (r : Run) (g : GroupNumber) (es fs : List Event)
    → LeaveNoneOut settings r es → LeaveNoneOut settings r fs
    → LeaveNoneOut settings r (of_group g es fs)
none-of_group settings r First es fs h k = h
none-of_group settings r Second es fs h k = k

none-cond : (settings : Settings) (r : Run) (b : Bool) (es fs : List Event)
    → LeaveNoneOut settings r es → LeaveNoneOut settings r fs → LeaveNoneOut settings r (cond b es fs)
none-cond settings r true es fs h k = h
none-cond settings r false es fs h k = k

within : (n : ℕ) (b : Bool) → (cond b 0 n ≡ 0) ⊎ (cond b 0 n ≡ n)
within n true = inl refl
within n false = inr refl

none-in : (pair : Pair) (t : Twin) (g : GroupNumber) (e : TwinEvent)
    → LeaveNoneOut (setting_of pair g) (run_of g t) (events_in pair g t e)
none-in pair t g (twins.Start name sci priority) =
    none-of_group (setting_of pair g) (run_of g t) g (events.Start name sci priority ∷ []) [] tt tt
none-in pair t g (twins.Adopt station) =
    none-of_group (setting_of pair g) (run_of g t) g []
    (option_to_list (option_map start_of (slice_get (stations (run_of First t)) station))) tt
    (none-start (setting_of pair g) (run_of g t) (slice_get (stations (run_of First t)) station))
none-in pair t g (twins.Leave station group) = tt
none-in pair t g (twins.Tick station group) =
    none-only (setting_of pair g) (run_of g t) (same_group group g)
    (events.Tick (place_in g station t) (next_in pair g station t)) refl
none-in pair t g (twins.Deliver group frame station) =
    none-only (setting_of pair g) (run_of g t) (same_group group g)
    (events.Deliver frame (place_in g station t)) tt
none-in pair t g (twins.Restart station) =
    none-only (setting_of pair g) (run_of g t) (takes_part g station t)
    (events.Restart (place_in g station t)) tt
none-in pair t g (twins.Send station user) =
    let settings = setting_of pair g in
    let r = run_of g t in
    let place = place_in g station t in
    let pn = claimed_in pair g station t in
    let next = next_in pair g station t in
    let claim : LeavesNoneOut settings r (events.Claim place user pn) =
    within next (nat_lt last_number next) in
    none-cond settings r (same_group (carrier pair station t) g) (sent_as place user pn) []
    (none-cond settings r (pn == 0) (events.Claim place user pn ∷ [])
    (events.Emit ∷ events.Claim place user pn ∷ []) claim (tt, claim)) tt

pub twin-thrifty : KeepsThrifty → (pair : Pair) (users : List UserFrame) (t : Twin) (g : GroupNumber)
    → IsTwinRun pair users t → IsThrifty (setting_of pair g) (run_of g t)
unfolding run_of
twin-thrifty keeps pair users [] g run = tt
twin-thrifty keeps pair users (x ∷ t) g (step, before) =
    let p = step.parts g in
    thrifty-part keeps (setting_of pair g) users (part_of g x) (run_of g t) p.steps
    (subst (LeaveNoneOut (setting_of pair g) (run_of g t)) (sym p.events) (none-in pair t g x.event))
    (twin-thrifty keeps pair users t g before)
