-- More user frames change nothing of what was.
use Rattle.std.proofs.Common.{◌≡◌, ◌-◌, ℕ, zero, suc, Bool, true, false, cond, List, [], ◌∷◌}
use Rattle.std.proofs.Common.{◌++◌, Option, Some, None, refl, sym, subst}
use Rattle.std.specs.Prelude.{◌==◌, slice_get}
use Rattle.lan_base.specs.declared.frame.UserFrame.{UserFrame}
use Rattle.lan_core.specs.declared.settings.Settings.{Settings}
use Rattle.lan_core.specs.Run.{Run}
use Rattle.lan_core.specs.Claims.{user_at}
use Rattle.lan_core.specs.Legal.{IsStepped, IsLegal}
use Rattle.lan_core.specs.Order.{IsSendable}
use Rattle.lan_core.proofs.Public.{legal-more, stands-more}
use Rattle.cak_roll.specs.declared.event.GroupNumber.{GroupNumber}
use Rattle.cak_roll.specs.declared.event.GroupNumber.TheVariants.{First, Second}
use Rattle.cak_roll.specs.declared.event.TwinEvent.{TwinEvent}
use Rattle.cak_roll.specs.declared.event.TwinEvent.TheVariants as twins
use Rattle.cak_roll.specs.Twin.{Pair, setting_of, Twin, part_of, run_of, merged}
use Rattle.cak_roll.specs.Twin.{AreSteps, MayComeTwin, IsPart, IsTwinRun}
use Rattle.cak_roll.specs.Standing.{Side, StandsIn, Held, IfThere, StandsFor}

-- the runs of the groups are legal
abbrev pub AreLegal : Type 0
AreLegal = (pair : Pair) (users : List UserFrame) (t : Twin) (g : GroupNumber)
    → IsTwinRun pair users t → IsLegal (setting_of pair g) users (run_of g t)

steps-of : (settings : Settings) (users : List UserFrame) (ys r : Run)
    → IsStepped settings users (ys ++ r) → AreSteps settings users ys r
steps-of settings users [] r stepped = tt
steps-of settings users (y ∷ ys) r (step, before) = (step, steps-of settings users ys r before)

-- what is there stays where more come behind it
get-behind : {A : Type 0} (xs more : List A) (n : ℕ) (a : A) → slice_get xs n ≡ Some a
    → slice_get (xs ++ more) n ≡ Some a
get-behind [] more n a is = absurd (cc is)
get-behind (x ∷ xs) more zero a is = is
get-behind (x ∷ xs) more (suc n) a is = get-behind xs more n a is

user-stays : (users more : List UserFrame) (number : ℕ) (frame : UserFrame)
    → user_at users number ≡ Some frame → user_at (users ++ more) number ≡ Some frame
user-stays users more number frame is = go (number == 0) is
  where
    go : (b : Bool) → cond b None (slice_get users (number - 1)) ≡ Some frame
        → cond b None (slice_get (users ++ more) (number - 1)) ≡ Some frame
    go true is = absurd (cc is)
    go false is = get-behind users more (number - 1) frame is

still-sendable : (users more : List UserFrame) (number : ℕ) (o : Option UserFrame)
    → user_at users number ≡ o → IsSendable o → IsSendable (user_at (users ++ more) number)
still-sendable users more number None is sendable = absurd sendable
still-sendable users more number (Some frame) is sendable =
    subst IsSendable (sym (user-stays users more number frame is)) sendable

may-more : (users more : List UserFrame) (t : Twin) (event : TwinEvent)
    → MayComeTwin users t event → MayComeTwin (users ++ more) t event
may-more users more t (twins.Send station user) may =
    (may.0, still-sendable users more user (user_at users user) refl may.1)
may-more users more t (twins.Start name sci priority) may = may
may-more users more t (twins.Adopt station) may = may
may-more users more t (twins.Leave station group) may = may
may-more users more t (twins.Tick station group) may = may
may-more users more t (twins.Deliver group frame station) may = may
may-more users more t (twins.Restart station) may = may

pub run-more : AreLegal → (pair : Pair) (users more : List UserFrame) (t : Twin)
    → IsTwinRun pair users t → IsTwinRun pair (users ++ more) t
unfolding run_of
run-more legal pair users more [] run = tt
run-more legal pair users more (x ∷ t) (step, before) = (
  record {
    may_come = may-more users more t x.event step.may_come;
    parts = λ g. part g;
  },
  run-more legal pair users more t before,
)
  where
    part : (g : GroupNumber) → IsPart pair (users ++ more) x t g
    part g = record {
      events = (step.parts g).events;
      steps = steps-of (setting_of pair g) (users ++ more) (part_of g x) (run_of g t)
          (legal-more (setting_of pair g) users more (run_of g (x ∷ t))
          (legal pair users (x ∷ t) g (step, before))).stepped;
    }

-- ---- a twin

side-more : (settings : Settings) (users more : List UserFrame) (r whole : Run) (side : Side)
    → StandsIn settings users r whole side → StandsIn settings (users ++ more) r whole side
side-more settings users more r whole side stands = record {
  suite = stands.suite;
  lan = stands-more settings users more side.lan r stands.lan;
  numbers = stands.numbers;
  draws = stands.draws;
}

there-more : (settings : Settings) (users more : List UserFrame) (r whole : Run)
    (o : Option Side) → IfThere settings users r whole o → IfThere settings (users ++ more) r whole o
there-more settings users more r whole None stands = stands
there-more settings users more r whole (Some side) stands =
    side-more settings users more r whole side stands

pub twin-more : (pair : Pair) (users more : List UserFrame) (held : Held) (t : Twin)
    → IsTwinRun pair (users ++ more) t → StandsFor pair users held t
    → StandsFor pair (users ++ more) held t
twin-more pair users more held t run stands = record {
  set_up = stands.set_up;
  goes = stands.goes;
  groups = record {
    first = side-more pair.first users more (run_of First t) (merged t) held.first
        stands.groups.first;
    second = there-more pair.second users more (run_of Second t) (merged t) held.second
        stands.groups.second;
    drawn = stands.groups.drawn;
  };
  members = stands.members;
  legal = run;
  fresh = stands.fresh;
}
