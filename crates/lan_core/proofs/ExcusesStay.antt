-- Excuses stay.
use Rattle.std.proofs.Common.{◌≡◌, ℕ, Bool, true, false, cond, List, [], ◌∷◌, refl}
use Rattle.std.proofs.Common.{Option, Some, None}
use Rattle.lan_base.specs.declared.frame.UserFrame.{UserFrame}
use Rattle.sak_exchange.specs.declared.held_key.Key.{Key}
use Rattle.lan_core.specs.declared.fact.Fact.{Fact}
use Rattle.lan_core.specs.declared.fact.Fact.TheVariants as facts
use Rattle.lan_core.specs.declared.fact.Lack.TheVariants.{NoKey}
use Rattle.lan_core.specs.declared.settings.Settings.{Settings}
use Rattle.lan_core.specs.Run.{Run, Happening}
use Rattle.lan_core.specs.Lives.{transmitting_at}
use Rattle.lan_core.specs.Order.{is_event_of}
use Rattle.lan_core.specs.Legal.{IsStep, IsLegal, Ahead, none_ahead, with_ahead}
use Rattle.lan_core.specs.Legal.{is_excuse, is_excused_by, IsExcusedBefore, IsExcused}

-- what one knows to come, the other does too
abbrev IsKnown : Ahead → Ahead → Type 0
IsKnown a b = (s : ℕ) (x : Happening) → a s ≡ Some x → b s ≡ Some x

excuse-stays : (s : ℕ) (k : Option Key) (y z : Option Happening)
    → ((x : Happening) → y ≡ Some x → z ≡ Some x) → is_excuse s k y ≡ true → is_excuse s k z ≡ true
excuse-stays s None y z known is = refl
excuse-stays s (Some k) None z known is = absurd (cc is)
excuse-stays s (Some k) (Some x) z known is = rw (known x refl) is

event-stays : (settings : Settings) (r : Run) (a b : Ahead) (shown : List Fact) → IsKnown a b
    → is_excused_by settings r a shown ≡ true → is_excused_by settings r b shown ≡ true
event-stays settings r a b (facts.Unclaimed s NoKey ∷ []) known is =
    excuse-stays s (transmitting_at settings s r) (a s) (b s) (known s) is
event-stays settings r a b shown known is = cc is

more-known : (x : Happening) (a b : Ahead) → IsKnown a b → IsKnown (with_ahead x a) (with_ahead x b)
more-known x a b known s = go (is_event_of s x.event)
  where
    go : (test : Bool) (y : Happening) → cond test (Some x) (a s) ≡ Some y
        → cond test (Some x) (b s) ≡ Some y
    go true y is = is
    go false y is = known s y is

run-stays : (settings : Settings) (r : Run) (a b : Ahead) → IsKnown a b
    → IsExcusedBefore settings a r → IsExcusedBefore settings b r
run-stays settings [] a b known all = all
run-stays settings (x ∷ r) a b known (is, before) = (
  event-stays settings r a b x.facts known is,
  run-stays settings r (with_ahead x a) (with_ahead x b) (more-known x a b known) before,
)

pub stays-excused : (settings : Settings) (ahead : Ahead) (r : Run) → IsExcused settings r
    → IsExcusedBefore settings ahead r
stays-excused settings ahead r all =
    run-stays settings r none_ahead ahead (λ s x is. absurd (cc is)) all

pub step-legal : (settings : Settings) (users : List UserFrame) (x : Happening) (r : Run)
    → IsLegal settings users r → IsStep settings users x r
    → is_excused_by settings r none_ahead x.facts ≡ true → IsLegal settings users (x ∷ r)
step-legal settings users x r legal step excused = record {
  stepped = (step, legal.stepped);
  excused = (excused, stays-excused settings (with_ahead x none_ahead) r legal.excused);
}
