-- No station is in a life at a place where none started.
use Rattle.std.proofs.Common.{◌≡◌, ◌≤◌, ◌+◌, ℕ, List, [], ◌∷◌, length, None, refl, sym, ap, ◌∙◌, subst, arith}
use Rattle.std.proofs.Common.{length-append}
use Rattle.lan_base.specs.declared.frame.UserFrame.{UserFrame}
use Rattle.lan_core.specs.declared.settings.Settings.{Settings}
use Rattle.lan_core.specs.Run.{Run, stations, started}
use Rattle.lan_core.specs.Lives.{life}
use Rattle.lan_core.specs.Order.{IsAllowed}
use Rattle.lan_core.specs.Legal.{IsStepped}
use Rattle.group_safety.proofs.Public.{part}
use Rattle.group_safety.proofs.Public as parts

pub none-there : (settings : Settings) (users : List UserFrame) (s : ℕ) (r : Run) → IsStepped settings users r → length (stations r) ≤ s
    → life settings s r ≡ None
unfolding life stations
none-there settings users s [] stepped past = refl
none-there settings users s (x ∷ r) stepped past =
    let none = none-there settings users s r stepped.1 fewer in
    elim (part settings users s x r stepped.0) [
      | parts.same same still ↦ same ∙ none
      | parts.ticks n m ev living same ↦ absurd (cc (sym none ∙ living))
      | parts.hears number octets m a came living sec right same ↦ absurd (cc (sym none ∙ living))
      | parts.born l empty birth same fact ↦ absurd (unborn birth)
    ]
  where
    whole : length (stations (x ∷ r)) ≡ length (stations r) + length (started x.event)
    whole = length-append (stations r) (started x.event)

    fewer : length (stations r) ≤ s
    fewer = let all = whole in omega (arith, all, past)

    unborn : parts.IsBirth s r x.event → ⊥
    unborn (parts.first name sci priority ev at) =
        let one : length (started x.event) ≡ 1 = ap (λ e. length (started e)) ev in
        let all = whole in omega (arith, all, one, at, past)
    unborn (parts.again ev) =
        let there = (subst (IsAllowed settings users r x) ev stepped.0.in_order.1).0 in
        let less = fewer in omega (arith, there, less)
