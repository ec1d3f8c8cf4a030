use Rattle.std.proofs.Common.{◌≡◌, ◌∙◌, ℕ, ◌+◌, List, Option, Some, cond, max, unwrap_or, ap, sym, subst, arith}
use Rattle.std.specs.BTreeMap.{is_at}
use Rattle.std.specs.Map.{lookup}
use Rattle.lan_base.specs.declared.address.Sci.{Sci}
use Rattle.rx_slots.specs.Slots.{Standing, order, number_in}
use Rattle.rx_slots.specs.inside.Admitting.{number_after}
use Rattle.rx_slots.proofs.Steps.{map_cond}
use Rattle.rx_slots.proofs.slot.Slot.take.Goals as goal

pub returns-clause-numbers : goal.returns-clause-numbers
returns-clause-numbers c = λ s.
    let old : List (Sci × ℕ) = c.self.inside.numbers.entries in
    let kept : c.next-kept.result ≡ number_in old c.args.sci =
    c.next-kept.ensures ∙ sym (ap (λ (t : Standing). number_in t.numbers c.args.sci) c.self.view_is) in
    let value : c.max.result ≡ max (c.args.pn + 1) (number_in old c.args.sci) = omega (arith, c.max.ensures, c.from-next.ensures, kept) in
    let put : number_in c.insert.new.self.entries s ≡ number_after old c.args.sci c.args.pn s =
    ap (λ (o : Option ℕ). unwrap_or o 1) (c.in_ok-insert.ensures.updates.0 s)
    ∙ map_cond (λ (o : Option ℕ). unwrap_or o 1) (is_at (order c.args.sci) s) (Some c.max.result) (lookup (is_at (order s)) old)
    ∙ ap (λ (n : ℕ). cond (is_at (order c.args.sci) s) n (number_in old s)) value in
    subst (λ (es : List (Sci × ℕ)). number_in c.insert.new.self.entries s ≡ number_after es c.args.sci c.args.pn s)
    (ap (λ (t : Standing). t.numbers) c.self.view_is) put
