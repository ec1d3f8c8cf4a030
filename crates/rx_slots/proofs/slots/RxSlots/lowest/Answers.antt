use Rattle.std.proofs.Common.{ℕ, ◌-◌, ◌∙◌, ap, max, min}
use Rattle.rx_slots.specs.Slots.{Slots}
use Rattle.rx_slots.specs.Numbers.{accepted}
use Rattle.rx_slots.proofs.Steps.{lowest_told}
use Rattle.rx_slots.proofs.slots.RxSlots.lowest.Goals as goal

pub returns : goal.returns
returns c = λ own window h s.
    let width = ap (λ (t : Slots). t.window) c.self.view_is ∙ s.width in
    c.clamp.ensures
    ∙ ap (λ (n : ℕ). max 1 (min n 4294967295)) (c.saturating_sub.ensures ∙ ap (λ (w : ℕ). c.greatest-greatest.result - w) width)
    ∙ lowest_told window c.greatest-greatest.result (accepted own window h) c.args.an (c.greatest-greatest.ensures ∙ s.top c.args.an)
