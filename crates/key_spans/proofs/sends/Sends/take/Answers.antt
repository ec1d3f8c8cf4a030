use Rattle.std.proofs.Common.{ap, subst}
use Rattle.key_spans.specs.Sends.{KeptSends}
use Rattle.key_spans.specs.inside.Sending.{AreSendsAfter}
use Rattle.key_spans.proofs.Claiming.{sends-more}
use Rattle.key_spans.proofs.sends.Sends.take.Goals as goal

pub returns : goal.returns
returns c facts are =
    let at = ap (λ (k : KeptSends). k.clock.ticks) c.self.view_is in
    sends-more facts c.args.fact.now c.args.self.now c.take_at.new.self c.tick.new.self are
    (subst (λ n. AreSendsAfter n c.args.fact.now c.args.self.now c.take_at.new.self) at c.in_ok-take_at.ensures)
    c.tick.ensures
