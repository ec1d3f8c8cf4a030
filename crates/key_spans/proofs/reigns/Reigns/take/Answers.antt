use Rattle.key_spans.proofs.Ruling.{reigns-stand}
use Rattle.key_spans.proofs.Standing.{on_ok}
use Rattle.key_spans.proofs.reigns.Reigns.take.Goals as goal

pub returns : goal.returns
returns c facts are =
    on_ok c.take_in.result (λ after. reigns-stand facts c.args.fact.now c.args.self.now c.take_in.new.self are after)
    c.take_in.ensures
