use Rattle.std.proofs.Common.{◌∙◌, sym}
use Rattle.key_spans.proofs.Lanes.{grown-lane}
use Rattle.key_spans.proofs.Standing.{on_ok}
use Rattle.key_spans.proofs.lane.Lane.take.Goals as goal

pub returns-in-Some-clause-taken : goal.returns-in-Some-clause-taken
returns-in-Some-clause-taken c =
    on_ok c.grow.result
    (λ grown. grown-lane c.args.at c.args.fact.now c.in-Some.span c.args.self.now c.grow.new.self
    (sym c.installed.ensures ∙ c.in-Some.is) grown) c.grow.ensures.grown
