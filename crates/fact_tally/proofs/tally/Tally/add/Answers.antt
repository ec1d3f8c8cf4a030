use Rattle.std.proofs.Common.{◌∙◌, sym, ap}
use Rattle.fact_tally.specs.Summary.{Counts}
use Rattle.fact_tally.specs.inside.Counting.{one_more}
use Rattle.fact_tally.proofs.OneMore.{counts_more}
use Rattle.fact_tally.proofs.tally.Tally.add.Goals as goal

pub returns : goal.returns
returns c = λ shown stood.
    let fact = c.args.fact.now in
    c.count.ensures ∙ ap (λ (t : Counts). one_more t fact) stood ∙ sym (counts_more shown fact)
