use Rattle.std.proofs.Common.{◌≡◌, ◌∙◌, arith, rules}
use Rattle.use_notes.specs.declared.counts.Counts.{Counts}
use Rattle.use_notes.specs.inside.Keeping.{counts_with}
use Rattle.use_notes.proofs.Counting.{counted}
use Rattle.use_notes.proofs.counts.Counts.with.Goals as goal

pub returns-clause-counted : goal.returns-clause-counted
returns-clause-counted c = λ fs is told found order.
    let made : Counts = record {
      frames = c.more.result;
      low = c.lower.result;
      high = c.max.result;
      first = c.oldest.result;
      last = c.newest.result;
      repeated = c.more-2.result;
      longest = c.max-2.result;
      reused = c.more-3.result;
      fell = c.more-4.result;
      window = c.max-3.result;
      clear = c.more-5.result;
    } in
    let step : made ≡ counts_with c.args.self.now c.args.novelty c.args.alike c.args.frame.now = search rules in
    step ∙ counted fs c.args.frame.now c.args.self.now c.args.novelty c.args.alike is told found order (omega arith)
