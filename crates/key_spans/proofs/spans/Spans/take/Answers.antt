use Rattle.key_spans.proofs.Standing.{none_more, on_err, on_ok, one_more}
use Rattle.key_spans.proofs.spans.Spans.take.Goals as goal

pub returns-clause-taken : goal.returns-clause-taken
returns-clause-taken c facts stands =
    on_ok c.take_in.result (λ taken. one_more facts c.args.fact.now _ _ stands taken) c.take_in.ensures.taken

pub returns-clause-kept : goal.returns-clause-kept
returns-clause-kept c facts stands =
    on_err c.take_in.result (λ kept. none_more facts _ _ stands kept) c.take_in.ensures.kept
