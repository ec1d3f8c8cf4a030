use Rattle.std.proofs.lemmas.Result.{on_ok_weaker, on_err_weaker}
use Rattle.trace_text.proofs.Public.{on_err, then_more, then_grew}
use Rattle.trace_maker.proofs.Steps.{made_of}
use Rattle.trace_maker.proofs.making.put_lines.Goals as goal

pub returns-in_err-put_stations-clause-err : goal.returns-in_err-put_stations-clause-err
returns-in_err-put_stations-clause-err c =
    on_err _ (then_grew _ _ _ (_, c.in_ok-put_head.ensures.ok) c.in_err-put_stations.ensures.err)

pub returns-in_err-put-clause-err : goal.returns-in_err-put-clause-err
returns-in_err-put-clause-err c =
    on_err _ (then_grew _ _ _ (then_more _ _ _ _ (_, c.in_ok-put_head.ensures.ok) c.in_ok-put_stations.ensures.ok) c.in_err-put.ensures.err)

pub returns-in_err-put_choices-clause-err : goal.returns-in_err-put_choices-clause-err
returns-in_err-put_choices-clause-err c =
    on_err _ (then_grew _ _ _
    (then_more _ _ _ _ (then_more _ _ _ _ (_, c.in_ok-put_head.ensures.ok) c.in_ok-put_stations.ensures.ok) c.in_ok-put.ensures.ok)
    c.in_err-put_choices.ensures.err)

pub returns-clause-ok : goal.returns-clause-ok
returns-clause-ok c =
    on_ok_weaker c.put-2.result
    (λ e. made_of _ _ _ _ _ _ _ _ _ c.from.ensures c.in_ok-put_stations.ensures.steps c.in_ok-put_head.ensures.ok c.in_ok-put_stations.ensures.ok
    c.in_ok-put.ensures.ok c.in_ok-put_choices.ensures.ok e)
    c.put-2.ensures.ok

pub returns-clause-err : goal.returns-clause-err
returns-clause-err c =
    on_err_weaker c.put-2.result
    (λ e. then_grew _ _ _
    (then_more _ _ _ _ (then_more _ _ _ _ (then_more _ _ _ _ (_, c.in_ok-put_head.ensures.ok) c.in_ok-put_stations.ensures.ok) c.in_ok-put.ensures.ok) c.in_ok-put_choices.ensures.ok) e)
    c.put-2.ensures.err
