use Rattle.gcm_core.specs.inside.Rows.{rows_in}
use Rattle.gcm_core.specs.inside.Powers.{rows_sum}
use Rattle.gcm_core.proofs.Stacked.{HasStack}
use Rattle.gcm_core.proofs.hash_key.sum_of_four.Given as goal

abbrev pub invariant-loop-i : goal.invariant-loop-i
invariant-loop-i l =
    HasStack (rows_sum (rows_in l.fn.p.first l.fn.p.last) (rows_in l.fn.q.first l.fn.q.last) (rows_in l.fn.r.first l.fn.r.last) (rows_in l.fn.s.first l.fn.s.last) l.fn.a l.fn.b l.fn.c l.fn.d) l.i l.low l.high
