use Rattle.std.proofs.Common.{◌≡◌, ◌∙◌, arith}
use Rattle.gcm_core.specs.inside.Rows.{rows_in}
use Rattle.gcm_core.proofs.Stacked.{first_row, four_stacks, row_more, sum_long}
use Rattle.gcm_core.proofs.hash_key.sum_of_four.Goals as goal

pub loop-i-init : goal.loop-i-init
loop-i-init c = first_row _ _ c.four_rows-low.ensures

pub loop-i-preserved : goal.loop-i-preserved
loop-i-preserved c =
    let a = c.args in
    row_more _ (sum_long (rows_in a.p.now.first a.p.now.last) (rows_in a.q.now.first a.q.now.last) (rows_in a.r.now.first a.r.now.last) (rows_in a.s.now.first a.s.now.last)
    a.a a.b a.c a.d c.fits-a.0 c.fits-b.0 c.fits-c.0 c.fits-d.0)
    c.loop-i.i c.loop-i-test.true c.loop-i.auto.low.0 c.loop-i.auto.high.0
    c.loop-i.invariant c.moved_high-high.ensures c.four_rows.ensures c.moved_low.ensures

pub returns : goal.returns
returns c =
    let e : c.loop-i.i ≡ 15 = omega arith in
    let a = c.args in
    (rw e at c.loop-i.invariant).is
    ∙ four_stacks (rows_in a.p.now.first a.p.now.last) (rows_in a.q.now.first a.q.now.last) (rows_in a.r.now.first a.r.now.last) (rows_in a.s.now.first a.s.now.last)
    a.a a.b a.c a.d c.fits-a.0 c.fits-b.0 c.fits-c.0 c.fits-d.0 16 0
