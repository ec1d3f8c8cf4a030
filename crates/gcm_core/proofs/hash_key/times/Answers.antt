use Rattle.std.proofs.Common.{◌≡◌, ◌∙◌, map, arith}
use Rattle.std.proofs.lemmas.List.{length-map}
use Rattle.aes_block.specs.Product.{sum_of}
use Rattle.gcm_core.specs.inside.Tables.{times_power}
use Rattle.aes_block.proofs.Public.{AreOctets-from_Fits}
use Rattle.gcm_core.specs.inside.Rows.{rows_in}
use Rattle.gcm_core.proofs.ByRows.{by_rows_in}
use Rattle.gcm_core.proofs.Stacked.{first_row, row_more, stack-rows}
use Rattle.gcm_core.proofs.hash_key.times.Goals as goal

pub loop-i-init : goal.loop-i-init
loop-i-init c = first_row _ _ c.row-low.ensures

pub loop-i-preserved : goal.loop-i-preserved
loop-i-preserved c =
    let t = c.args.rows.now in
    row_more (λ o. map (rows_in t.first t.last o) c.args.octets) (λ o. length-map c.args.octets (rows_in t.first t.last o) ∙ c.fits-octets.0)
    c.loop-i.i c.loop-i-test.true c.loop-i.auto.low.0 c.loop-i.auto.high.0
    c.loop-i.invariant c.moved_high-high.ensures c.row.ensures c.moved_low.ensures

pub returns : goal.returns
returns c h l are =
    let e : c.loop-i.i ≡ 15 = omega arith in
    let rows = rows_in c.args.rows.now.first c.args.rows.now.last in
    c.reduced.ensures
    ∙ (λ i. sum_of (c.number.ensures i) (times_power 128 (c.number-2.ensures i)))
    ∙ (rw e at c.loop-i.invariant).is
    ∙ stack-rows rows c.args.octets 16 0
    ∙ by_rows_in 16 h rows c.args.octets l (AreOctets-from_Fits c.args.octets c.fits-octets.1) are
