use Rattle.std.proofs.Common.{◌≡◌, length, List, Bool, subst, rules}
use Rattle.gcm_core.specs.inside.Tables.{AreProducts}
use Rattle.gcm_core.proofs.OctetRows.{rows_are}
use Rattle.gcm_core.proofs.hash_rows.rows_of.Goals as goal

pub returns : goal.returns
returns c =
    let lp : length c.nibble_products.result ≡ 16 = search rules in
    let lq : length c.nibble_products-2.result ≡ 16 = search rules in
    rows_are c.args.block _ _ _ _ lp lq c.turned.ensures c.turned-2.ensures
    c.nibble_products.ensures
    (subst (λ (v : List Bool). AreProducts v c.nibble_products-2.result) c.times_x4.ensures c.nibble_products-2.ensures)
