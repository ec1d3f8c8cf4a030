use Rattle.gcm_core.proofs.Tables.{rows_of}
use Rattle.gcm_core.proofs.hash_rows.nibble_products.Goals as goal

pub returns : goal.returns
returns c = rows_of c.args.block _ _ _ c.times_x-second.ensures c.times_x-third.ensures c.times_x-fourth.ensures
