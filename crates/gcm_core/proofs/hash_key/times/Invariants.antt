use Rattle.std.proofs.Common.{map}
use Rattle.gcm_core.specs.inside.Rows.{rows_in}
use Rattle.gcm_core.proofs.Stacked.{HasStack}
use Rattle.gcm_core.proofs.hash_key.times.Given as goal

abbrev pub invariant-loop-i : goal.invariant-loop-i
invariant-loop-i l = HasStack (λ o. map (rows_in l.fn.rows.first l.fn.rows.last o) l.fn.octets) l.i l.low l.high
