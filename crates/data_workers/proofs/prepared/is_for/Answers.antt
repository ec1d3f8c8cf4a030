use Rattle.std.proofs.Common.{sym, ◌∙◌}
use lib.Pointwise.{bytes_decides}
use Rattle.data_workers.proofs.prepared.is_for.Goals as goal

-- the key that is kept is that of the SAK that it was prepared for, and that one has the octets of
-- this one
pub returns-in-Some : goal.returns-in-Some
returns-in-Some c = λ yes.
    let same = (bytes_decides c.octets.result.now c.octets-in-Some.result.now).0 (sym c.eq.ensures ∙ yes) in
    rw c.in-Some.is (sym c.prepared.view_is ∙ (c.prepared.invariant ∙ (sym c.octets.ensures ∙ (same ∙ c.octets-in-Some.ensures))))
