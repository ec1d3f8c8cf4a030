use Rattle.lan_base.specs.Ranges.{most_input}
use Rattle.octet_supply.proofs.Public.{stands-new}
use Rattle.key_ring.proofs.ring.KeyRing.read.Goals as goal

pub returns-then-branch-clause-reads : goal.returns-then-branch-clause-reads
returns-then-branch-clause-reads g c = λ text told.
    let left = g.S.Source.left c.args.source.now in
    let r = c.in_ok-read_lines.ensures.reads text c.new-ring.ensures
    (rw c.new-supply.ensures (stands-new most_input text left told)) in
    rw c.if-branch.true at r

pub returns-else-branch-clause-reads : goal.returns-else-branch-clause-reads
returns-else-branch-clause-reads g c = λ text told.
    let left = g.S.Source.left c.args.source.now in
    let r = c.in_ok-read_lines.ensures.reads text c.new-ring.ensures
    (rw c.new-supply.ensures (stands-new most_input text left told)) in
    rw c.if-branch.false at r
