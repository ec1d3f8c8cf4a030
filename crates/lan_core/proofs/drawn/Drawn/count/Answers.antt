use Rattle.std.proofs.Common.{arith}
use Rattle.lan_core.proofs.drawn.Drawn.count.Goals as goal

pub returns-clause-small : goal.returns-clause-small
returns-clause-small c =
    let len = c.len.ensures in
    let held = c.self.inside.draws.ok.1 in
    let small = c.self.inside.draws.small in
    omega (arith, len, held, small)
