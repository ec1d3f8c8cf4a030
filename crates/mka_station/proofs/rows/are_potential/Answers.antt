use Rattle.std.proofs.Common.{◌∙◌, sym}
use Rattle.mka_station.proofs.Members.{rows-done}
use Rattle.mka_station.proofs.rows.are_potential.Goals as goal

pub returns : goal.returns
returns c =
    let i = c.loop-row.invariant in
    rows-done (λ r. r.potential) c.args.rows.now c.loop-row.row-index c.args.members.now c.loop-row.at c.loop-row-test.false i.1 ∙ sym i.0
