use Rattle.std.proofs.lemmas.List.FromFn.{fill_by_all}
use Rattle.std.proofs.Common.{◌*◌, ◌%◌, arith}
use Rattle.workbench_cases.specs.Work.{stepped}
use Rattle.workbench_cases.proofs.ciphers.work.stepped.Goals as goal

pub returns : goal.returns
unfolding stepped
returns g c =
    let inv = c.loop-octet.invariant in
    fill_by_all (λ k. c.args.step * k % 256) _ g.row.N 0 inv.count (λ k h. inv.before k (omega arith))
