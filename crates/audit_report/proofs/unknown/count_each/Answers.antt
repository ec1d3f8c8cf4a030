use Rattle.std.proofs.Common.{arith}
use Rattle.std.proofs.lemmas.Grind.{common_steps}
use Rattle.std.proofs.lemmas.List.Edits.{map_over_more}
use Rattle.audit_report.specs.inside.Naming.{counted}
use Rattle.audit_report.proofs.unknown.count_each.Goals as goal

pub loop-name-preserved : goal.loop-name-preserved
loop-name-preserved c = grind (arith, common_steps, map_over_more (counted c.args.ckn.now c.args.packet))
