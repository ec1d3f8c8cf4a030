use Rattle.key_spans.proofs.Ruling.{ruled-some}
use Rattle.key_spans.proofs.court.rule.Goals as goal

pub returns-in-Some : goal.returns-in-Some
returns-in-Some c =
    ruled-some c.args.row.now c.renew.new.self c.args.at c.args.over c.last.result c.in-Some.reign c.ruled.result
    c.in-Some.is c.last.ensures c.ruled.ensures c.renew.ensures
