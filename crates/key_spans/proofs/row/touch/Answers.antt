use Rattle.key_spans.proofs.Touching.{touched-some}
use Rattle.key_spans.proofs.row.touch.Goals as goal

pub returns-in-Some : goal.returns-in-Some
returns-in-Some c =
    touched-some c.args.row.now c.renew.new.self c.args.at c.args.turn c.last.result c.in-Some.span c.touched.result
    c.in-Some.is c.last.ensures c.touched.ensures c.renew.ensures
