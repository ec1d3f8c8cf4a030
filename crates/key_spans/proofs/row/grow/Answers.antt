use Rattle.key_spans.proofs.Touching.{given-back, grown}
use Rattle.key_spans.proofs.row.grow.Goals as goal

pub returns-in-Ok-clause-grown : goal.returns-in-Ok-clause-grown
returns-in-Ok-clause-grown c =
    grown c.args.span c.args.row.now c.touch.new.row c.touch.ensures c.add.new.self
    (λ items is late. c.in-Ok.ensures.added items is late)

pub returns-in-Err-clause-kept : goal.returns-in-Err-clause-kept
returns-in-Err-clause-kept c =
    given-back c.args.span c.args.row.now c.touch.new.row c.touch.ensures c.add.new.self c.give_back.new.row
    c.last-before.result c.last-before.ensures (λ items is. c.in-Err.ensures.kept items is) c.give_back.ensures
