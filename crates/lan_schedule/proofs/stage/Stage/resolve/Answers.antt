use Rattle.std.proofs.Common.{None, sym, ◌∙◌}
use Rattle.lan_schedule.proofs.Commanding.{none-of}
use Rattle.lan_schedule.proofs.Refusing.{deed-at, resolves-err, resolves-none, resolves-ok}
use Rattle.lan_schedule.proofs.stage.Stage.resolve.Goals as goal

pub returns-in_default-clause-resolves : goal.returns-in_default-clause-resolves
returns-in_default-clause-resolves c = λ w reached.
    resolves-none c.args.line w c.args.self.now reached c.requires.apart
    (deed-at c.args.line w c.args.self.now None reached
    (λ few. sym (none-of c.deed.result c.in_default.not-Some) ∙ c.deed.ensures.is few))

pub returns-in-None-clause-resolves : goal.returns-in-None-clause-resolves
returns-in-None-clause-resolves c = λ w reached.
    resolves-ok c.args.line w c.args.self.now c.in-Some.deed reached c.requires.apart
    (deed-at c.args.line w c.args.self.now _ reached c.in-Some.ensures.is)
    (sym c.wrong_word.ensures ∙ c.in-None.is)

pub returns-in-Some-wrong_word-clause-resolves : goal.returns-in-Some-wrong_word-clause-resolves
returns-in-Some-wrong_word-clause-resolves c = λ w reached.
    resolves-err c.args.line w c.args.self.now c.in-Some.deed c.in-Some-wrong_word.kind reached
    c.requires.apart (deed-at c.args.line w c.args.self.now _ reached c.in-Some.ensures.is)
    (sym c.wrong_word.ensures ∙ c.in-Some-wrong_word.is)
