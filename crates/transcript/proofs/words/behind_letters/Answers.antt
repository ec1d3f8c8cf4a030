use Rattle.std.proofs.Common.{sym, ◌∙◌}
use Rattle.transcript.proofs.Splitting.{label_there, label_longer, label_not}
use Rattle.transcript.proofs.words.behind_letters.Goals as goal

pub returns-in_err-behind : goal.returns-in_err-behind
returns-in_err-behind c =
    rw c.from_residual.ensures (label_not c.args.text.now c.args.letters.now c.in_err-behind.ensures.cases)

pub returns-then-ends_word : goal.returns-then-ends_word
returns-then-ends_word c =
    let cases = c.in_ok-behind.ensures.cases in
    label_there c.args.text.now c.args.letters.now c.in_ok-behind.behind.now c.requires cases.0 cases.1
    (sym c.ends_word.ensures ∙ c.if-ends_word.true)

pub returns-else-ends_word : goal.returns-else-ends_word
returns-else-ends_word c =
    let cases = c.in_ok-behind.ensures.cases in
    label_longer c.args.text.now c.args.letters.now c.in_ok-behind.behind.now c.requires cases.0 cases.1
    (sym c.ends_word.ensures ∙ c.if-ends_word.false)
