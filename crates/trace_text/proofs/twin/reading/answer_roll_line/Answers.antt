use Rattle.std.proofs.Common.{sym, ◌∙◌, arith, rules}
use Rattle.std.proofs.lemmas.Result.{err_from_is_err_and}
use Rattle.trace_text.specs.twin.Reading.{roll_line_in}
use Rattle.trace_text.proofs.twin_lines.Answering.{form_refused}
use Rattle.trace_text.proofs.twin.reading.answer_roll_line.Goals as goal

pub returns-in_default : goal.returns-in_default
unfolding roll_line_in
returns-in_default c = search rules

pub returns-then-is_comment : goal.returns-then-is_comment
unfolding roll_line_in
returns-then-is_comment c = search rules

pub returns-in_err-line : goal.returns-in_err-line
returns-in_err-line c =
    let p = err_from_is_err_and c.from_residual.result c.from_residual.ensures.1 in
    rw (p.1, p.2) (form_refused c.args.text.now c.in-Some.first.now c.in-Some.rest.now _ (omega arith) c.in-Some.ensures.word
    (sym c.is_comment.ensures ∙ c.if-is_comment.false) c.in_err-line.ensures)

pub returns : goal.returns
unfolding roll_line_in
returns c = search rules
