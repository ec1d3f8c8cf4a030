use Rattle.std.proofs.Common.{sym, ◌∙◌, arith, rules}
use Rattle.std.proofs.lemmas.Result.{err_from_is_err_and}
use Rattle.member_text.specs.Reading.{member_line_in}
use Rattle.member_text.proofs.Answering.{form_refused}
use Rattle.member_text.proofs.reading.answer_member_line.Goals as goal

pub returns-in_default : goal.returns-in_default
unfolding member_line_in
returns-in_default c = search rules

pub returns-then-is_comment : goal.returns-then-is_comment
unfolding member_line_in
returns-then-is_comment c = search rules

pub returns-in_err-line : goal.returns-in_err-line
returns-in_err-line c =
    let p = err_from_is_err_and c.from_residual.result c.from_residual.ensures.1 in
    rw (p.1, p.2) (form_refused c.args.text.now c.in-Some.first.now c.in-Some.rest.now _ (omega arith) c.in-Some.ensures.word
    (sym c.is_comment.ensures ∙ c.if-is_comment.false) c.in_err-line.ensures)

pub returns : goal.returns
unfolding member_line_in
returns c = search rules
