use Rattle.member_text.proofs.Faults.{no_fault}
use Rattle.member_text.proofs.InForm.{answer_fits}
use Rattle.member_text.proofs.reading.read_member_line.Goals as goal

pub returns-clause-in_form : goal.returns-clause-in_form
returns-clause-in_form c = answer_fits _ c.args.text.now c.answer_member_line.ensures

pub returns-clause-memory : goal.returns-clause-memory
returns-clause-memory c = no_fault c.args.text.now _ c.answer_member_line.ensures
