use Rattle.trace_text.proofs.Faults.{no_fault}
use Rattle.trace_text.proofs.InForm.{answer_fits}
use Rattle.trace_text.proofs.reading.read_line.Goals as goal

pub returns-clause-in_form : goal.returns-clause-in_form
returns-clause-in_form c = answer_fits _ c.args.line.now c.answer_line.ensures

pub returns-clause-memory : goal.returns-clause-memory
returns-clause-memory c = no_fault c.args.line.now _ c.answer_line.ensures
