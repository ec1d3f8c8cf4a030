use Rattle.trace_text.proofs.twin_lines.Faults.{no_fault}
use Rattle.trace_text.proofs.twin_lines.InForm.{answer_fits}
use Rattle.trace_text.proofs.twin.reading.read_roll_line.Goals as goal

pub returns-clause-in_form : goal.returns-clause-in_form
returns-clause-in_form c = answer_fits _ c.args.text.now c.answer_roll_line.ensures

pub returns-clause-memory : goal.returns-clause-memory
returns-clause-memory c = no_fault c.args.text.now _ c.answer_roll_line.ensures
