-- What other crates may cite of the proofs.
pub use Rattle.trace_text.proofs.Answering.{on_err, then_grew, then_more}
pub use Rattle.trace_text.proofs.Characters.{decimal_digits, name_characters}
pub use Rattle.trace_text.proofs.InForm.{both_steps, by_test, first_fits, read_fits, said_fits, same_value}
pub use Rattle.trace_text.proofs.Taking.{counted, first_place, within}
pub use Rattle.trace_text.proofs.twin_lines.InForm.{roll_read_fits}
