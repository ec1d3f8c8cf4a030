-- What other crates may cite of the proofs.
pub use Rattle.audit_text.proofs.Cutting.{cut-few, cut-to, none-front, unparted-none}
pub use Rattle.audit_text.proofs.FedLines.{behind-line, here}
pub use Rattle.audit_text.proofs.InForm.{key_read_fits}
pub use Rattle.audit_text.proofs.KeyText.{keys-before, no-shorter, parted, fronts, no-line}
pub use Rattle.audit_text.proofs.Lines.{BeginsLong, HasNoFeed, begins-long, line-alone, line-first, lines-append, open-behind}
