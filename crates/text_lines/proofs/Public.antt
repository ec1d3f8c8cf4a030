-- What other crates may cite of the proofs: turns, as those see them who do more with the lines.
pub use Rattle.text_lines.proofs.Handing.{Laws}
pub use Rattle.text_lines.proofs.Together.{due-few, Since, DidAll, Seen, together, turns-weaker}
