-- What other crates may cite of the proofs.
pub use Rattle.mkpdu_codec.proofs.FrameAgain.{length-covered, read_again}
pub use Rattle.mkpdu_codec.proofs.SetOctets.{IsBytes-all}
pub use Rattle.mkpdu_codec.proofs.Unique.{same_covered}
pub use Rattle.mkpdu_codec.proofs.WhatIsRead.{read_is_spelled}
pub use Rattle.mkpdu_codec.proofs.WrittenSpelled.{written_spells}
