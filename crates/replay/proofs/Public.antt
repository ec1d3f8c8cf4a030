-- What other crates may cite of the proofs: what a text that was written leaves, how a run of a text
-- ends where who performs it is known, and that a run of which more is known ends as one of which less
-- is.
pub use Rattle.replay.proofs.Written.{rose-earlier, wrote-counts, wrote-more, wrote-one, broke-one}
pub use Rattle.replay.proofs.Written.{broke-none, fails-broke, fails-behind, none-fails}
pub use Rattle.replay.proofs.Written.{Grew, grew-wrote, grew-broke}
pub use Rattle.replay.proofs.Ending.{Spares, spared, fails-rose, Plays, replayed-err, transcribed}
pub use Rattle.replay.proofs.Weaker.{runs-weaker}
