use Rattle.replay.proofs.Written.{none-fails}
use Rattle.replay.proofs.twin.transcribing.TranscriptTwinRecorder.record.Goals as goal

pub returns-in_err-render_all : goal.returns-in_err-render_all
returns-in_err-render_all g c = none-fails _ _ _ c.from_residual.ensures.1
