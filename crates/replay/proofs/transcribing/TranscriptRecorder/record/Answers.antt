use Rattle.replay.proofs.Telling.{unwritten}
use Rattle.replay.proofs.transcribing.TranscriptRecorder.record.Goals as goal

pub returns-in_err-render_all : goal.returns-in_err-render_all
returns-in_err-render_all g c = unwritten _ _ _ c.from_residual.result c.from_residual.ensures.1
