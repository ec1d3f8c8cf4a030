use Rattle.lan_core.proofs.FramesNumbered.{number-frame}
use Rattle.lan_core.proofs.laws.law_each_number_has_its_frame.Goals as goal

pub returns : goal.returns
returns c = number-frame
