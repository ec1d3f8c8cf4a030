use Rattle.lan_core.proofs.FramesNumbered.{air-numbered}
use Rattle.lan_core.proofs.laws.law_frames_are_numbered_in_order.Goals as goal

pub returns : goal.returns
returns c = air-numbered
