use Rattle.gcm_frames.proofs.Sealing.{sealed_plain}
use Rattle.gcm_frames.proofs.protecting.seal_in_place.Goals as goal

pub returns-else-conf : goal.returns-else-conf
returns-else-conf c = sealed_plain _ _ _ _ _ c.args.conf c.if-conf.false c.seal-else-conf.ensures
