use Rattle.twin_schedule.proofs.Public.{one-does}
use Rattle.replay.proofs.twin.player.PlayerLineTaker.line.Goals as goal

pub returns : goal.returns
returns g c = one-does c.args.text.now _ _ _ c.text.ensures.does
