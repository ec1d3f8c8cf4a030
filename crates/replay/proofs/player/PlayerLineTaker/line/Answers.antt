use Rattle.lan_schedule.proofs.Public.{one-does}
use Rattle.replay.proofs.player.PlayerLineTaker.line.Goals as goal

pub returns : goal.returns
returns g c = one-does _ _ _ _ c.text.ensures.performs.does
