use Rattle.mka_station.proofs.Lasting.{has-room}
use Rattle.mka_station.proofs.laws.law_room.Goals as goal

pub returns : goal.returns
returns c = has-room
