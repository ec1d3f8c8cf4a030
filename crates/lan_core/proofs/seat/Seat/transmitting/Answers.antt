use Rattle.std.proofs.Common.{rules}
use Rattle.lan_core.proofs.seat.Seat.transmitting.Goals as goal

pub returns : goal.returns
returns c = search rules
