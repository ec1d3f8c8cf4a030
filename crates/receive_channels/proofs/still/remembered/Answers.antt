use Rattle.receive_channels.proofs.Remembered.{given, set_of, still-now}
use Rattle.receive_channels.proofs.still.remembered.Goals as goal

pub returns-in_ok-still : goal.returns-in_ok-still
returns-in_ok-still c =
    let next = c.args.next.now in
    let nothing = c.is_nothing.ensures in
    let is = c.if-is_nothing.true in
    let still = c.in_ok-still.still in
    still-now (given c.args.scis.now c.args.keys.now) (set_of c.args.channels.now c.args.waiting.now) next.told
    next.channels.items next.waiting.items still.scis.items still.keys.items c.requires.told c.requires.after
    (nothing.opened is) (nothing.receives is) (nothing.removed is) (nothing.channels is) (nothing.waiting is)
    c.in_ok-still.ensures.scis c.in_ok-still.ensures.keys
