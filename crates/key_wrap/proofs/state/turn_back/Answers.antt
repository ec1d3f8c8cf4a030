use Rattle.std.proofs.Common.{refl}
use Rattle.key_wrap.proofs.Steps.{turned_back}
use Rattle.key_wrap.proofs.state.turn_back.Goals as goal

pub returns : goal.returns
returns c = turned_back c.args.state.now _ c.rotate_right.new.self c.requires refl c.rotate_right.ensures.after
