use Rattle.std.proofs.Common.{ap, refl}
use Rattle.std.specs.Prelude.{Err}
use Rattle.replay.proofs.Public.{wrote-one}
use Rattle.rollover_program.proofs.Drawn.{shows_part}
use Rattle.rollover_program.proofs.commands.draw.show.Goals as goal

pub returns-in-Ok : goal.returns-in-Ok
returns-in-Ok g c = (refl, wrote-one c.args.picture.now _ _ c.in-Ok.ensures.all c.write_all.ensures.counts)

pub returns-in-Err : goal.returns-in-Err
returns-in-Err g c = rw c.status_of_unwritten.ensures
    (shows_part c.args.picture.now _ _ c.in-Err.why c.in-Err.ensures.prefix c.write_all.ensures.counts
    (λ is. c.in-Err.ensures.failed (ap Err is)))
