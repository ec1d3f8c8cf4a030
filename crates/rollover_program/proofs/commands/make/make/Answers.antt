use Rattle.std.proofs.Common.{ap, ◌∙◌}
use Rattle.std.specs.Prelude.{Err}
use Rattle.replay.proofs.Public.{broke-none}
use Rattle.rollover_program.proofs.Carried.{part_made}
use Rattle.rollover_program.proofs.commands.make.make.Goals as goal

pub returns-in_default : goal.returns-in_default
returns-in_default g c = broke-none _ _

pub returns : goal.returns
returns g c = rw c.status_of_unwritten.ensures
    (part_made c.args.number c.deref.result.now _ _ c.in-Err.why (c.deref.ensures.value ∙ c.in-Ok.ensures)
    c.in-Err.ensures.prefix c.write_all.ensures.counts (λ is. c.in-Err.ensures.failed (ap Err is)))
