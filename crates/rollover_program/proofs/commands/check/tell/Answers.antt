use Rattle.std.proofs.Common.{ap, ◌∙◌}
use Rattle.std.specs.Prelude.{Err}
use Rattle.replay.proofs.Public.{broke-none}
use Rattle.rollover_program.proofs.Judged.{all_told, part_told}
use Rattle.rollover_program.proofs.commands.check.tell.Goals as goal

pub returns-in_default : goal.returns-in_default
returns-in_default g c = broke-none _ _

pub returns-in-Ok-write_all : goal.returns-in-Ok-write_all
returns-in-Ok-write_all g c =
    all_told c.args.verdict.now c.deref.result.now _ _ c.told.result
    (c.deref.ensures.value ∙ c.in-Ok.ensures) c.in-Ok-write_all.ensures.all
    c.write_all.ensures.counts c.told.ensures

pub returns : goal.returns
returns g c = rw c.status_of_unwritten.ensures
    (part_told c.args.verdict.now c.deref.result.now _ _ c.in-Err.why (c.deref.ensures.value ∙ c.in-Ok.ensures)
    c.in-Err.ensures.prefix c.write_all.ensures.counts (λ is. c.in-Err.ensures.failed (ap Err is)))
