use Rattle.std.proofs.Common.{[], ap}
use Rattle.twin_schedule.proofs.Opening.{can-first, memory-on, opens-second}
use Rattle.twin_schedule.proofs.choosing.twin_of.Goals as goal

pub returns-in-Ok-clause-stands : goal.returns-in-Ok-clause-stands
returns-in-Ok-clause-stands c = λ users.
    c.in-Ok.ensures.stands c.args.settings users (c.in_ok-twin.ensures.stands users)

pub returns-in-Err-clause-memory : goal.returns-in-Err-clause-memory
returns-in-Err-clause-memory c = λ opens.
    c.in-Err.ensures.memory (opens-second c.in_ok-twin.twin c.args.settings.ckn c.args.second.now
    (ap (λ s. s.ckn) (c.in_ok-twin.ensures.stands []).set_up.first) c.in_ok-twin.ensures.alone opens)

pub returns-in_err-twin-clause-memory : goal.returns-in_err-twin-clause-memory
returns-in_err-twin-clause-memory c = λ opens.
    memory-on c.from_residual.result c.in_err-twin.field-0.0 c.from_residual.ensures.1
    (c.in_err-twin.ensures.memory (can-first c.args.settings.ckn c.args.second.now opens))
