use Rattle.std.proofs.Common.{[], subst, sym}
use Rattle.cak_roll.specs.Standing.{StandsFor as TwinStandsFor}
use Rattle.twin_schedule.specs.World.{second_of}
use Rattle.twin_schedule.specs.inside.Choosing.{CanOpen}
use Rattle.twin_schedule.proofs.Opening.{can-open, memory-on}
use Rattle.twin_schedule.proofs.choosing.opening_of.Goals as goal

pub returns-clause-stands : goal.returns-clause-stands
returns-clause-stands c = λ users. subst (λ settings. TwinStandsFor
    (record { first = settings; second = second_of settings c.args.second.now }) users c.in_ok-twin.twin [])
    c.in_ok-settings.ensures (c.in_ok-twin.ensures.stands users)

pub returns-in_err-twin-clause-memory : goal.returns-in_err-twin-clause-memory
returns-in_err-twin-clause-memory c = λ keyed opens.
    memory-on c.from_residual-in_err-twin.result c.in_err-twin.field-0.0
    c.from_residual-in_err-twin.ensures.1
    (c.in_err-twin.ensures.memory
    (subst (λ settings. CanOpen settings.ckn c.args.second.now) (sym c.in_ok-settings.ensures)
    (can-open c.args.chosen.now c.args.second.now keyed opens)))
