use Rattle.std.proofs.Common.{sym, ap, ◌∙◌}
use Rattle.cak_roll.specs.Twin.{events_in}
use Rattle.cak_roll.proofs.twin.Twin.part.Goals as goal

pub returns-in-Start : goal.returns-in-Start
returns-in-Start c = λ pair users t stands.
    c.start.ensures pair t ∙ ap (events_in pair c.args.group t) (sym c.in-Start.is)

pub returns-in-Leave : goal.returns-in-Leave
returns-in-Leave c = λ pair users t stands.
    ap (events_in pair c.args.group t) (sym c.in-Leave.is)

pub returns-in-Adopt : goal.returns-in-Adopt
returns-in-Adopt c = λ pair users t stands.
    c.adoption.ensures pair users t stands ∙ ap (events_in pair c.args.group t) (sym c.in-Adopt.is)

pub returns-in-Tick : goal.returns-in-Tick
returns-in-Tick c = λ pair users t stands.
    c.tick.ensures pair users t stands ∙ ap (events_in pair c.args.group t) (sym c.in-Tick.is)

pub returns-in-Deliver : goal.returns-in-Deliver
returns-in-Deliver c = λ pair users t stands.
    c.delivery.ensures pair users t stands ∙ ap (events_in pair c.args.group t) (sym c.in-Deliver.is)

pub returns-in-Restart : goal.returns-in-Restart
returns-in-Restart c = λ pair users t stands.
    c.restart.ensures pair users t stands ∙ ap (events_in pair c.args.group t) (sym c.in-Restart.is)

pub returns-in-Send : goal.returns-in-Send
returns-in-Send c = λ pair users t stands.
    c.sending.ensures pair users t stands ∙ ap (events_in pair c.args.group t) (sym c.in-Send.is)
