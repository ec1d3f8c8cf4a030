use Rattle.std.proofs.Common.{refl}
use Rattle.twin_schedule.proofs.Opening.{opens}
use Rattle.twin_schedule.proofs.stage.Stage.new.Goals as goal

pub returns-in-Ok-clause-stands : goal.returns-in-Ok-clause-stands
returns-in-Ok-clause-stands c = λ w named opening.
    opens w c.args.chosen c.args.keyed c.args.line _ opening named refl refl refl
    c.in-Ok.ensures.stands c.in-Ok.ensures.there c.in-Ok.ensures.draws c.new.ensures.items refl c.new-in-Ok.ensures c.new-in-Ok-2.ensures.names
    c.new-in-Ok-2.ensures.senders c.new-in-Ok-2.ensures.spread c.new-in-Ok-3.ensures.names c.new-in-Ok-3.ensures.senders
    c.new-in-Ok-3.ensures.spread
