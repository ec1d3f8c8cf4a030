use Rattle.std.proofs.Common.{sym, ◌∙◌}
use Rattle.lan_core.specs.Lives.{transmitting_at}
use Rattle.next_numbers.proofs.Counting.{shown-none, shown-some}
use Rattle.next_numbers.proofs.numbers.Numbers.shown.Goals as goal

pub returns-in-None : goal.returns-in-None
returns-in-None c = λ settings users r stands tell.
    shown-none settings c.args.station r (transmitting_at settings c.args.station r)
    (sym c.in-None.is ∙ c.transmitting.ensures settings users r stands)

pub returns-in-Some : goal.returns-in-Some
returns-in-Some c = λ settings users r stands tell.
    shown-some settings c.args.station _ c.in-Some.epoch c.next.result r
    (transmitting_at settings c.args.station r)
    (sym c.in-Some.is ∙ c.transmitting.ensures settings users r stands)
    (c.next.ensures ∙ tell c.args.station c.in-Some.epoch)
