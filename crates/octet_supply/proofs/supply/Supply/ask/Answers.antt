use Rattle.octet_supply.proofs.Asked.{fills-read}
use Rattle.octet_supply.proofs.supply.Supply.ask.Goals as goal

pub returns-clause-fills : goal.returns-clause-fills
returns-clause-fills g c = λ limit text given s.
    fills-read limit text given c.in_ok-count.count c.read.new.into _ c.args.self.now c.hold.new.self _ _
    c.hold.result c.in_ok-count.ensures.fits c.in_ok-count.ensures.moved c.in_ok-count.ensures.end
    (c.hold.ensures.fills limit text given) s
