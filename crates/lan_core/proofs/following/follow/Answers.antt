use Rattle.std.proofs.Common.{◌<◌, length, List, subst, sym, arith}
use Rattle.std.proofs.lemmas.List.{take_all}
use Rattle.rx_slots.specs.Standing.{StandsFor as SlotsStandFor}
use Rattle.rx_slots.specs.Histories.{Receiving}
use Rattle.sak_exchange.specs.declared.change.Change.{Change}
use Rattle.lan_core.specs.inside.Following.{followed}
use Rattle.lan_core.proofs.SlotsFollow.{followed-next}
use Rattle.lan_core.proofs.following.follow.Goals as goal

pub loop-change-preserved : goal.loop-change-preserved
loop-change-preserved c = λ own window h s.
    let here : c.loop-change.change-index < length c.args.changes.now = omega (arith, c.loop-change-test.true) in
    subst (λ (g : List Receiving). SlotsStandFor own window c.follow_one.new.slots g)
    (sym (followed-next c.args.changes.now c.loop-change.change-index _ h here))
    (c.follow_one.ensures own window _ (c.loop-change.invariant own window h s))

pub returns : goal.returns
returns c = λ own window h s.
    subst (λ (cs : List Change). SlotsStandFor own window c.loop-change.slots (followed cs h))
    (take_all c.loop-change.change-index c.args.changes.now (omega (arith, c.loop-change-test.false)))
    (c.loop-change.invariant own window h s)
