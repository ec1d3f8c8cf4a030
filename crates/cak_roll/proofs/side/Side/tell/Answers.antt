use Rattle.std.proofs.Common.{[], ◌∷◌}
use Rattle.lan_core.specs.Run.{happened}
use Rattle.cak_roll.proofs.SideGoes.{one-happens, one-stops, part-refused}
use Rattle.cak_roll.proofs.side.Side.tell.Goals as goal

pub returns-in_err-facts : goal.returns-in_err-facts
returns-in_err-facts g c settings users r both stands are next ready =
    part-refused c.args.group settings users r both (c.args.event.now ∷ []) _ _ _ _ _ _ _ _
    c.from_residual.ensures.1
    (one-stops settings users r both c.args.event.now (g.D.Draws.nth c.args.draws.now) _
    (c.in_err-facts.ensures settings users r both stands are next ready))

pub returns : goal.returns
returns g c settings users r both stands are next ready = (
  happened c.args.event.now c.in_ok-facts.facts ∷ [],
  one-happens c.args.group settings users r both c.args.event.now (g.D.Draws.nth c.args.draws.now)
      (g.D.Draws.nth c.happen.new.draws) c.happen.new.self c.happen.new.drawn c.args.told.now
      c.push.new.self c.in_ok-facts.facts (c.in_ok-facts.ensures settings users r both stands are next ready)
      c.in_ok-push.ensures,
)
