use Rattle.std.proofs.Common.{arith, ◌==◌, refl}
use Rattle.lan_core.specs.declared.event.Event.TheVariants.{Emit}
use Rattle.lan_schedule.specs.Acts.{happen}
use Rattle.lan_schedule.proofs.Happening.{plainly}
use Rattle.lan_schedule.proofs.Looking.{unless-does}
use Rattle.lan_schedule.proofs.Looking.{unless-skips}
use Rattle.lan_schedule.proofs.stage.Stage.emit.Goals as goal

pub returns : goal.returns
returns g c =
    unless-does (c.args.pn == 0) (happen Emit) _ _ _ (grind arith)
    (plainly Emit _ _ _ (λ w. refl) (λ raced racing settings run cs says. says)
    (λ settings run. tt) c.happen.ensures)

pub returns-then-pn-eq0 : goal.returns-then-pn-eq0
returns-then-pn-eq0 g c = unless-skips (c.args.pn == 0) (happen Emit) _ (grind arith)
