use Rattle.std.proofs.Common.{refl, ◌∙◌, arith}
use Rattle.lan_core.specs.declared.event.Event.TheVariants.{Emit}
use Rattle.lan_schedule.specs.Acts.{happen}
use Rattle.lan_schedule.proofs.Doing.{in-turn, span-start, span-step, span-exit, span-end}
use Rattle.lan_schedule.proofs.Happening.{plainly}
use Rattle.lan_schedule.proofs.stage.Stage.emit_all.Goals as goal

pub loop-init : goal.loop-init
loop-init g c = (span-start in-turn (λ _. happen Emit) c.args.count _, refl)

pub returns-in_err-happen : goal.returns-in_err-happen
returns-in_err-happen g c = record {
  did = span-exit (λ _. happen Emit) c.loop.counter c.args.count _ _ _ _ _ _ (omega arith)
      c.loop.invariant.0
      (plainly Emit _ _ _ (λ w. refl) (λ raced racing settings run cs says. says)
      (λ settings run. tt)
      c.in_err-happen.ensures) c.from_residual.ensures.1;
  words = c.in_err-happen.ensures.still refl ∙ c.loop.invariant.1;
}

pub loop-preserved : goal.loop-preserved
loop-preserved g c = (
  span-step (λ _. happen Emit) c.loop.counter c.args.count _ _ _ _ (omega arith)
      c.loop.invariant.0
      (plainly Emit _ _ _ (λ w. refl) (λ raced racing settings run cs says. says)
      (λ settings run. tt)
      c.in_ok-happen.ensures),
  c.in_ok-happen.ensures.still refl ∙ c.loop.invariant.1,
)

pub returns : goal.returns
returns g c = record {
  did = span-end (λ _. happen Emit) c.loop.counter c.args.count _ _ _ (omega arith)
      c.loop.invariant.0;
  words = c.loop.invariant.1;
}
