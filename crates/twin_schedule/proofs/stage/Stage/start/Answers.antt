use Rattle.std.proofs.Common.{ℕ}
use Rattle.cak_roll.specs.declared.event.TwinEvent.TheVariants.{Start}
use Rattle.twin_schedule.specs.Acts.{happen, seq}
use Rattle.twin_schedule.specs.Lines.{begin}
use Rattle.twin_schedule.proofs.Doing.{then-ok}
use Rattle.twin_schedule.proofs.Happening.{plainly}
use Rattle.twin_schedule.proofs.Moving.{begin-does, same-did}
use Rattle.twin_schedule.proofs.stage.Stage.start.Goals as goal

pub returns : goal.returns
returns g c = λ small.
    same-did (λ (n : ℕ). seq begin (happen (Start c.args.name c.args.sci n))) c.octet_of.result
    c.args.priority _ _ _ (c.octet_of.ensures small)
    (then-ok begin (happen (Start c.args.name c.args.sci c.octet_of.result)) _ _ _ _ (begin-does _)
    (plainly (Start c.args.name c.args.sci c.octet_of.result) _ _ _ (λ users. tt) c.happen.ensures))
