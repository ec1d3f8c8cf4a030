use Rattle.std.proofs.Common.{ℕ, refl}
use Rattle.lan_core.specs.declared.event.Event.TheVariants.{Start}
use Rattle.lan_schedule.specs.Acts.{happen, seq}
use Rattle.lan_schedule.specs.Lines.{begin}
use Rattle.lan_schedule.proofs.Doing.{then-ok}
use Rattle.lan_schedule.proofs.Happening.{plainly}
use Rattle.lan_schedule.proofs.Sending.{begin-does, same-did}
use Rattle.lan_schedule.proofs.stage.Stage.start.Goals as goal

pub happen-requires : goal.happen-requires
happen-requires g c = (c.law_names_are_spelled.ensures, c.requires, c.octet_of.type_inv)

pub returns : goal.returns
returns g c = λ small.
    same-did (λ (n : ℕ). seq begin (happen (Start c.args.name c.args.sci n))) c.octet_of.result
    c.args.priority _ _ _ (c.octet_of.ensures small)
    (then-ok begin (happen (Start c.args.name c.args.sci c.octet_of.result)) _ _ _ _ (begin-does _)
    (plainly (Start c.args.name c.args.sci c.octet_of.result) _ _ _ (λ w. refl)
    (λ raced racing settings run cs says. says)
    (λ settings run. tt) c.happen.ensures))
