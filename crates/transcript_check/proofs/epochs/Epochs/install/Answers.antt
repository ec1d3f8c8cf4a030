use Rattle.std.proofs.Common.{◌≡◌, ◌∙◌, None, Ok, Err, Option, refl, sym, subst}
use Rattle.aes_block.specs.declared.secret.Secret.{Secret}
use Rattle.transcript_check.specs.declared.fault.CheckError.TheVariants.{Memory}
use Rattle.transcript_check.specs.Standing.{sak_under}
use Rattle.transcript_check.specs.inside.Steps.{Opens}
use Rattle.transcript_check.proofs.Saks.{no-sak}
use Rattle.transcript_check.proofs.epochs.Epochs.install.Goals as goal

pub returns-in-Ok : goal.returns-in-Ok
returns-in-Ok c =
    let none : sak_under c.args.self.now c.args.station c.args.epoch ≡ None =
    sym c.find.ensures ∙ no-sak c.find.result (sym c.is_some.ensures ∙ c.if-is_some.false) in
    subst (λ (o : Option Secret). Opens c.args.station c.args.epoch c.args.sak c.args.self.now c.put.new.self o (Ok tt)) (sym none)
    (c.in-Ok.ensures.put none)

pub returns-in-Err : goal.returns-in-Err
returns-in-Err c =
    let none : sak_under c.args.self.now c.args.station c.args.epoch ≡ None =
    sym c.find.ensures ∙ no-sak c.find.result (sym c.is_some.ensures ∙ c.if-is_some.false) in
    subst (λ (o : Option Secret). Opens c.args.station c.args.epoch c.args.sak c.args.self.now c.put.new.self o (Err Memory)) (sym none)
    (refl, c.in-Err.ensures.kept)
