use Rattle.std.proofs.Common.{refl, sym, ap, ◌∙◌, subst, ◌+◌, ℕ, min, Ok}
use Rattle.lan_core.specs.declared.fact.Fact.{Fact}
use Rattle.transcript_check.specs.Standing.{Maps}
use Rattle.transcript_check.specs.inside.Steps.{Takes}
use Rattle.transcript_check.proofs.notes.Notes.take.Goals as goal

pub returns-in-Arrived : goal.returns-in-Arrived
returns-in-Arrived c =
    let old : Maps = c.args.self.now in
    subst (λ (fact : Fact). Takes c.args.number fact old c.pass.new.self (Ok tt)) (sym c.in-Arrived.is) (
      refl,
      c.pass.ensures
          ∙ ap (λ (n : ℕ). record old { missed = min (old.missed + n) 18446744073709551615 }) (c.missed_by.ensures c.in-Arrived.frame c.in-Arrived.station),
    )
