use Rattle.std.proofs.Common.{◌≡◌, ◌∙◌, ℕ, Option, None, sym, ap, subst}
use Rattle.std.specs.Prelude.{OnOk}
use Rattle.transcript_check.specs.declared.named.Named.{Named}
use Rattle.transcript_check.specs.Standing.{Maps, first_of}
use Rattle.transcript_check.specs.inside.Steps.{IsNamed}
use Rattle.transcript_check.proofs.Bound.{no-one}
use Rattle.transcript_check.proofs.notes.Notes.name.Goals as goal

pub returns-in-None-clause-named : goal.returns-in-None-clause-named
returns-in-None-clause-named c = λ there.
    let old : Maps = c.args.self.now in
    let whole : old.one_key ≡ None =
    ap (λ (m : Maps). m.one_key) (sym c.self.view_is) ∙ no-one c.self.inside.one_key (sym c.is_some.ensures ∙ c.if-is_some.false) in
    let first : first_of old c.args.id ≡ None = sym c.first_of.ensures ∙ c.in-None.is in
    subst (λ (o : Option (ℕ × ℕ)). OnOk c.put_key.result (IsNamed c.args.number c.args.id c.args.named old c.put_key.new.self o (first_of old c.args.id))) (sym whole)
    (subst (λ (o : Option (ℕ × Named)). OnOk c.put_key.result (IsNamed c.args.number c.args.id c.args.named old c.put_key.new.self None o)) (sym first)
    (c.put_key.ensures.put c.args.named.sak there))
