use Rattle.std.proofs.Common.{◌≡◌, ◌+◌, ◌∙◌, ◌≤◌, suc, length, ◌∷◌, [], ◌++◌, Ok, Err, refl, sym, ap, subst, arith}
use Rattle.std.proofs.lemmas.Result.{err_from_is_err_and}
use Rattle.transcript_check.specs.Standing.{Maps, StandsFor}
use Rattle.transcript_check.proofs.Lines.{takes-kept, takes-life}
use Rattle.transcript_check.proofs.Steps.{noted, with_count, top}
use Rattle.transcript_check.proofs.notes.Notes.note.Goals as goal

pub returns : goal.returns
returns c = record {
  noted = λ facts stands.
      let number = c.self.inside.count + 1 in
      let counted : c.self.inside.count ≡ length facts =
      ap (λ (m : Maps). m.count) c.self.view_is ∙ stands.count in
      let is : number ≡ suc (length facts) = omega (arith, counted) in
      let few = c.requires in
      let same : c.self.inside.count ≡ c.args.self.now.count = ap (λ (m : Maps). m.count) c.self.view_is in
      let less : number ≤ top = omega (arith, few, same) in
      let both = noted facts c.args.fact.now c.args.self.now c.take.new.self number (Ok tt) stands is less c.in_ok-take.ensures in
      (both.0, subst (λ (m : Maps). StandsFor (facts ++ c.args.fact.now ∷ []) (with_count number m)) (sym c.self-2.view_is) both.1);
  kept = tt;
  life = λ s mi is. refl;
}

pub returns-in_err-take : goal.returns-in_err-take
returns-in_err-take c =
    let p = err_from_is_err_and c.from_residual.result c.from_residual.ensures.1 in
    rw (p.1, p.2) (record {
      noted = λ facts stands.
          let number = c.self.inside.count + 1 in
          let counted : c.self.inside.count ≡ length facts =
          ap (λ (m : Maps). m.count) c.self.view_is ∙ stands.count in
          let is : number ≡ suc (length facts) = omega (arith, counted) in
          let few = c.requires in
          let same : c.self.inside.count ≡ c.args.self.now.count = ap (λ (m : Maps). m.count) c.self.view_is in
          let less : number ≤ top = omega (arith, few, same) in
          noted facts c.args.fact.now c.args.self.now c.take.new.self number (Err c.in_err-take.field-0.0) stands is less c.in_err-take.ensures;
      kept = takes-kept (c.self.inside.count + 1) c.args.fact.now c.args.self.now c.take.new.self c.in_err-take.field-0.0 c.in_err-take.ensures;
      life = λ s mi is. absurd (takes-life (c.self.inside.count + 1) c.args.fact.now c.args.self.now c.take.new.self c.in_err-take.field-0.0 s mi c.in_err-take.ensures is);
    })
