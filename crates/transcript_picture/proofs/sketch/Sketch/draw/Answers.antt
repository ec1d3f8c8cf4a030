use Rattle.std.proofs.Common.{Err, sym, ap, subst}
use Rattle.std.proofs.lemmas.Result.{err_from_is_err_and}
use Rattle.transcript_check.specs.Standing.{Saks}
use Rattle.transcript_picture.specs.inside.Sketching.{IsSketchOf, KeptSketch, Sketches}
use Rattle.transcript_picture.proofs.Taking.{asked-free, asked-not}
use Rattle.transcript_picture.proofs.sketch.Sketch.draw.Goals as goal

pub returns-in_err-take : goal.returns-in_err-take
returns-in_err-take c = λ facts is.
    let old : KeptSketch = record { saks = c.self.inside.epochs; scene = c.self.inside.scene } in
    let new : KeptSketch = record { saks = c.take.new.self; scene = c.self.inside.scene } in
    let now : IsSketchOf facts old = subst (λ (k : KeptSketch). IsSketchOf facts k) (sym c.self.view_is) is in
    let same = ap (λ (s : Saks). record { saks = s; scene = c.self.inside.scene }) c.in_err-take.ensures.kept in
    let p = err_from_is_err_and c.from_residual.result c.from_residual.ensures.1 in
    rw (p.1, p.2) (subst (λ (k : KeptSketch). Sketches facts c.args.fact.now k new (Err c.in_err-take.field-0.0))
    c.self.view_is (asked-not facts c.args.fact.now old new c.in_err-take.field-0.0 now.saks_are
    c.in_err-take.ensures.refused same))

pub returns : goal.returns
returns c = λ facts is.
    let old : KeptSketch = record { saks = c.self.inside.epochs; scene = c.self.inside.scene } in
    let now : IsSketchOf facts old = subst (λ (k : KeptSketch). IsSketchOf facts k) (sym c.self.view_is) is in (
      asked-free facts c.args.fact.now c.self.inside.epochs c.in_ok-take.field-0 now.saks_are
          c.in_ok-take.ensures.refused,
      record {
        saks_are = c.in_ok-take.ensures.taken facts now.saks_are;
        shows = c.in_ok-take-2.ensures facts now.shows;
      },
    )
