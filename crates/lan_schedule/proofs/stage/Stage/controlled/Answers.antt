use Rattle.std.proofs.Common.{length, refl, sym, ap, ◌∙◌}
use Rattle.lan_schedule.specs.declared.deed.Deed.{Deed}
use Rattle.lan_schedule.specs.Ends.{moment}
use Rattle.lan_schedule.specs.Kinds.{wrong_frame}
use Rattle.lan_schedule.specs.Lines.{act}
use Rattle.lan_schedule.proofs.Commanding.{none-of}
use Rattle.lan_schedule.proofs.Controlling.{frame-wrong, frame-right}
use Rattle.lan_schedule.proofs.Sending.{same-did}
use Rattle.lan_schedule.proofs.stage.Stage.controlled.Goals as goal

pub returns-in-Some : goal.returns-in-Some
returns-in-Some g c = rw c.refused.ensures (frame-wrong c.args.kept c.in-Some.kind
    (moment c.args.self.now c.args.outlet.now)
    (moment (record c.args.self.now { line = c.number-self.result }) c.args.outlet.now) (record {
      lag = refl;
      lan = refl;
      draws = refl;
      frames = refl;
      tally = refl;
      raced = refl;
      steps = refl;
    }) c.number-self.ensures refl refl refl refl
    (ap (λ (d : Deed). wrong_frame d (length c.args.self.now.frames.frames))
    (sym c.deed-deed.ensures.value)
    ∙ (sym c.wrong_frame.ensures ∙ c.in-Some.is)))

pub returns : goal.returns
returns g c =
    let mid = moment (record c.args.self.now { line = c.number-self.result }) c.args.outlet.now in
    let new = moment c.perform.new.self c.perform.new.outlet in
    frame-right c.args.kept (moment c.args.self.now c.args.outlet.now) mid new c.perform.result
    (record {
      lag = refl;
      lan = refl;
      draws = refl;
      frames = refl;
      tally = refl;
      raced = refl;
      steps = refl;
    }) c.number-self.ensures refl refl refl refl
    (ap (λ (d : Deed). wrong_frame d (length c.args.self.now.frames.frames))
    (sym c.deed-deed.ensures.value)
    ∙ (sym c.wrong_frame.ensures ∙ none-of c.wrong_frame.result c.in_default.not-Some))
    (same-did act c.deed-deed.result c.args.kept.deed mid new c.perform.result
    c.deed-deed.ensures.value c.perform.ensures)

pub perform-requires : goal.perform-requires
perform-requires g c = c.deed-deed.ensures.fits.ranges
