use Rattle.std.proofs.Common.{refl, ap, ◌∙◌}
use Rattle.trace_acts.specs.Links.{without_link}
use Rattle.twin_schedule.specs.Lines.{mended_in}
use Rattle.twin_schedule.proofs.Moving.{stands-kept}
use Rattle.twin_schedule.proofs.stage.Stage.mend.Goals as goal

pub returns : goal.returns
returns c = λ w stands.
    stands-kept w (mended_in c.args.from c.args.to w.kept) c.args.self.now _ stands stands.begun
    stands.named stands.chosen stands.keyed stands.line stands.twin stands.there stands.draws refl stands.users
    (c.mend.ensures ∙ ap (λ cuts. without_link c.args.from c.args.to cuts) stands.cuts)
    stands.first_party stands.second_party refl refl
