use Rattle.std.proofs.Common.{refl, sym, ◌∙◌}
use Rattle.twin_schedule.specs.Acts.{look}
use Rattle.twin_schedule.specs.Lines.{deed}
use Rattle.twin_schedule.proofs.Opening.{joins-never, joins-of, second-did}
use Rattle.twin_schedule.proofs.Replaying.{allowed-does, none-of, none-stage, refused-does, staged-does}
use Rattle.twin_schedule.proofs.commands.TwinReplay.perform.Goals as goal

pub returns-in-Some : goal.returns-in-Some
returns-in-Some g c =
    refused-does c.args.line.now c.line.result c.in-Some.kind _
    (λ w reached. sym c.in-Some.is ∙ c.refusal.ensures.first w reached) c.line.ensures

pub returns-in-Some-stage : goal.returns-in-Some-stage
returns-in-Some-stage g c =
    allowed-does c.args.line.now _ _ c.perform.result
    (λ w reached. sym (none-of _ c.in_default.not-Some) ∙ c.refusal.ensures.first w reached)
    (staged-does (look (λ w. deed c.args.line.now w)) _ _ c.in-Some-stage.stage c.perform.new.self
    c.perform.result c.in-Some-stage.is refl refl
    (c.perform.ensures (λ w reached. sym (none-of _ c.in_default.not-Some)
    ∙ c.refusal.ensures.staged c.in-Some-stage.stage c.in-Some-stage.is w reached)))

pub returns-in-Group2 : goal.returns-in-Group2
returns-in-Group2 g c =
    let form = rw c.in-Group2.is at c.requires in
    let unbegun = none-stage _ c.in_default-stage.not-Some in
    let may = joins-of c.args.line.now c.in-Group2.cak c.in-Group2.ckn c.args.self.now.chosen.group
    c.args.self.now.second c.refusal.result c.in-Group2.is (none-of _ c.in_default.not-Some)
    (c.refusal.ensures.second unbegun) in
    allowed-does c.args.line.now _ _ _
    (λ w reached. sym (none-of _ c.in_default.not-Some) ∙ c.refusal.ensures.first w reached)
    (second-did c.args.line.now c.in-Group2.cak c.in-Group2.ckn _ _ c.take_second.result c.in-Group2.is
    unbegun (form.1.0, form.1.1) may c.take_second.ensures.second c.take_second.ensures.memory refl)

pub returns-in_default-line : goal.returns-in_default-line
returns-in_default-line g c =
    allowed-does c.args.line.now _ _ _
    (λ w reached. sym (none-of _ c.in_default.not-Some) ∙ c.refusal.ensures.first w reached)
    (joins-never c.args.line.now _ _ _ c.in_default-line.not-Plain c.in_default-line.not-Group2
    (none-stage _ c.in_default-stage.not-Some))
