use Rattle.std.proofs.Common.{◌≡◌, sym, ap, ◌∙◌, subst}
use Rattle.twin_schedule.specs.declared.stage.Stage.{Stage}
use Rattle.twin_schedule.specs.Ends.{IsReached}
use Rattle.twin_schedule.specs.Stages.{StandsFor as StageStandsFor}
use Rattle.twin_schedule.specs.Kinds.{refusal}
use Rattle.twin_schedule.proofs.Replaying.{is-waiting, staged-at}
use Rattle.twin_schedule.proofs.commands.TwinReplay.refusal.Goals as goal

pub returns-in-Some-clause-first : goal.returns-in-Some-clause-first
returns-in-Some-clause-first c = λ w reached.
    c.refusal.ensures.first w (record {
      stands = staged-at w c.args.self.now c.in-Some.stage c.in-Some.is reached.stands;
      tidy = reached.tidy;
    })

pub returns-in-Some-clause-staged : goal.returns-in-Some-clause-staged
returns-in-Some-clause-staged c = λ stage is w reached.
    let same : stage ≡ c.in-Some.stage = let here = c.in-Some.is in cc (is, here) in
    c.refusal.ensures.first w (subst (λ (s : Stage). IsReached StageStandsFor w s) same reached)

pub returns-in-None-clause-first : goal.returns-in-None-clause-first
returns-in-None-clause-first c = λ w reached.
    c.refusal_before.ensures.first c.args.self.now.line
    ∙ sym (ap (λ v. refusal c.args.line.now v)
    (is-waiting w c.args.self.now c.in-None.is reached.stands))
