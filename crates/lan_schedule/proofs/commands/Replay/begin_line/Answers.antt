use Rattle.std.proofs.Common.{refl, sym, ap}
use Rattle.std.specs.Prelude.{Option}
use Rattle.lan_schedule.specs.declared.stage.Stage.{Stage}
use Rattle.lan_schedule.specs.Shown.{words_in}
use Rattle.lan_schedule.proofs.Replaying.{line-staged, line-unbegun, none-stage}
use Rattle.lan_schedule.proofs.Sending.{line-stands}
use Rattle.lan_schedule.proofs.commands.Replay.begin_line.Goals as goal

pub returns-in-Some-clause-stands : goal.returns-in-Some-clause-stands
returns-in-Some-clause-stands c = λ w stands.
    line-staged c.args.number w _ _ c.in-Some.stage _ c.in-Some.is refl refl refl
    (λ v at. line-stands c.args.number v _ _ (record {
      lag = refl;
      lan = refl;
      draws = refl;
      frames = refl;
      tally = refl;
      raced = refl;
      steps = refl;
    }) refl refl refl refl at) stands

pub returns-clause-stands : goal.returns-clause-stands
returns-clause-stands c = λ w stands.
    line-unbegun c.args.number w _ _ (none-stage _ c.in_default.not-Some)
    (none-stage _ c.in_default.not-Some) refl refl refl refl refl stands

pub returns-in-Some-clause-words : goal.returns-in-Some-clause-words
returns-in-Some-clause-words c = sym (ap (λ (o : Option Stage). words_in o) c.in-Some.is)
