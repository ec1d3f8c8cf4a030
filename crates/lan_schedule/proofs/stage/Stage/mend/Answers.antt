use Rattle.std.proofs.Common.{refl}
use Rattle.lan_schedule.proofs.Sending.{mend-changed}
use Rattle.lan_schedule.proofs.stage.Stage.mend.Goals as goal

pub returns : goal.returns
returns c =
    mend-changed c.args.from c.args.to _ _ (record {
      lag = refl;
      lan = refl;
      draws = refl;
      frames = refl;
      tally = refl;
      raced = refl;
      steps = refl;
    }) refl refl refl c.mend.ensures
