use Rattle.std.proofs.Common.{refl}
use Rattle.lan_schedule.proofs.Looking.{marked}
use Rattle.lan_schedule.proofs.stage.Stage.lose.Goals as goal

pub returns : goal.returns
returns c =
    marked c.args.frame _ _ (record {
      line = refl;
      lag = refl;
      lan = refl;
      draws = refl;
      users = refl;
      cuts = refl;
      words = refl;
      tally = refl;
      raced = refl;
      steps = refl;
    }) c.mark.ensures
