use Rattle.std.proofs.Common.{refl}
use Rattle.lan_schedule.proofs.Recorded.{seats-kept}
use Rattle.lan_schedule.proofs.Sending.{cut-changed}
use Rattle.lan_schedule.proofs.stage.Stage.cut.Goals as goal

pub returns-clause-ok : goal.returns-clause-ok
returns-clause-ok c =
    cut-changed c.args.from c.args.to _ _ (record {
      lag = refl;
      lan = refl;
      draws = refl;
      frames = refl;
      tally = refl;
      raced = refl;
      steps = refl;
    }) refl refl refl c.in_ok-cut.ensures

pub returns-clause-seats : goal.returns-clause-seats
returns-clause-seats c = seats-kept _

pub returns-in_err-cut-clause-seats : goal.returns-in_err-cut-clause-seats
returns-in_err-cut-clause-seats c = seats-kept _
