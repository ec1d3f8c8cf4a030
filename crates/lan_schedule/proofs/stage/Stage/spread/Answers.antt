use Rattle.std.proofs.Common.{refl}
use Rattle.lan_schedule.proofs.Doing.{leads-step, leads-err, handed-on}
use Rattle.lan_schedule.proofs.Looking.{spread-leads, mark-does, marked}
use Rattle.lan_schedule.proofs.stage.Stage.spread.Goals as goal

pub returns-in_err-to_others : goal.returns-in_err-to_others
returns-in_err-to_others g c =
    handed-on _ _ _ _ _ (leads-err _ _ _ _ _ _ _
    (spread-leads c.args.frame c.sender-from.result _ c.sender-from.ensures)
    c.in_err-to_others.ensures)
    c.from_residual.ensures.1

pub returns : goal.returns
returns g c =
    let spreads = leads-step _ _ _ _ _ _
    (spread-leads c.args.frame c.sender-from.result _ c.sender-from.ensures)
    c.in_ok-to_others.ensures in
    spreads.leads _ _
    (mark-does c.args.frame _ _ (marked c.args.frame _ _ (record {
      line = refl;
      lag = refl;
      lan = refl;
      draws = refl;
      users = refl;
      cuts = refl;
      words = refl;
      tally = refl;
      raced = refl;
      steps = refl;
    }) c.mark.ensures) refl)
