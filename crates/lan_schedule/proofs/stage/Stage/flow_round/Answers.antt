use Rattle.std.proofs.Common.{refl, ◌∙◌}
use Rattle.lan_schedule.specs.Lines.{flow_round}
use Rattle.lan_schedule.proofs.Doing.{in-turn, leads-start, leads-step, leads-err, handed-on, memory-does}
use Rattle.lan_schedule.proofs.Looking.{due-leads, begin-does, round-begun}
use Rattle.lan_schedule.proofs.Recorded.{seats-kept}
use Rattle.lan_schedule.proofs.stage.Stage.flow_round.Goals as goal

pub returns-in_err-round : goal.returns-in_err-round
returns-in_err-round g c =
    let begun = leads-step _ _ _ _ _ _ (leads-start in-turn flow_round _) (begin-does _ _
    (round-begun _ _ (record {
      line = refl;
      lag = refl;
      lan = refl;
      draws = refl;
      users = refl;
      cuts = refl;
      words = refl;
      tally = refl;
      raced = refl;
      steps = refl;
    }) c.begin_round.ensures) refl) in
    handed-on _ _ _ _ _ (leads-err _ _ _ _ _ _ _ begun c.in_err-round.ensures)
    c.from_residual.ensures.1

pub returns-in_err-frames : goal.returns-in_err-frames
returns-in_err-frames g c =
    let begun = leads-step _ _ _ _ _ _ (leads-start in-turn flow_round _) (begin-does _ _
    (round-begun _ _ (record {
      line = refl;
      lag = refl;
      lan = refl;
      draws = refl;
      users = refl;
      cuts = refl;
      words = refl;
      tally = refl;
      raced = refl;
      steps = refl;
    }) c.begin_round.ensures) refl) in
    let ticked = leads-step _ _ _ _ _ _ begun c.in_ok-round.ensures in
    handed-on _ _ _ _ _ (ticked.leads _ _ (memory-does _ _ _ refl refl (seats-kept _)))
    c.from_residual-in_err-frames.ensures.1

pub returns : goal.returns
returns g c =
    let begun = leads-step _ _ _ _ _ _ (leads-start in-turn flow_round _) (begin-does _ _
    (round-begun _ _ (record {
      line = refl;
      lag = refl;
      lan = refl;
      draws = refl;
      users = refl;
      cuts = refl;
      words = refl;
      tally = refl;
      raced = refl;
      steps = refl;
    }) c.begin_round.ensures) refl) in
    let ticked = leads-step _ _ _ _ _ _ begun c.in_ok-round.ensures in
    ticked.leads _ _ ((due-leads c.deref.result.now _
    (c.deref.ensures.value ∙ c.in_ok-frames.ensures.due)).leads _ _
    (rw c.due.ensures.kept at c.spread_all.ensures))
