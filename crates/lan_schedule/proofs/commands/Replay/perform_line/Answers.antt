use Rattle.std.proofs.Common.{refl}
use Rattle.lan_schedule.specs.Lines.{act_of}
use Rattle.lan_schedule.proofs.Replaying.{numbered-does}
use Rattle.lan_schedule.proofs.RunsRaces.{runs-numbered}
use Rattle.lan_schedule.proofs.SeatsBack.{same-out}
use Rattle.lan_schedule.proofs.commands.Replay.perform_line.Goals as goal

pub returns : goal.returns
returns g c =
    let act = act_of c.args.line in
    let begins = c.begin_line.ensures in
    let performed = c.perform.ensures in record {
      does = numbered-does c.args.number act _ _ _ _ begins.stands refl performed.does;
      race = λ end. runs-numbered c.args.number act _ _ _ _ begins.stands refl begins.words
          (performed.race end);
      seats = same-out _ _ _ begins.words performed.seats;
    }
