use Rattle.std.proofs.Common.{refl}
use Rattle.station_words.proofs.Public.{out-looked}
use Rattle.lan_schedule.proofs.Happening.{tick-does}
use Rattle.lan_schedule.proofs.Recorded.{seats-same}
use Rattle.lan_schedule.proofs.stage.Stage.tick.Goals as goal

pub returns : goal.returns
returns g c =
    tick-does c.args.station c.next-next.result _ _ _ _ refl (record {
      lag = refl;
      lan = refl;
      draws = refl;
      frames = refl;
      tally = refl;
      raced = refl;
      steps = refl;
    }) refl refl refl c.next-next.ensures.next c.next-next.ensures.ahead
    c.next-next.ensures.looked (seats-same _ _ c.next-next.ensures.same (out-looked _ _ c.next-next.ensures.looked)) c.happen.ensures
