use Rattle.std.proofs.Common.{refl}
use Rattle.station_words.proofs.Public.{out-then}
use Rattle.lan_schedule.proofs.RaceRuns.{raced-does, unhired-does}
use Rattle.lan_schedule.proofs.race.run_race.Goals as goal

pub returns-in-Err-clause-did : goal.returns-in-Err-clause-did
returns-in-Err-clause-did g c =
    unhired-does c.args.bursts.now c.args.control.items _ _ _ refl c.in-Err.ensures.tally
    (λ w lines reached seats. c.in-Err.ensures.unhired w lines reached seats)

pub returns-clause-did : goal.returns-clause-did
returns-clause-did g c =
    raced-does c.args.bursts.now c.args.control.items c.args.stage c.crew.new.self _ _ _
    c.in-Ok.crew.workers.items _ _ _ refl c.copied.ensures
    (λ w reached seats. c.in-Ok.ensures.hired w reached seats) c.run_beside-stage.ensures.ran
    c.end_race-outcome.ensures.ends

pub returns-in-Err-clause-seats : goal.returns-in-Err-clause-seats
returns-in-Err-clause-seats g c = c.in-Err.ensures.seats

pub returns-clause-seats : goal.returns-clause-seats
returns-clause-seats g c =
    out-then _ _ _ (c.run_beside-stage.ensures.seats c.args.stage.words c.in-Ok.ensures.seats)
    c.end_race-outcome.ensures.seats
