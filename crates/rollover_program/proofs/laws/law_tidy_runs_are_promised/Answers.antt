use Rattle.lan_schedule.specs.World.{settings}
use Rattle.rollover_program.proofs.laws.law_tidy_runs_are_promised.Goals as goal

pub returns : goal.returns
returns c = λ w tidy calm.
    let s = tidy.sound in
    record {
      sound = record {
        legal = s.legal;
        fresh = s.fresh;
        unforged = s.unforged;
        thrifty = s.thrifty calm;
      };
      once = c.law_once.ensures.legal (settings w) w.kept.users w.run s.legal s.fresh s.unforged;
      one_key =
          c.law_one_key.ensures.legal (settings w) w.kept.users w.run s.legal s.fresh s.unforged;
      hitless =
          c.law_hitless.ensures.legal (settings w) w.kept.users w.run s.legal s.fresh s.unforged;
      dealt = tidy.dealt;
      cut =
          c.law_a_run_is_cut_into_its_events.ensures.whole (settings w) w.kept.users w.run
          s.legal.stepped;
    }
