use Rattle.lan_core.specs.Legal.{IsLegal}
use Rattle.cak_roll.specs.Twin.{setting_of, run_of}
use Rattle.twin_schedule.specs.World.{pair_of}
use Rattle.rollover_program.proofs.laws.law_tidy_worlds_of_two_groups_are_promised.Goals as goal

pub returns : goal.returns
returns c = λ w tidy.
    let groups = c.law_groups_of_tidy_worlds_are_sound.ensures in
    let both = c.law_both_groups_of_tidy_worlds_are_sound.ensures in
    record {
      stepped = tidy.legal;
      fresh = tidy.fresh;
      each = λ g.
          let legal : IsLegal (setting_of (pair_of w) g) w.kept.users (run_of g w.run) =
          groups.legal w g tidy in
          record {
            legal = legal;
            thrifty = groups.thrifty w g tidy;
            unforged = groups.unforged w g tidy;
            one_key = groups.one_key w g tidy;
            hitless = groups.hitless w g tidy;
            cut =
                c.law_a_run_is_cut_into_its_events.ensures.whole (setting_of (pair_of w) g)
                w.kept.users (run_of g w.run) legal.stepped;
          };
      once = both.once w tidy;
      refused = λ later t x g s user place why is sends unclaimed.
          both.refused w later t x g s user place why tidy is sends unclaimed;
    }
