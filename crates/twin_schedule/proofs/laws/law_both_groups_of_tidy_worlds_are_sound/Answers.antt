use Rattle.std.proofs.Common.{◌∷◌, subst}
use Rattle.cak_roll.specs.Twin.{IsTwinRun}
use Rattle.twin_schedule.specs.World.{pair_of}
use Rattle.twin_schedule.proofs.TidyWorlds.{run-before}
use Rattle.twin_schedule.proofs.laws.law_both_groups_of_tidy_worlds_are_sound.Goals as goal

pub returns-clause-once : goal.returns-clause-once
returns-clause-once c = λ w tidy.
    c.law_each_packet_number_is_used_once_over_both.ensures.twin (pair_of w) w.kept.users w.run
    tidy.legal (c.law_group_runs_are_sound.ensures.both w.run tidy.fresh)

pub returns-clause-refused : goal.returns-clause-refused
returns-clause-refused c = λ w later t x g s user place why tidy is sends unclaimed.
    c.law_a_send_is_refused_only_in_silence.ensures.shown (pair_of w) w.kept.users x t g s user place
    why
    (run-before (pair_of w) w.kept.users later (x ∷ t)
    (subst (λ t. IsTwinRun (pair_of w) w.kept.users t) is tidy.legal)) sends unclaimed
