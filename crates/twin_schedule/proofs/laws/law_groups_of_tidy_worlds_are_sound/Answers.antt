use Rattle.twin_schedule.specs.World.{pair_of}
use Rattle.twin_schedule.proofs.TidyWorlds.{tidy-beginning}
use Rattle.twin_schedule.proofs.laws.law_groups_of_tidy_worlds_are_sound.Goals as goal

pub returns-clause-start : goal.returns-clause-start
returns-clause-start c = tidy-beginning

pub returns-clause-legal : goal.returns-clause-legal
returns-clause-legal c = λ w g tidy.
    c.law_group_runs_are_sound.ensures.legal (pair_of w) w.kept.users w.run g tidy.legal

pub returns-clause-thrifty : goal.returns-clause-thrifty
returns-clause-thrifty c = λ w g tidy.
    c.law_group_runs_are_sound.ensures.thrifty (pair_of w) w.kept.users w.run g tidy.legal

pub returns-clause-unforged : goal.returns-clause-unforged
returns-clause-unforged c = λ w g tidy.
    c.law_group_runs_are_sound.ensures.unforged (pair_of w) w.kept.users w.run g tidy.legal

pub returns-clause-one_key : goal.returns-clause-one_key
returns-clause-one_key c = λ w g tidy.
    c.law_what_holds_in_each_group.ensures.one_key (pair_of w) w.kept.users w.run g tidy.legal
    (c.law_group_runs_are_sound.ensures.both w.run tidy.fresh)

pub returns-clause-hitless : goal.returns-clause-hitless
returns-clause-hitless c = λ w g tidy.
    c.law_what_holds_in_each_group.ensures.hitless (pair_of w) w.kept.users w.run g tidy.legal
    (c.law_group_runs_are_sound.ensures.both w.run tidy.fresh)
