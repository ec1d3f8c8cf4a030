use Rattle.cak_roll.proofs.Twins.{twin-stepped, twin-unforged}
use Rattle.cak_roll.proofs.Legals.{twin-legal}
use Rattle.cak_roll.proofs.Thrifts.{twin-thrifty}
use Rattle.cak_roll.proofs.Overs.{fresh-of}
use Rattle.cak_roll.proofs.Merges.{both-fresh}
use Rattle.cak_roll.proofs.laws.law_group_runs_are_sound.Goals as goal

pub returns-clause-legal : goal.returns-clause-legal
returns-clause-legal c = λ pair users t g run.
    twin-legal (λ settings users x r legal step excused.
    c.law_a_step_keeps_a_run_legal.ensures settings users x r legal step excused)
    pair users t g run

pub returns-clause-stepped : goal.returns-clause-stepped
returns-clause-stepped c = λ pair users t g run. twin-stepped pair users t g run

pub returns-clause-thrifty : goal.returns-clause-thrifty
returns-clause-thrifty c = λ pair users t g run.
    twin-thrifty (λ settings users x r step none thrifty.
    c.law_next_numbers_keep_a_run_thrifty.ensures settings users x r step none thrifty)
    pair users t g run

pub returns-clause-unforged : goal.returns-clause-unforged
returns-clause-unforged c = λ pair users t g run. twin-unforged pair users t g run

pub returns-clause-fresh : goal.returns-clause-fresh
returns-clause-fresh c = λ t g fresh. fresh-of t g fresh

pub returns-clause-both : goal.returns-clause-both
returns-clause-both c = λ t fresh. both-fresh t fresh
