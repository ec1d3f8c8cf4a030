use Rattle.std.proofs.Common.{sym, ◌∙◌}
use Rattle.rollover_program.specs.declared.status.Status.TheVariants.{ReadFault, WriteFault, Forged}
use Rattle.rollover_program.proofs.Carried.{caused, never_usage}
use Rattle.rollover_program.proofs.Rolled.{rolled}
use Rattle.rollover_program.proofs.commands.roll.roll.Goals as goal

pub returns-clause-carried : goal.returns-clause-carried
returns-clause-carried g c = record {
  ends = λ text told.
      rw c.status_of_replay.ensures (rolled c.law_tidy_worlds_of_two_groups_are_promised.ensures text _ _ _ _
      c.replay_two.result (c.replay_two.ensures.replayed.told text told));
  no_usage = λ e. never_usage c.replay_two.result (sym c.status_of_replay.ensures ∙ e);
  read_cause = λ e. c.replay_two.ensures.replayed.read_fault
      (caused c.replay_two.result ReadFault (λ e. cc e) (sym c.status_of_replay.ensures ∙ e));
  write_cause = λ e. c.replay_two.ensures.replayed.write_fault
      (caused c.replay_two.result WriteFault (λ e. cc e) (sym c.status_of_replay.ensures ∙ e));
}

pub returns-clause-unforged : goal.returns-clause-unforged
returns-clause-unforged g c = λ line e. c.replay_two.ensures.unforged line
    (caused c.replay_two.result (Forged line) (λ e. cc e) (sym c.status_of_replay.ensures ∙ e))

pub returns-clause-turned : goal.returns-clause-turned
returns-clause-turned g c = (c.replay_two.result, c.replay_two.ensures.turned, c.status_of_replay.ensures)
