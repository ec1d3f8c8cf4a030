use Rattle.std.proofs.Common.{sym, ◌∙◌}
use Rattle.rollover_program.specs.declared.status.Status.TheVariants.{ReadFault, WriteFault}
use Rattle.rollover_program.proofs.Carried.{ran, caused, never_usage}
use Rattle.rollover_program.specs.Outside.{outside}
use Rattle.rollover_program.proofs.Turned.{run_turned}
use Rattle.rollover_program.proofs.commands.run.run.Goals as goal

pub returns-clause-carried : goal.returns-clause-carried
returns-clause-carried g c = record {
  ends = λ text told.
      rw c.status_of_replay.ensures (ran c.law_tidy_runs_are_promised.ensures c.args.summary text _ _ _ _
      c.replay.result (c.replay.ensures.replayed.told text told));
  no_usage = λ e. never_usage c.replay.result (sym c.status_of_replay.ensures ∙ e);
  read_cause = λ e. c.replay.ensures.replayed.read_fault
      (caused c.replay.result ReadFault (λ e. cc e) (sym c.status_of_replay.ensures ∙ e));
  write_cause = λ e. c.replay.ensures.replayed.write_fault
      (caused c.replay.result WriteFault (λ e. cc e) (sym c.status_of_replay.ensures ∙ e));
}

pub returns-clause-turned : goal.returns-clause-turned
returns-clause-turned g c =
    run_turned g.S.Source.Gave c.args.summary c.args.source.now c.replay.new.source
    (outside g.S.Source g.K.Sink c.args.source.now c.replay.new.source c.args.sink.now c.replay.new.sink)
    c.replay.result c.status_of_replay.result c.replay.ensures.turned c.status_of_replay.ensures
