use Rattle.std.proofs.Common.{◌≡◌, ◌==◌, sym, subst, inl, inr}
use Rattle.std.proofs.lemmas.Bool.{cases_Bool, eqb-true, eqb-false}
use Rattle.association_slots.specs.declared.view.Start.{Start}
use Rattle.data_workers.proofs.Public.{told_log}
use Rattle.data_workers.specs.Told.{times_taken}
use Rattle.worker_races.specs.merge.Worked.{BeganAfter, times_in}
use Rattle.worker_races.proofs.weaving.LogsFit.{log-in-order, are-attempts, are-fit, logs-differ, times-own, times-other}
use Rattle.worker_races.proofs.merge.logs.law_logs_of_workers_fit_a_race.Goals as goal

pub returns-clause-in_log : goal.returns-clause-in_log
returns-clause-in_log c u v w sender log is none = log-in-order u w sender log none is.entries is.in_order

pub returns-clause-attempts : goal.returns-clause-attempts
returns-clause-attempts g users base ans r u v w sender log c is learned there place number sendable are =
    are-attempts users base ans r u w sender _ there place number sendable are log is.entries (told_log sender w c learned v log is)

pub returns-clause-fits : goal.returns-clause-fits
returns-clause-fits g settings ans pointed r moves old u v w sender log c is none learned began words are =
    are-fit settings ans pointed r moves old u w sender _
    (subst (λ (start : Start). BeganAfter settings ans sender.station (pointed sender.station) r old start) (sym is.start) began)
    words are log none is.entries (told_log sender w c learned v log is)

pub returns-clause-differ : goal.returns-clause-differ
returns-clause-differ c = logs-differ

pub returns-clause-times : goal.returns-clause-times
returns-clause-times c v w sender log s epoch pn is = elim (cases_Bool (sender.station == s)) [
  | inl same ↦ rw same (subst (λ t. times_in t epoch pn log ≡ times_taken epoch pn log) (eqb-true sender.station s same) (times-own w sender epoch pn log is.entries))
  | inr other ↦ rw other (times-other w sender s epoch pn log (eqb-false sender.station s other) is.entries)
]
