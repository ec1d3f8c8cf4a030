use Rattle.std.proofs.Common.{◌∙◌, Bool, sym, arith}
use Rattle.std.proofs.Math.Numerals.{add-one}
use Rattle.sak_exchange.specs.declared.report.Report.{Report}
use Rattle.sak_exchange.specs.Making.{is_in_roster}
use Rattle.mka_station.proofs.Filters.{all-first, all-more}
use Rattle.mka_station.proofs.saying.are_in_roster.Goals as goal

pub returns-then-not-in_roster : goal.returns-then-not-in_roster
returns-then-not-in_roster c = λ base own h s.
    let q : Report → Bool = λ r. is_in_roster h r.mi in
    sym (all-first q c.args.live.now c.loop-report.report-index _ (omega arith) (sym (c.in_roster.ensures base own h s) ∙ c.if-not-in_roster.true))

pub loop-report-preserved : goal.loop-report-preserved
loop-report-preserved c = λ base own h s.
    let q : Report → Bool = λ r. is_in_roster h r.mi in
    rw add-one (all-more q c.args.live.now c.loop-report.report-index _ (omega arith) (c.loop-report.invariant base own h s) (sym (c.in_roster.ensures base own h s) ∙ c.if-not-in_roster.false))
