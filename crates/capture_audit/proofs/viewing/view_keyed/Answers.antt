use Rattle.std.proofs.Common.{false}
use Rattle.std.proofs.lemmas.Result.{err_from_is_err_and}
use Rattle.capture_audit.specs.declared.asks.Asks.{Asks}
use Rattle.capture_audit.specs.declared.auditor.Auditor.{Auditor}
use Rattle.capture_audit.proofs.Opening.{set-told}
use Rattle.capture_audit.proofs.Seeing.{fails-by, set-views}
use Rattle.capture_audit.proofs.viewing.view_keyed.Goals as goal

-- nothing is asked for
abbrev nothing : Asks
nothing = record { shows = false; strict = false; keys = false }

pub returns-in_err-auditor-clause-views : goal.returns-in_err-auditor-clause-views
returns-in_err-auditor-clause-views g c = λ text is numbered.
    let p = err_from_is_err_and c.from_residual.result c.from_residual.ensures.1 in
    let left = g.S.Source.left c.args.source.now in
    rw (p.1, p.2) (set-views Auditor text left left c.args.ring c.args.supply c.in_err-auditor.field-0.0 is
    c.in_err-auditor.ensures.ends)

pub read_capture-read-requires-clause-ready : goal.read_capture-read-requires-clause-ready
read_capture-read-requires-clause-ready g c = λ κs lives. c.new-batch.ensures.ready c.in_ok-auditor.auditor.groups

pub returns-clause-views : goal.returns-clause-views
returns-clause-views g c = λ text is numbered.
    c.view_of.ensures.views text c.args.ring (g.S.Source.left c.read_capture-read.new.source)
    (c.read_capture-read.ensures.reads nothing text c.args.ring is
    (c.new-batch.ensures.stands c.args.ring c.in_ok-auditor.auditor c.in_ok-auditor.ensures.keeps
    (set-told nothing c.args.ring c.of.new.into.items c.new-text.result.items c.new-text.ensures.items c.in_ok-auditor.ensures.lines)))
    numbered

pub returns-clause-read_fault : goal.returns-clause-read_fault
returns-clause-read_fault g c = record {
  rose = λ is. c.read_capture-read.ensures.read_fault nothing c.args.ring
      (c.new-batch.ensures.stands c.args.ring c.in_ok-auditor.auditor c.in_ok-auditor.ensures.keeps
      (set-told nothing c.args.ring c.of.new.into.items c.new-text.result.items c.new-text.ensures.items c.in_ok-auditor.ensures.lines))
      (c.view_of.ensures.read_fault is);
  counts = c.read_capture-read.ensures.fault.counts;
}

pub returns-clause-fault : goal.returns-clause-fault
returns-clause-fault g c =
    fails-by _ c.read_capture-read.result c.view_of.result c.read_capture-read.ensures.fault.rose c.view_of.ensures.fault
