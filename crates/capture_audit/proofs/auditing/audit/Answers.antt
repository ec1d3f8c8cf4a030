use Rattle.std.proofs.Common.{inr}
use Rattle.std.proofs.lemmas.Result.{err_from_is_err_and}
use Rattle.capture_audit.proofs.NoneMissed.{broken-told, clean-told, keyed-so, ring-missed}
use Rattle.capture_audit.proofs.Opening.{failed-earlier, ring-ends, rose-earlier}
use Rattle.capture_audit.proofs.auditing.audit.Goals as goal

pub returns-in_err-ring-clause-audited : goal.returns-in_err-ring-clause-audited
returns-in_err-ring-clause-audited g c = λ text told.
    let p = err_from_is_err_and c.from_residual.result c.from_residual.ensures.1 in
    rw (p.1, p.2) (ring-ends c.args.asks text (g.S.Source.left c.read.new.source) (g.K.Sink.held c.args.sink.now) _
    c.in_err-ring.field-0.0 (c.in_err-ring.ensures.reads text told))

pub returns-clause-audited : goal.returns-clause-audited
returns-clause-audited g c = λ text told.
    failed-earlier c.args.asks text (g.S.Source.left c.audit_with.new.source) (g.K.Sink.held c.args.sink.now)
    (g.K.Sink.held c.audit_with.new.sink) _ _ c.audit_with.result (rose-earlier _ _ _ c.read.ensures.counts)
    (c.audit_with.ensures.audited text (c.in_ok-ring.ensures.reads text told))

pub returns-in_err-ring-clause-broken : goal.returns-in_err-ring-clause-broken
returns-in_err-ring-clause-broken g c = λ text ring packets i j told read broken.
    let p = err_from_is_err_and c.from_residual.result c.from_residual.ensures.1 in
    inr (rw (p.1, p.2) (ring-missed c.args.asks _ text (g.S.Source.left c.read.new.source) ring packets c.in_err-ring.field-0.0 read
    (c.in_err-ring.ensures.reads text told)))

pub returns-in_err-ring-clause-clean : goal.returns-in_err-ring-clause-clean
returns-in_err-ring-clause-clean g c = λ text ring packets told read none.
    let p = err_from_is_err_and c.from_residual.result c.from_residual.ensures.1 in
    inr (rw (p.1, p.2) (ring-missed c.args.asks _ text (g.S.Source.left c.read.new.source) ring packets c.in_err-ring.field-0.0 read
    (c.in_err-ring.ensures.reads text told)))

pub returns-clause-broken : goal.returns-clause-broken
returns-clause-broken g c = λ text ring packets i j told read broken.
    let reads = c.in_ok-ring.ensures.reads text told in
    let keyed = keyed-so text (g.S.Source.left c.read.new.source) c.in_ok-ring.ring ring c.in_ok-ring.supply reads
    c.in_ok-ring.ensures.keyed read.said in
    broken-told c.law_one_key_for_one_wrap.ensures c.args.asks _ text ring packets keyed read
    (g.S.Source.left c.audit_with.new.source) (g.K.Sink.held c.args.sink.now) (g.K.Sink.held c.audit_with.new.sink)
    c.audit_with.result i j (returns-clause-audited g c text told) broken

pub returns-clause-clean : goal.returns-clause-clean
returns-clause-clean g c = λ text ring packets told read none.
    let reads = c.in_ok-ring.ensures.reads text told in
    let keyed = keyed-so text (g.S.Source.left c.read.new.source) c.in_ok-ring.ring ring c.in_ok-ring.supply reads
    c.in_ok-ring.ensures.keyed read.said in
    clean-told c.law_one_key_for_one_wrap.ensures c.args.asks _ text ring packets keyed read
    (g.S.Source.left c.audit_with.new.source) (g.K.Sink.held c.args.sink.now) (g.K.Sink.held c.audit_with.new.sink)
    c.audit_with.result (returns-clause-audited g c text told) none
