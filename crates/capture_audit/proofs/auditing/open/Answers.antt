use Rattle.std.proofs.lemmas.Result.{err_from_is_err_and}
use Rattle.lan_base.specs.Ranges.{most_input}
use Rattle.key_ring.specs.Reading.{file_in}
use Rattle.capture_audit.proofs.HeadsRead.{none-opens}
use Rattle.capture_audit.proofs.Opening.{open-err, open-ok}
use Rattle.capture_audit.proofs.auditing.open.Goals as goal

pub returns-in_default-clause-opens : goal.returns-in_default-clause-opens
returns-in_default-clause-opens g c = λ text ring is.
    none-opens text (g.S.Source.left c.args.source.now) ring (rw c.in_default.is at is)

pub returns-in_err-open-clause-opens : goal.returns-in_err-open-clause-opens
returns-in_err-open-clause-opens g c = λ text ring is.
    let p = err_from_is_err_and c.from_residual.result c.from_residual.ensures.1 in
    rw (p.1, p.2) (open-err text (g.S.Source.left c.args.source.now) (g.S.Source.left c.open.new.source) ring c.in-Some.supply
    c.in_err-open.field-0.0 (rw c.in-Some.is at is)
    (λ given stands visible. c.in_err-open.ensures.opens most_input text given (file_in text) stands visible))

pub returns-clause-opens : goal.returns-clause-opens
returns-clause-opens g c = λ text ring is.
    open-ok text (g.S.Source.left c.args.source.now) (g.S.Source.left c.open.new.source) ring c.in-Some.supply
    c.in_ok-open.field-0 (rw c.in-Some.is at is)
    (λ given stands visible. c.in_ok-open.ensures.opens most_input text given (file_in text) stands visible)
