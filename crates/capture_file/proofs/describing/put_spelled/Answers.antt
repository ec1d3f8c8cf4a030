use Rattle.std.proofs.Common.{◌∙◌, Err, ap}
use Rattle.std.proofs.lemmas.Result.{on_ok_weaker}
use Rattle.mkpdu_codec.specs.declared.read_error.ReadError.{ReadError}
use Rattle.capture_file.proofs.describing.put_spelled.Goals as goal

pub returns-in-Ok-clause-ok : goal.returns-in-Ok-clause-ok
returns-in-Ok-clause-ok c =
    let s = c.in-Ok.spelled in
    let is = c.law_spelled_is_read.ensures c.args.octets.now s.check s.announcement s.covered c.in-Ok.ensures.found in
    on_ok_weaker c.put_announcement.result (λ told. rw is told) c.put_announcement.ensures.ok

pub returns-in-Err-Refused-clause-ok : goal.returns-in-Err-Refused-clause-ok
returns-in-Err-Refused-clause-ok c =
    let refusal = c.in-Err-Refused.refusal in
    let refused = (c.read.ensures.refused refusal).0
    (c.in-Err-Refused.is ∙ ap (λ (error : ReadError). Err error) c.in-Err-Refused.field-0-is) in
    let is = (c.law_reading_refuses.ensures c.args.octets.now refusal).0 refused in
    on_ok_weaker c.put_refusal.result (λ told. rw is told) c.put_refusal.ensures.ok
