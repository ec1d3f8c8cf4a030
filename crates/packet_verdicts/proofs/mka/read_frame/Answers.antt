use Rattle.std.proofs.Common.{◌∙◌, ap}
use Rattle.std.specs.Prelude.{Err}
use Rattle.packet_verdicts.proofs.mka.read_frame.Goals as goal

pub returns-in-Err-Refused-clause-value : goal.returns-in-Err-Refused-clause-value
returns-in-Err-Refused-clause-value c =
    let e = (c.read.ensures.refused c.in-Err-Refused.refusal).0 (c.in-Err-Refused.is ∙ ap (λ e. Err e) c.in-Err-Refused.field-0-is) in
    (c.law_reading_refuses.ensures c.args.frame.now c.in-Err-Refused.refusal).0 e
