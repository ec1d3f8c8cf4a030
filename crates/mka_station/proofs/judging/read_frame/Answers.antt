use Rattle.std.proofs.Common.{◌∙◌, ap, refl}
use Rattle.std.specs.Prelude.{Err}
use Rattle.mka_station.proofs.judging.read_frame.Goals as goal

pub returns-in-Err-Refused-clause-err : goal.returns-in-Err-Refused-clause-err
returns-in-Err-Refused-clause-err c =
    let e = (c.read.ensures.refused c.in-Err-Refused.refusal).0 (c.in-Err-Refused.is ∙ ap (λ e. Err e) c.in-Err-Refused.field-0-is) in
    (c.in-Err-Refused.refusal, (c.law_reading_refuses.ensures c.args.frame.now c.in-Err-Refused.refusal).0 e, refl)
