use Rattle.std.proofs.Common.{◌≡◌, ◌∙◌, sym, subst}
use Rattle.std.specs.Prelude.{IfOk, IfErr, Result, Ok}
use Rattle.mkpdu_codec.specs.declared.spelled.Spelled.{Spelled}
use Rattle.mkpdu_codec.specs.Reading.{reading}
use Rattle.mka_station.specs.declared.verdict.DropReason.{DropReason}
use Rattle.mka_station.specs.inside.Turns.{IsRefused}
use Rattle.mka_station.proofs.Judges.{judged-refused, judged-fault, judged-right}
use Rattle.mka_station.proofs.judging.judge.Goals as goal

pub returns-in-Err : goal.returns-in-Err
returns-in-Err c setup ckn ick =
    judged-refused setup c.args.frame.now c.in-Err.reason (subst (λ (r : Result Spelled DropReason). IfErr r (λ v. IsRefused c.args.frame.now v)) c.in-Err.is c.in_ok-spelled.ensures.err)

pub returns-in-Some : goal.returns-in-Some
returns-in-Some c setup ckn ick =
    judged-fault setup c.args.frame.now c.in-Ok.spelled c.in-Some.reason (subst (λ (r : Result Spelled DropReason). IfOk r (λ s. reading c.args.frame.now ≡ Ok s)) c.in-Ok.is c.in_ok-spelled.ensures.ok)
    (rw (ckn, ick) (sym c.fault.ensures ∙ c.in-Some.is))

pub returns-in-None : goal.returns-in-None
returns-in-None c setup ckn ick =
    judged-right setup c.args.frame.now c.in-Ok.spelled (subst (λ (r : Result Spelled DropReason). IfOk r (λ s. reading c.args.frame.now ≡ Ok s)) c.in-Ok.is c.in_ok-spelled.ensures.ok)
    (rw (ckn, ick) (sym c.fault.ensures ∙ c.in-None.is))
