use Rattle.std.proofs.Common.{◌≡◌, ◌∙◌, false, true, not, ap, refl}
use Rattle.std.specs.Prelude.{is_ok}
use Rattle.std.specs.List.{list_any}
use Rattle.lan_core.specs.inside.Judge.{IsJudged}
use Rattle.lan_core.specs.inside.Repeats.{repeats_octets}
use Rattle.lan_core.proofs.Forgery.{forged-is, are-forged, not-right, not-new, right-is}
use Rattle.lan_core.proofs.JudgedAlike.{as-judged}
use Rattle.lan_core.proofs.lan.stopping.judge_forgery.Goals as goal

pub returns-clause-judges : goal.returns-clause-judges
returns-clause-judges c r put exists =
    let settings = c.args.judge.now.settings in
    let octets = c.args.octets.now in
    let j = c.judgement.result.now in
    let known = list_any (repeats_octets octets) c.args.air.now in
    let alike : IsJudged settings octets j = as-judged c.args.judge.now c.turn_to.new.self octets j
    c.in_ok-turn_to.ensures.kept c.in_ok-turn_to.ensures.octets c.judgement.ensures in
    let forged = forged-is settings r c.args.station octets c.args.air.now (is_ok j) put exists
    (right-is settings octets j alike) in
    let right : is_ok j ≡ true = c.is_err.ensures.negation ∙ ap not c.if-is_err.false in
    let yes = are-forged _ (is_ok j) known forged right (cc (c.in_ok-repeats.ensures, c.if-branch.false)) in
    rw yes refl

pub returns-then-is_err-clause-judges : goal.returns-then-is_err-clause-judges
returns-then-is_err-clause-judges c r put exists =
    let settings = c.args.judge.now.settings in
    let octets = c.args.octets.now in
    let j = c.judgement.result.now in
    let known = list_any (repeats_octets octets) c.args.air.now in
    let alike : IsJudged settings octets j = as-judged c.args.judge.now c.turn_to.new.self octets j
    c.in_ok-turn_to.ensures.kept c.in_ok-turn_to.ensures.octets c.judgement.ensures in
    let forged = forged-is settings r c.args.station octets c.args.air.now (is_ok j) put exists
    (right-is settings octets j alike) in
    let wrong : is_ok j ≡ false = c.is_err.ensures.negation ∙ ap not c.if-is_err.true in
    let no = not-right _ (is_ok j) known forged wrong in
    rw no refl

pub returns-then-branch-clause-judges : goal.returns-then-branch-clause-judges
returns-then-branch-clause-judges c r put exists =
    let settings = c.args.judge.now.settings in
    let octets = c.args.octets.now in
    let j = c.judgement.result.now in
    let known = list_any (repeats_octets octets) c.args.air.now in
    let alike : IsJudged settings octets j = as-judged c.args.judge.now c.turn_to.new.self octets j
    c.in_ok-turn_to.ensures.kept c.in_ok-turn_to.ensures.octets c.judgement.ensures in
    let forged = forged-is settings r c.args.station octets c.args.air.now (is_ok j) put exists
    (right-is settings octets j alike) in
    let no = not-new _ (is_ok j) known forged (cc (c.in_ok-repeats.ensures, c.if-branch.true)) in
    rw no refl
