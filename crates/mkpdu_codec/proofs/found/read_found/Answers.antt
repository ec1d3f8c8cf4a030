use Rattle.std.proofs.Common.{◌∙◌, refl, sym, arith}
use Rattle.mkpdu_codec.specs.inside.Views.{set_of, gathered_of}
use Rattle.std.proofs.lemmas.Result.{err_from_is_err_and}
use Rattle.mkpdu_codec.proofs.Loops.{Goes, shaped_at-shorter, gathered_go_on, gathered_fails, gathered_end, gathered_end_at}
use Rattle.mkpdu_codec.proofs.found.read_found.Goals as goal
use Rattle.mkpdu_codec.proofs.found.read_found.Goals.{then-loop-rest-test+else-not-is_icv_indicator, else-loop-rest-test}

pub returns-in_err-set : goal.returns-in_err-set
returns-in_err-set c =
    let goes : Goes c.loop-rest.rest.now = (sym c.is_empty.ensures ∙ c.loop-rest-test.true, sym c.is_icv_indicator.ensures ∙ c.if-not-is_icv_indicator.true) in
    let p = err_from_is_err_and c.from_residual.result c.from_residual.ensures.1 in
    rw (p.1, p.2) (gathered_fails c.in_err-set.field-0.0 c.args.end (gathered_of c.loop-rest.found) c.loop-rest.rest.now c.args.octets.now goes (rw c.in_err-set.ensures refl) c.loop-rest.invariant.1)

pub returns-in_err-found : goal.returns-in_err-found
returns-in_err-found c =
    let goes : Goes c.loop-rest.rest.now = (sym c.is_empty.ensures ∙ c.loop-rest-test.true, sym c.is_icv_indicator.ensures ∙ c.if-not-is_icv_indicator.true) in
    let p = err_from_is_err_and c.from_residual-in_err-found.result c.from_residual-in_err-found.ensures.1 in
    rw (p.1, p.2) (gathered_fails c.in_err-found.field-0.0 c.args.end (gathered_of c.loop-rest.found) c.loop-rest.rest.now c.args.octets.now goes (rw c.in_ok-set.ensures c.in_err-found.ensures) c.loop-rest.invariant.1)

pub loop-rest-smaller : goal.loop-rest-smaller
loop-rest-smaller c =
    let shorter = shaped_at-shorter c.args.end c.loop-rest.rest.now (set_of c.in_ok-set.set, c.in_ok-set.behind.now) c.in_ok-set.ensures in
    omega (arith, shorter)

pub loop-rest-preserved : goal.loop-rest-preserved
loop-rest-preserved c =
    let goes : Goes c.loop-rest.rest.now = (sym c.is_empty.ensures ∙ c.loop-rest-test.true, sym c.is_icv_indicator.ensures ∙ c.if-not-is_icv_indicator.true) in
    let shorter = shaped_at-shorter c.args.end c.loop-rest.rest.now (set_of c.in_ok-set.set, c.in_ok-set.behind.now) c.in_ok-set.ensures in
    (omega (arith, shorter, c.loop-rest.invariant.0), gathered_go_on c.args.end (gathered_of c.loop-rest.found) c.loop-rest.rest.now c.args.octets.now (set_of c.in_ok-set.set) c.in_ok-set.behind.now (gathered_of c.in_ok-found.found) goes c.in_ok-set.ensures c.in_ok-found.ensures c.loop-rest.invariant.1)

pub returns : goal.returns
returns c =
    elim c.loop-rest-test.branch [
      | then-loop-rest-test+else-not-is_icv_indicator w ↦ gathered_end_at c.args.end (gathered_of c.loop-rest.found) c.loop-rest.rest.now c.args.octets.now (sym c.is_empty.ensures ∙ w.loop-rest-test.true) (sym w.is_icv_indicator.ensures ∙ w.if-not-is_icv_indicator.false) c.loop-rest.invariant.1
      | else-loop-rest-test w ↦ gathered_end c.args.end (gathered_of c.loop-rest.found) c.loop-rest.rest.now c.args.octets.now (sym c.is_empty.ensures ∙ w.loop-rest-test.false) c.loop-rest.invariant.1
    ]
