use Rattle.std.proofs.Common.{sym, ◌∙◌, refl}
use Rattle.trace_text.specs.Keywords.{keyword_of, keywords}
use Rattle.trace_text.proofs.Finding.{past}
use Rattle.trace_text.proofs.keyword.Keyword.of.Goals as goal

pub loop-keyword-init : goal.loop-keyword-init
unfolding keyword_of
loop-keyword-init c = refl

pub loop-keyword-preserved : goal.loop-keyword-preserved
loop-keyword-preserved c =
    c.loop-keyword.invariant
    ∙ past c.args.word.now _ keywords c.loop-keyword.keyword-index _ c.loop-keyword-test.true c.text.ensures
    (sym c.eq.ensures ∙ c.if-eq.false)
