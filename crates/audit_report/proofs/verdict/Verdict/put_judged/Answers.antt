use Rattle.std.proofs.lemmas.Result.{on_ok_weaker}
use Rattle.use_notes.specs.Uses.{order_of}
use Rattle.audit_report.specs.Verdicts.{once_line, one_key_line, order_line}
use Rattle.audit_report.proofs.Appending.{then}
use Rattle.audit_report.proofs.verdict.Verdict.put_judged.Goals as goal

pub returns : goal.returns
returns c =
    let t = c.args.tally.now in
    let v = c.self.inside in
    rw (← c.self.view_is)
    (on_ok_weaker c.put_order.result
    (λ last. then _ _ _ (once_line t v.once) _ c.in_ok-put_judged.ensures
    (then _ _ _ (one_key_line t v.one_key) (order_line (order_of v.uses.items))
    c.in_ok-put_judged-2.ensures last))
    (rw (c.of.ensures, c.deref.ensures.value) at c.put_order.ensures))
