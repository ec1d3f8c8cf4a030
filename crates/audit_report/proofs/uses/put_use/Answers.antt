use Rattle.std.specs.Prelude.{codes}
use Rattle.std.proofs.lemmas.Result.{on_ok_weaker}
use Rattle.audit_report.specs.Uses.{order_words, use_words}
use Rattle.audit_report.proofs.Appending.{in_two}
use Rattle.audit_report.proofs.uses.put_use.Goals as goal

pub returns : goal.returns
returns c =
    let u = c.args.each.now in
    on_ok_weaker c.end_use.result
    (λ last. in_two _ _ _ (codes "use") (use_words u.noted) (order_words u) c.in_ok-begin_use.ensures last)
    c.end_use.ensures
