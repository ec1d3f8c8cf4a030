use Rattle.std.proofs.Common.{◌∙◌, ◌++◌, ap, append_assoc}
use Rattle.std.specs.Prelude.{codes}
use Rattle.std.proofs.lemmas.Result.{on_ok_weaker}
use Rattle.trace_text.specs.Words.{spaced}
use Rattle.audit_report.specs.Uses.{use_words}
use Rattle.audit_report.proofs.uses.begin_use.Goals as goal

pub returns : goal.returns
returns c =
    let words = spaced (use_words c.args.each.now) in
    on_ok_weaker c.put_words.result
    (λ told. told ∙ ap (λ text. text ++ words) c.in_ok-extend_from_slice.ensures.items
    ∙ append_assoc c.args.into.now.items (codes "use") words)
    (rw (c.number.ensures, c.number-2.ensures, c.number-3.ensures, c.number-4.ensures, c.number-5.ensures, c.number-6.ensures) at c.put_words.ensures.ok)
