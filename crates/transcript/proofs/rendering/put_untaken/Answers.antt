use Rattle.std.proofs.lemmas.Result.{on_ok_weaker}
use Rattle.transcript.proofs.rendering.put_untaken.Goals as goal

pub returns-clause-ok : goal.returns-clause-ok
returns-clause-ok c =
    on_ok_weaker c.put_told.result (λ e names. rw (c.why_told-told.ensures names) (rw c.number.ensures at e)) c.put_told.ensures.ok
