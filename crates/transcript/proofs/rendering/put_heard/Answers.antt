use Rattle.std.proofs.lemmas.Result.{on_ok_weaker}
use Rattle.transcript.proofs.rendering.put_heard.Goals as goal

pub returns-in-Dropped-clause-ok : goal.returns-in-Dropped-clause-ok
returns-in-Dropped-clause-ok c =
    on_ok_weaker c.put_told.result
    (λ e names. rw c.in-Dropped.is (rw (c.reason_told.ensures names) (rw (c.verdict_word.ensures, c.in-Dropped.is, c.number.ensures) at e)))
    c.put_told.ensures.ok
