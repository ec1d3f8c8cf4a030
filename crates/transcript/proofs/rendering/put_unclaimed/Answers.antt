use Rattle.std.proofs.lemmas.Result.{on_ok_weaker}
use Rattle.transcript.proofs.rendering.put_unclaimed.Goals as goal

pub returns-clause-ok : goal.returns-clause-ok
returns-clause-ok c =
    on_ok_weaker c.put_told.result (λ e names. rw (c.lack_told.ensures names) e) c.put_told.ensures.ok
