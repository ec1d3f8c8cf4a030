use Rattle.transcript.proofs.Joining.{by_parts}
use Rattle.transcript.proofs.rendering.put.Goals as goal

pub returns-clause-ok : goal.returns-clause-ok
returns-clause-ok c = by_parts _ _ _ _ _ _ _ _ c.in_ok-extend_from_slice.ensures.items c.in_ok-put_words.ensures.ok c.in_ok-put_words-2.ensures.ok c.in_ok-push.ensures.items
