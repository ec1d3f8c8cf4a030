use Rattle.std.proofs.Common.{◌∷◌, ◌++◌}
use Rattle.std.specs.Prelude.{codes}
use Rattle.std.proofs.lemmas.Result.{on_ok_weaker}
use Rattle.capture_file.specs.Describing.{peer_words, use_words, given_words}
use Rattle.capture_file.proofs.Lines.{and-then}
use Rattle.capture_file.proofs.describing.put_announcement.Goals as goal

pub returns-clause-ok : goal.returns-clause-ok
returns-clause-ok c =
    let a = c.args.announcement.now in
    on_ok_weaker c.put_given.result (λ last. and-then _ _ _ (peer_words a) ((codes "use" ∷ use_words a.uses) ++ (codes "given" ∷ given_words a.given))
    c.in_ok-put_peers.ensures.ok
    (and-then _ _ _ (codes "use" ∷ use_words a.uses) (codes "given" ∷ given_words a.given) c.in_ok-put_uses.ensures.ok last)) c.put_given.ensures.ok
