use Rattle.std.proofs.Common.{true}
use Rattle.std.specs.Prelude.{codes}
use Rattle.transcript.specs.inside.Taking.{words_behind}
use Rattle.transcript.proofs.Branches.{tested, claimed}
use Rattle.transcript.proofs.facts.plain_fact.Goals as goal

pub returns-then-eq : goal.returns-then-eq
returns-then-eq c =
    claimed c.args.names.now c.args.first.now (words_behind c.args.rest.now) c.claimed.result
    (tested _ _ (codes "claim") _ true c.eq.ensures c.as_slice.ensures c.if-eq.true) c.claimed.ensures
