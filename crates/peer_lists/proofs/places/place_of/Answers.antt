use Rattle.std.proofs.lemmas.Fn.{always_returns_same}
use Rattle.lan_base.specs.Identifiers.{order}
use Rattle.peer_lists.specs.Table.{member}
use Rattle.peer_lists.proofs.places.place_of.Goals as goal
use Rattle.std.proofs.Common.{rules}

pub returns-clause-place : goal.returns-clause-place
returns-clause-place c =
    c.binary_search_by.ensures.position (λ p. order (member p) c.args.mi.now) (always_returns_same _ _ _ (λ x r f' k. search rules))
