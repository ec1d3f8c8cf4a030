use Rattle.std.proofs.Common.{◌<◌, ◌≤◌, ℕ, Option, sym, subst}
use Rattle.std.specs.Prelude.{IfSome}
use Rattle.least_pairs.specs.Pairs.{IsJudged}
use Rattle.known_keys.specs.OneKey.{BreaksKey, BreaksName, BreaksOneKey}
use Rattle.known_keys.specs.Standing.{KeptKeys, StandsFor}
use Rattle.known_keys.proofs.FirstTold.{lesser-judged}
use Rattle.known_keys.proofs.Givens.{if-judged, in-order}
use Rattle.known_keys.proofs.known_keys.KnownKeys.one_key.Goals as goal

pub returns-clause-least : goal.returns-clause-least
returns-clause-least c = λ history stands.
    subst (λ (m : KeptKeys). StandsFor history m → IsJudged (BreaksOneKey history) c.one_key.result) c.self.view_is
    (λ are. subst (λ (o : Option (ℕ × ℕ)). IsJudged (BreaksOneKey history) o) (sym c.one_key.ensures)
    (lesser-judged (BreaksName history) (BreaksKey history) c.self.inside.givings.name_pair c.self.inside.givings.id_pair
    are.one_key.name_pair are.one_key.id_pair))
    stands

pub returns-clause-order : goal.returns-clause-order
returns-clause-order c = λ history stands.
    subst (λ (m : KeptKeys). StandsFor history m → IfSome c.one_key.result (λ pair. (pair.0 < pair.1) × (pair.1 ≤ m.firsts.last))) c.self.view_is
    (λ are. if-judged (BreaksOneKey history) (λ pair. (pair.0 < pair.1) × (pair.1 ≤ c.self.inside.givings.last)) c.one_key.result
    (λ pair broken. in-order history c.self.inside.givings are.one_key pair.0 pair.1 broken)
    (subst (λ (o : Option (ℕ × ℕ)). IsJudged (BreaksOneKey history) o) (sym c.one_key.ensures)
    (lesser-judged (BreaksName history) (BreaksKey history) c.self.inside.givings.name_pair c.self.inside.givings.id_pair
    are.one_key.name_pair are.one_key.id_pair)))
    stands
