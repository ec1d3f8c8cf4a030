use Rattle.std.proofs.Common.{◌≡◌, ◌∷◌, not, subst}
use Rattle.std.specs.Prelude.{IfOk}
use Rattle.known_keys.specs.declared.giving.Giving.TheVariants.{Without}
use Rattle.known_keys.specs.History.{Gave}
use Rattle.known_keys.specs.Standing.{KeptKeys, StandsFor}
use Rattle.known_keys.specs.Undecided.{GroupId, group_id, was_without}
use Rattle.known_keys.specs.inside.Missing.{IsWithheld}
use Rattle.known_keys.proofs.GiveStands.{withheld-stands}
use Rattle.known_keys.proofs.ListPuts.{if_ok}
use Rattle.known_keys.proofs.MissingMore.{is-first}
use Rattle.known_keys.proofs.known_keys.KnownKeys.give_none.Goals as goal

pub returns-clause-gave : goal.returns-clause-gave
returns-clause-gave c = λ history packet stands.
    let d = c.self.inside in
    let old : KeptKeys = record { keys = d.keys; lists = d.lists; firsts = d.givings; said = d.said; misses = d.misses } in
    let new : KeptKeys = record old { misses = c.withhold.new.self } in
    subst (λ (m : KeptKeys). StandsFor history m → IfOk c.withhold.result (λ is_first.
    StandsFor (Gave packet c.args.nanos c.args.group c.args.id c.args.an (Without c.args.why) ∷ history) new)) c.self.view_is
    (λ are. if_ok c.withhold.result
    (λ is_first put. withheld-stands history packet c.args.nanos c.args.group c.args.id c.args.an c.args.why old c.withhold.new.self is_first are
    (subst (λ (g : GroupId). IsWithheld c.args.an g c.args.nanos c.args.why d.misses c.withhold.new.self is_first) c.group_id.ensures put))
    c.withhold.ensures)
    stands

pub returns-clause-first : goal.returns-clause-first
returns-clause-first c = λ history stands.
    let d = c.self.inside in
    subst (λ (m : KeptKeys). StandsFor history m → IfOk c.withhold.result (λ is_first.
    is_first ≡ not (was_without history c.args.why (group_id c.args.group c.args.id)))) c.self.view_is
    (λ are. if_ok c.withhold.result
    (λ is_first put. is-first history (group_id c.args.group c.args.id) c.args.why d.misses is_first are.is_missed
    (subst (λ (g : GroupId). IsWithheld c.args.an g c.args.nanos c.args.why d.misses c.withhold.new.self is_first) c.group_id.ensures put).first)
    c.withhold.ensures)
    stands
