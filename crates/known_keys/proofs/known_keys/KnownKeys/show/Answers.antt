use Rattle.std.proofs.Common.{◌∷◌, subst}
use Rattle.std.specs.Prelude.{OnOk}
use Rattle.known_keys.specs.History.{Showed}
use Rattle.known_keys.specs.Standing.{KeptKeys, StandsFor}
use Rattle.known_keys.specs.Undecided.{GroupId}
use Rattle.known_keys.specs.inside.Missing.{IsShown}
use Rattle.known_keys.proofs.GiveStands.{showed-stands}
use Rattle.known_keys.proofs.ListPuts.{on_ok}
use Rattle.known_keys.proofs.known_keys.KnownKeys.show.Goals as goal

pub returns-clause-showed : goal.returns-clause-showed
returns-clause-showed c = λ history packet stands.
    let d = c.self.inside in
    let old : KeptKeys = record { keys = d.keys; lists = d.lists; firsts = d.givings; said = d.said; misses = d.misses } in
    let new : KeptKeys = record old { misses = c.show.new.self } in
    subst (λ (m : KeptKeys). StandsFor history m → OnOk c.show.result
    (StandsFor (Showed packet c.args.nanos c.args.group c.args.id c.args.an ∷ history) new)) c.self.view_is
    (λ are. on_ok c.show.result
    (λ put. showed-stands history packet c.args.nanos c.args.group c.args.id c.args.an old c.show.new.self are
    (subst (λ (g : GroupId). IsShown c.args.an g c.args.nanos d.misses c.show.new.self) c.group_id.ensures put))
    c.show.ensures)
    stands
