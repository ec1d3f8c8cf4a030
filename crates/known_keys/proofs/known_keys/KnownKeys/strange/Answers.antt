use Rattle.std.proofs.Common.{◌∷◌, subst}
use Rattle.std.specs.Prelude.{OnOk}
use Rattle.known_keys.specs.History.{Strange}
use Rattle.known_keys.specs.Standing.{KeptKeys, StandsFor}
use Rattle.known_keys.proofs.GiveStands.{strange-stands}
use Rattle.known_keys.proofs.ListPuts.{on_ok}
use Rattle.known_keys.proofs.known_keys.KnownKeys.strange.Goals as goal

pub returns-clause-strange : goal.returns-clause-strange
returns-clause-strange c = λ history stands.
    let d = c.self.inside in
    let old : KeptKeys = record { keys = d.keys; lists = d.lists; firsts = d.givings; said = d.said; misses = d.misses } in
    let new : KeptKeys = record old { misses = c.put_strange.new.self } in
    subst (λ (m : KeptKeys). StandsFor history m → OnOk c.put_strange.result
    (StandsFor (Strange c.args.sci ∷ history) new)) c.self.view_is
    (λ are. on_ok c.put_strange.result
    (λ put. strange-stands history c.args.sci old c.put_strange.new.self are put)
    c.put_strange.ensures)
    stands
