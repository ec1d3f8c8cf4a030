use Rattle.std.proofs.Common.{◌∷◌, refl, subst}
use Rattle.known_keys.specs.History.{Set, keys}
use Rattle.known_keys.specs.Standing.{KeptKeys, StandsFor}
use Rattle.known_keys.proofs.Stands.{told-stands}
use Rattle.known_keys.proofs.GiveStands.{set-says, set-stays}
use Rattle.known_keys.proofs.MissingMore.{missed-set}
use Rattle.known_keys.proofs.known_keys.KnownKeys.set.Goals as goal

pub returns-clause-set : goal.returns-clause-set
returns-clause-set c = λ history stands.
    let d = c.self.inside in
    let old : KeptKeys = record { keys = d.keys; lists = d.lists; firsts = d.givings; said = d.said; misses = d.misses } in
    let new : KeptKeys = record { keys = c.number.new.self; lists = c.put.new.self; firsts = d.givings; said = d.said; misses = d.misses } in
    subst (λ (m : KeptKeys). StandsFor history m → StandsFor (Set c.args.sender c.args.an c.args.sak ∷ history) new) c.self.view_is
    (λ are. told-stands history (Set c.args.sender c.args.an c.args.sak) c.args.sak c.in_ok-number.number old new
    c.args.sender c.args.an refl (λ s a. refl) are (c.in_ok-number.ensures.keyed (keys history) are.are_kept) c.in_ok-put.ensures.put
    (set-stays history c.args.sender c.args.an c.args.sak d.givings are.one_key)
    (set-says history c.args.sender c.args.an c.args.sak d.said are.is_said)
    (missed-set history c.args.sender c.args.an c.args.sak d.misses are.is_missed))
    stands
