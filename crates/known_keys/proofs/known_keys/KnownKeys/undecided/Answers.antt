use Rattle.std.proofs.Common.{◌≡◌, ◌∙◌, subst}
use Rattle.known_keys.specs.declared.reason.Reason.TheVariants.{Suite, Offset, Unseen}
use Rattle.known_keys.specs.Standing.{KeptKeys, StandsFor}
use Rattle.known_keys.specs.Undecided.{is_missing, is_unknown, undecided, was_strange}
use Rattle.known_keys.proofs.MissingMore.{first-same, lacking-told}
use Rattle.known_keys.proofs.known_keys.KnownKeys.undecided.Goals as goal

pub returns : goal.returns
returns c = λ history stands.
    let d = c.self.inside in
    let unknown = c.is_unknown.ensures history stands in
    subst (λ (m : KeptKeys). StandsFor history m → c.first_of.result ≡ undecided history c.args.sci c.args.an c.args.nanos) c.self.view_is
    (λ are.
    c.first_of.ensures
    ∙ first-same c.is_one_lacking.result c.is_one_lacking-2.result c.is_one_lacking-3.result c.is_strange.result c.is_unknown.result
    (is_missing history c.args.an c.args.nanos Suite) (is_missing history c.args.an c.args.nanos Offset)
    (is_missing history c.args.an c.args.nanos Unseen) (was_strange history c.args.sci) (is_unknown history c.args.sci c.args.an)
    (c.is_one_lacking.ensures ∙ lacking-told history d.misses c.args.an c.args.nanos Suite are.is_missed)
    (c.is_one_lacking-2.ensures ∙ lacking-told history d.misses c.args.an c.args.nanos Offset are.is_missed)
    (c.is_one_lacking-3.ensures ∙ lacking-told history d.misses c.args.an c.args.nanos Unseen are.is_missed)
    (c.is_strange.ensures ∙ are.is_missed.strange c.args.sci)
    unknown)
    stands
