use Rattle.std.proofs.Common.{◌∙◌, ℕ, List, length, ap}
use Rattle.std.specs.Prelude.{◌==◌, ◌&&◌}
use Rattle.known_keys.specs.declared.sender.Sender.TheVariants.{Any, One}
use Rattle.known_keys.specs.History.{keys}
use Rattle.known_keys.specs.Known.{is_told}
use Rattle.known_keys.specs.Numbered.{greatest_first}
use Rattle.known_keys.specs.Standing.{KeptKeys}
use Rattle.known_keys.specs.Maps.{numbers_under}
use Rattle.known_keys.proofs.MissingMore.{none-of-both}
use Rattle.known_keys.proofs.known_keys.KnownKeys.is_unknown.Goals as goal

pub returns : goal.returns
returns c = λ history stands.
    let any = greatest_first (is_told history Any c.args.an) (length (keys history)) in
    c.are_empty.ensures
    ∙ ap (λ (ns : List ℕ). (length ns == 0) && (length c.numbers-one.result.now == 0))
    (c.numbers-any.ensures ∙ ap (λ (m : KeptKeys). numbers_under m.lists Any c.args.an) c.self.view_is ∙ stands.lists Any c.args.an)
    ∙ ap (λ (ns : List ℕ). (length any == 0) && (length ns == 0))
    (c.numbers-one.ensures ∙ ap (λ (m : KeptKeys). numbers_under m.lists (One c.args.sci) c.args.an) c.self.view_is
    ∙ stands.lists (One c.args.sci) c.args.an)
    ∙ none-of-both (is_told history Any c.args.an) (is_told history (One c.args.sci) c.args.an) (length (keys history))
