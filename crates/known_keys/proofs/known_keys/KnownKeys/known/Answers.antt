use Rattle.std.proofs.Common.{◌∙◌, length, ap}
use Rattle.known_keys.specs.declared.sender.Sender.TheVariants.{Any, One}
use Rattle.known_keys.specs.History.{keys}
use Rattle.known_keys.specs.Known.{is_told}
use Rattle.known_keys.specs.Standing.{KeptKeys}
use Rattle.known_keys.specs.Maps.{numbers_under}
use Rattle.known_keys.proofs.known_keys.KnownKeys.known.Goals as goal

pub returns : goal.returns
returns c = λ history stands.
    c.append_both.ensures (is_told history Any c.args.an) (is_told history (One c.args.sci) c.args.an) (length (keys history))
    (c.numbers.ensures
    ∙ ap (λ (m : KeptKeys). numbers_under m.lists Any c.args.an) c.self.view_is
    ∙ stands.lists Any c.args.an)
    (c.numbers-2.ensures
    ∙ ap (λ (m : KeptKeys). numbers_under m.lists (One c.args.sci) c.args.an) c.self.view_is
    ∙ stands.lists (One c.args.sci) c.args.an)
