use Rattle.std.proofs.Common.{[], refl, ap, ◌∙◌}
use Rattle.cak_roll.specs.Answers.{another}
use Rattle.cak_roll.proofs.TwinBegins.{begins}
use Rattle.cak_roll.proofs.twin.Twin.new.Goals as goal

pub returns-in-Ok-clause-stands : goal.returns-in-Ok-clause-stands
returns-in-Ok-clause-stands c = λ users.
    begins c.args.settings users _
    (c.with_key-kept.ensures
    ∙ ap (another c.args.settings c.args.settings.cak) c.in_ok-copied.ensures)
    refl (c.in-Ok.ensures.stands users []) refl c.new-in-Ok.ensures c.new-in-Ok-2.ensures
