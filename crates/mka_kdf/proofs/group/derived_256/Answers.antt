use Rattle.std.proofs.Common.{sym, ◌∙◌}
use Rattle.mka_kdf.specs.Kdf.{derived}
use Rattle.mka_kdf.proofs.group.derived_256.Goals as goal

pub returns : goal.returns
returns c =
    c.k256-2.ensures ∙ c.derive256.ensures
    ∙ (λ i. derived (c.k256.ensures i) c.args.label.now c.args.context.now (sym c.told-cak i))
