use Rattle.std.proofs.Common.{sym, ◌∙◌}
use Rattle.mka_kdf.specs.Kdf.{derived}
use Rattle.mka_kdf.proofs.group.derived_128.Goals as goal

pub returns : goal.returns
returns c =
    c.k128-2.ensures ∙ c.derive.ensures
    ∙ (λ i. derived (c.k128.ensures i) c.args.label.now c.args.context.now (sym c.told-cak i))
