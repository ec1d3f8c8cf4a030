use Rattle.std.proofs.Common.{◌++◌, ◌∙◌, ap, length, arith}
use Rattle.mka_kdf.proofs.Lengths.{derived-32}
use Rattle.mka_kdf.proofs.derivation.derive256.Goals as goal

pub returns : goal.returns
returns c =
    (λ i. (c.copy_from_slice.ensures.after ∙ c.block.ensures) i ++ (c.copy_from_slice-2.ensures.after ∙ c.block-2.ensures) i)
    ∙ derived-32 c.args.key.now c.args.label.now c.args.context.now (omega (arith, ap length c.block.ensures))
    (omega (arith, ap length c.block-2.ensures))
