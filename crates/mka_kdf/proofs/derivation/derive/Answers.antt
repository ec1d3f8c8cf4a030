use Rattle.std.proofs.Common.{◌∙◌, sym, ap, length, arith}
use Rattle.mka_kdf.proofs.Lengths.{derived-16}
use Rattle.mka_kdf.proofs.derivation.derive.Goals as goal

pub returns : goal.returns
returns c =
    c.block.ensures ∙ sym (derived-16 c.args.key.now c.args.label.now c.args.context.now (omega (arith, ap length c.block.ensures)))
