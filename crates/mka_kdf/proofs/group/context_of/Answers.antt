use Rattle.mka_kdf.proofs.Lengths.{padded_context}
use Rattle.mka_kdf.proofs.group.context_of.Goals as goal

pub returns : goal.returns
returns c =
    padded_context c.args.ckn.now c.copy_from_slice.new.self c.min-len.result c.min-len.ensures c.copy_from_slice.ensures.after
