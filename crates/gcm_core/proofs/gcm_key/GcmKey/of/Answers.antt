use Rattle.std.proofs.Common.{ap, sym, ◌∙◌}
use Rattle.gcm_core.specs.Blocks.{block_bits}
use Rattle.gcm_core.proofs.Tags.{hash_key-is}
use Rattle.gcm_core.proofs.gcm_key.GcmKey.of.Goals as goal

pub invariant_of-result : goal.invariant_of-result
invariant_of-result c =
    ap block_bits c.of-hash.ensures ∙ sym (hash_key-is c.args.cipher c.encrypt.result c.number_of.result c.encrypt.ensures.ciphertext c.number_of.ensures)
