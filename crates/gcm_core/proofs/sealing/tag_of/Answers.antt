use Rattle.std.proofs.Common.{List, ℕ, subst, ap, ◌∙◌}
use Rattle.aes_block.specs.Aes.{IsKey}
use Rattle.gcm_core.specs.Blocks.{block_octets}
use Rattle.gcm_core.specs.Gcm.{counter_block, gctr, hash_key}
use Rattle.gcm_core.proofs.Octets.{block_octets-is}
use Rattle.gcm_core.proofs.Tags.{tag_is}
use Rattle.gcm_core.proofs.sealing.tag_of.Goals as goal

pub returns-clause-tag : goal.returns-clause-tag
returns-clause-tag c =
    let first = counter_block c.args.iv.now 1 in
    tag_is c.args.key.now c.args.iv.now _ _ _ _ c.hash_of.result (c.key.invariant ∙ ap hash_key c.key.view_is) c.hash_of.ensures c.hash_of.type_inv
    (c.encrypt.ensures ∙ ap (gctr c.key.inside.cipher first) (c.to_be_bytes-tag.ensures ∙ block_octets-is c.hash_of.result)
    ∙ ap (λ (k : List ℕ). gctr k first (block_octets c.hash_of.result)) c.key.view_is)

pub returns-clause-blocks : goal.returns-clause-blocks
returns-clause-blocks c = λ text h. c.law_ciphertexts_are_blocks.ensures c.args.key.now text (subst IsKey c.key.view_is c.law_is_key.ensures) h
