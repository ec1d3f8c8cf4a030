use Rattle.aes_block.proofs.KeyBlocks.{aes-inverse, inv_aes}
use Rattle.aes_block.proofs.laws.law_every_block_is_a_ciphertext.Goals as goal

pub returns : goal.returns
returns c = λ key block k h. (inv_aes key block, (aes-inverse key k).keeps_back block h, (aes-inverse key k).made block h)
