use Rattle.aes_block.specs.Aes.{aes}
use Rattle.aes_block.proofs.Steps.{same_source}
use Rattle.aes_block.proofs.KeyBlocks.{aes-inverse, inv_aes}
use Rattle.aes_block.proofs.laws.law_one_block_for_one_ciphertext.Goals as goal

pub returns : goal.returns
returns c = λ key a b k ha hb same. same_source (aes key) (inv_aes key) (aes-inverse key k) a b ha hb same
