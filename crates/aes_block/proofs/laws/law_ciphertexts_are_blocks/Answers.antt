use Rattle.aes_block.proofs.KeyBlocks.{aes-inverse}
use Rattle.aes_block.proofs.laws.law_ciphertexts_are_blocks.Goals as goal

pub returns : goal.returns
returns c = λ key block k h. (aes-inverse key k).keeps block h
