use Rattle.aes_block.proofs.Inverses.{inverse-only, inverse-zero, times-inverse}
use Rattle.aes_block.proofs.laws.law_inverse_is_the_one_with_product_one.Goals as goal

pub returns : goal.returns
returns c = record { zero = inverse-zero; one = times-inverse; only = inverse-only }
