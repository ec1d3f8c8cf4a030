use Rattle.std.proofs.Common.{[], ◌∷◌, get_or, ◌∙◌, rules}
use Rattle.aes_block.specs.Octet.{sub_octet}
use Rattle.aes_block.specs.Column.{octets_of}
use Rattle.aes_block.proofs.Words.{octets_of-from_bytes}
use Rattle.aes_block.proofs.expansion.sub_word.Goals as goal

pub returns : goal.returns
unfolding octets_of
returns c =
    let subbed = c.sub_octets.ensures in
    let word = c.to_be_bytes.ensures in
    octets_of-from_bytes _ _ _ _ _ (search rules) (search rules) (search rules) (search rules) c.from_be_bytes.ensures
    ∙ (λ i. get_or (subbed i) 0 0 ∷ get_or (subbed i) 1 0 ∷ get_or (subbed i) 2 0 ∷ get_or (subbed i) 3 0 ∷ [])
    ∙ (λ i. sub_octet (get_or (word i) 0 0) ∷ sub_octet (get_or (word i) 1 0) ∷ sub_octet (get_or (word i) 2 0) ∷ sub_octet (get_or (word i) 3 0) ∷ [])
