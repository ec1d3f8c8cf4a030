use Rattle.std.proofs.Common.{[], ◌∷◌, get_or}
use Rattle.aes_block.specs.Column.{octets_of}
use Rattle.aes_block.proofs.expanded_key.four_words.Goals as goal

pub returns : goal.returns
unfolding octets_of
returns c =
    let a = c.to_be_bytes.ensures in
    let b = c.to_be_bytes-2.ensures in
    let d = c.to_be_bytes-3.ensures in
    let e = c.to_be_bytes-4.ensures in
    λ i. get_or (a i) 0 0 ∷ get_or (a i) 1 0 ∷ get_or (a i) 2 0 ∷ get_or (a i) 3 0
    ∷ get_or (b i) 0 0 ∷ get_or (b i) 1 0 ∷ get_or (b i) 2 0 ∷ get_or (b i) 3 0
    ∷ get_or (d i) 0 0 ∷ get_or (d i) 1 0 ∷ get_or (d i) 2 0 ∷ get_or (d i) 3 0
    ∷ get_or (e i) 0 0 ∷ get_or (e i) 1 0 ∷ get_or (e i) 2 0 ∷ get_or (e i) 3 0 ∷ []
