use Rattle.key_wrap.proofs.OneKey.{Permutes, one_key}
use Rattle.key_wrap.proofs.laws.law_one_key_for_one_wrap.Goals as goal

pub returns : goal.returns
returns c = λ kek a b n is_key room h k e.
    let permutes : Permutes kek = record {
      blocks = λ text t. c.law_ciphertexts_are_blocks.ensures kek text is_key t;
      one = λ x y p q r. c.law_one_block_for_one_ciphertext.ensures kek x y is_key p q r;
    } in
    one_key kek a b n room permutes h k e
