-- what a CMAC in the making stands for, part by part
use Rattle.std.proofs.Common.{◌≡◌, ℕ, suc, ◌+◌, ◌<◌, ◌≤◌, List, [], ◌++◌, length, replicate, refl, ap, sym, ◌∙◌, arith, add-one}
use Rattle.aes_block.specs.Octet.{octets_sum}
use Rattle.aes_block.specs.Aes.{aes}
use Rattle.aes_cmac.specs.Cmac.{block, before_last, chain_after}
use Rattle.aes_cmac.specs.Progress.{Progress, Holds}
use Rattle.aes_cmac.proofs.Blocks.{chain_after-append, block-append, length-last, before_last-whole, block-next, before_last-part, block-more}

-- at the start nothing has come
pub Holds-none : (p : Progress) → p.chain ≡ replicate 16 0 → p.rest ≡ [] → Holds p p.key []
unfolding chain_after
Holds-none p chained rest = record { under = refl; enciphered = chained; waits = rest }

-- octets behind a whole block: that block is enciphered
pub Holds-whole : (p q : Progress) (key m xs : List ℕ) → Holds p key m → length p.rest ≡ 16 → 0 < length xs → length xs ≤ 16 → q.key ≡ p.key
    → q.chain ≡ aes p.key (octets_sum p.chain p.rest) → q.rest ≡ xs → Holds q key (m ++ xs)
unfolding chain_after
Holds-whole p q key m xs h whole some few key_stays chained rest =
    let n = before_last m in
    let is_whole : length (block m n) ≡ 16 = ap length (sym h.waits) ∙ whole in
    let grows : before_last (m ++ xs) ≡ suc n = before_last-whole m xs is_whole some few ∙ add-one n in
    let same_chain : chain_after key (m ++ xs) n ≡ chain_after key m n = chain_after-append key m _ n (omega (arith, length-last m)) in
    let same_block : block (m ++ xs) n ≡ block m n = block-append m _ n (omega (arith, length-last m)) in
    record {
      under = key_stays ∙ h.under;
      enciphered = let step : chain_after key (m ++ xs) (suc n) ≡ aes key (octets_sum (chain_after key m n) (block m n)) = cc in
          let u = h.under in let v = h.enciphered in let w = h.waits in cc;
      waits = rest ∙ sym (ap (block (m ++ xs)) (before_last-whole m xs is_whole some few) ∙ block-next m xs is_whole few);
    }

-- octets of the same block
pub Holds-part : (p q : Progress) (key m xs : List ℕ) → Holds p key m → length p.rest + length xs ≤ 16 → q.key ≡ p.key
    → q.chain ≡ p.chain → q.rest ≡ p.rest ++ xs → Holds q key (m ++ xs)
Holds-part p q key m xs h part key_stays chained rest =
    let n = before_last m in
    let is_part : length (block m n) + length xs ≤ 16 = omega (arith, ap length h.waits) in
    let stays : before_last (m ++ xs) ≡ n = before_last-part m xs is_part in
    let same_chain : chain_after key (m ++ xs) n ≡ chain_after key m n = chain_after-append key m _ n (omega (arith, length-last m)) in
    record {
      under = key_stays ∙ h.under;
      enciphered = chained ∙ h.enciphered ∙ sym (ap (chain_after key (m ++ xs)) stays ∙ same_chain);
      waits = rest ∙ ap (λ r. r ++ xs) h.waits ∙ sym (ap (block (m ++ xs)) stays ∙ block-more m xs is_part);
    }
