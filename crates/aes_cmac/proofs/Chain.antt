-- The chain over whole blocks, and the last block behind them.
use Rattle.std.proofs.Common.{◌≡◌, ℕ, zero, suc, ◌+◌, ◌*◌, ◌<◌, ◌≤◌, List, [], ◌++◌, length, take, drop, get_or, refl, ap, sym, ◌∙◌, arith}
use Rattle.std.proofs.lemmas.List.{drop-drop}
use Rattle.std.specs.Simd.{first_chunks}
use Rattle.aes_block.specs.Octet.{octets_sum}
use Rattle.aes_block.specs.Aes.{aes}
use Rattle.aes_cmac.specs.Cmac.{before_last, block, chain_after, cmac, last_block}
use Rattle.aes_cmac.proofs.Blocks.{block-append, block-last}

-- a block of a whole number of them
pub get_or-first_chunks : (k : ℕ) (xs : List ℕ) (i : ℕ) → i < k → get_or (first_chunks 16 k xs) i [] ≡ block xs i
get_or-first_chunks zero xs i lt = absurd (omega arith)
get_or-first_chunks (suc k) xs zero lt = refl
get_or-first_chunks (suc k) xs (suc i) lt =
    let further : 16 + 16 * i ≡ 16 * suc i = omega arith in
    get_or-first_chunks k (drop 16 xs) i (omega arith) ∙ ap (take 16) (drop-drop (16 * i) 16 xs ∙ ap (λ n. drop n xs) further)

-- one block more
pub chain-more : (key message before rest : List ℕ) (k i : ℕ) (chain sum next : List ℕ) → message ≡ before ++ rest → 16 * k ≤ length before
    → i < k → chain ≡ chain_after key message i → sum ≡ octets_sum chain (get_or (first_chunks 16 k before) i [])
    → next ≡ aes key sum → next ≡ chain_after key message (suc i)
unfolding chain_after
chain-more key message before rest k i chain sum next parts room lt is is_sum is_next =
    let same : get_or (first_chunks 16 k before) i [] ≡ block message i =
    get_or-first_chunks k before i lt ∙ sym (ap (λ m. block m i) parts ∙ block-append before rest i (omega arith)) in
    is_next ∙ ap (aes key) (is_sum ∙ (λ j. octets_sum (is j) (same j)))

-- the whole value
pub cmac-whole : (key message rest part last sum : List ℕ) (n : ℕ) (chain : List ℕ) → n ≡ before_last message → rest ≡ drop (16 * n) message
    → part ≡ rest → chain ≡ chain_after key message n → last ≡ last_block key part → sum ≡ octets_sum chain last → aes key sum ≡ cmac key message
unfolding cmac
cmac-whole key message rest part last sum n chain is_n is_rest is_part is_chain is_last is_sum =
    let all : part ≡ block message (before_last message) =
    is_part ∙ is_rest ∙ ap (λ k. drop (16 * k) message) is_n ∙ sym (block-last message) in
    ap (aes key) (is_sum ∙ (λ i. octets_sum ((is_chain ∙ ap (chain_after key message) is_n) i) ((is_last ∙ ap (last_block key) all) i)))
