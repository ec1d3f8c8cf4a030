-- The tag by numbers, and what is sealed and unsealed.
use Rattle.std.proofs.Common.{◌≡◌, ℕ, ◌^◌, ◌<◌, List, Bool, length, replicate, sym, ap, ◌∙◌}
use Rattle.std.specs.List.{All}
use Rattle.std.specs.Int.{w128, from_be_bytes}
use Rattle.aes_block.specs.Aes.{aes, IsBlock}
use Rattle.aes_block.specs.Bits.{bits}
use Rattle.gcm_core.specs.Blocks.{block_bits, block_octets, octets_of_bits}
use Rattle.gcm_core.specs.Gcm.{gcm, gcm_text, gcm_tag, gctr, increment, first_counter, counter_block, hashed, hash_key}
use Rattle.gcm_core.proofs.KeyStream.{gctr-gctr, gctr-increment, IsBlock-increment}
use Rattle.gcm_core.proofs.Octets.{IsOctet, block_octets-read, octets_of_bits-block_bits}

pub hash_key-is : (key cipher : List ℕ) (h : ℕ) → cipher ≡ aes key (replicate 16 0) → block_octets h ≡ cipher → hash_key key ≡ block_bits h
unfolding hash_key block_bits
hash_key-is key cipher h ec eh = ap bits (sym ec ∙ sym eh)

pub tag_is : (key iv extra text tag : List ℕ) (h : List Bool) (s : ℕ) → h ≡ hash_key key → block_bits s ≡ hashed h extra text → s < 2 ^ 128
    → tag ≡ gctr key (first_counter iv) (block_octets s) → tag ≡ gcm_tag key iv extra text
unfolding gcm_tag
tag_is key iv extra text tag h s eh es fits et =
    et
    ∙ ap (gctr key (first_counter iv)) (sym (ap octets_of_bits (sym es) ∙ octets_of_bits-block_bits s fits)
    ∙ ap (λ (k : List Bool). octets_of_bits (hashed k extra text)) eh)

pub gcm_text-is : (key iv text result : List ℕ) → length iv ≡ 12 → result ≡ gctr key (counter_block iv 2) text → result ≡ gcm_text key iv text
unfolding gcm_text
gcm_text-is key iv text result h e = e ∙ sym (gctr-increment key iv text h)

-- what is known of the IV and of the cipher under the key
pub record Encrypts (key iv : List ℕ) : Type 0 where
  pub counter : IsBlock (first_counter iv)
  pub blocks : (text : List ℕ) → IsBlock text → IsBlock (aes key text)

-- encrypting twice gives the text back
gcm_text-gcm_text : (key iv text : List ℕ) → Encrypts key iv → gcm_text key iv (gcm_text key iv text) ≡ text
unfolding gcm_text
gcm_text-gcm_text key iv text h =
    gctr-gctr key (increment (first_counter iv)) text h.blocks (IsBlock-increment (first_counter iv) h.counter)

-- two blocks of octets that are read as one number are one block
pub same_from_numbers : (xs ys : List ℕ) → length xs ≡ 16 → length ys ≡ 16 → All IsOctet xs → All IsOctet ys
    → from_be_bytes w128 xs ≡ from_be_bytes w128 ys → xs ≡ ys
same_from_numbers xs ys lx ly ax ay e = sym (block_octets-read xs lx ax) ∙ ap block_octets e ∙ block_octets-read ys ly ay

pub unsealed_is : (key iv extra text plain tag : List ℕ) → Encrypts key iv → plain ≡ gcm_text key iv text → tag ≡ gcm_tag key iv extra text
    → gcm key iv extra plain ≡ (text, tag)
unsealed_is key iv extra text plain tag h ep et =
    let back : gcm_text key iv plain ≡ text = ap (gcm_text key iv) ep ∙ gcm_text-gcm_text key iv text h in
    rw back (λ i. (text, sym et i))

pub unsealed_only : (key iv extra text plain tag other : List ℕ) → Encrypts key iv → plain ≡ gcm_text key iv text
    → gcm key iv extra other ≡ (text, tag) → other ≡ plain
unsealed_only key iv extra text plain tag other h ep e =
    sym (gcm_text-gcm_text key iv other h) ∙ ap (gcm_text key iv) (ap (λ (p : List ℕ × List ℕ). p.0) e) ∙ sym ep
