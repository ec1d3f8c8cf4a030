-- The key encrypting key that is derived of a CAK is one of AES.
use Rattle.std.proofs.Common.{◌≡◌, ◌∙◌, ◌<◌, ◌≤◌, ◌+◌, ◌-◌, ◌*◌, ◌/◌, ◌⊎◌, inl, inr, ℕ, zero, suc, List, [], ◌∷◌, ◌++◌, length, drop, replicate, refl, sym, ap, subst, arith, length-append, length-drop, length-take, cond}
use Rattle.std.specs.Prelude.{◌==◌, codes, if◌then◌else◌}
use Rattle.std.specs.Int.{byte_at, bytes_high_first, from_be_bytes, to_be_bytes, w16, w128}
use Rattle.std.proofs.lemmas.Bool.{cases_eq, eq-eqb, ne_eqb}
use Rattle.std.proofs.lemmas.Nat.{mod_below}
use Rattle.aes_block.specs.Aes.{IsBlock, IsKey, aes}
use Rattle.aes_block.specs.Octet.{octets_sum}
use Rattle.aes_block.proofs.Public.{AreOctets, All-from_AreOctets, AreOctets-append, AreOctets-drop, AreOctets-from_All, AreOctets-octets_sum, AreOctets-take}
use Rattle.aes_cmac.specs.Cmac.{before_last, block, chain_after, cmac, doubled, doubled_bits, first_subkey, last_block, padded_part, second_subkey}
use Rattle.mka_kdf.specs.Kdf.{context_of, derived, input, kek_of}
use Rattle.mka_kdf.proofs.Public.{derived-16, derived-32}

-- what `law_ciphertexts_are_blocks` says
abbrev pub AreBlocks : Type 0
AreBlocks = (key text : List ℕ) → IsKey key → IsBlock text → IsBlock (aes key text)

-- ---- blocks

block-of : (xs : List ℕ) → length xs ≡ 16 → AreOctets xs → IsBlock xs
block-of xs count octets = record { count = count; octets = All-from_AreOctets xs octets }

octets-of : (xs : List ℕ) → IsBlock xs → AreOctets xs
octets-of xs is = AreOctets-from_All xs is.octets

zeros-octets : (n : ℕ) → AreOctets (replicate n 0)
zeros-octets zero = tt
zeros-octets (suc n) = (omega arith, zeros-octets n)

zeros-length : (n : ℕ) → length (replicate {A = ℕ} n 0) ≡ n
zeros-length zero = refl
zeros-length (suc n) = ap suc (zeros-length n)

byte-fits : (k n : ℕ) → byte_at k n < 256
byte-fits zero n = mod_below n 256 (omega arith)
byte-fits (suc k) n = mod_below _ 256 (omega arith)

bytes-octets : (k n : ℕ) → AreOctets (bytes_high_first k n)
bytes-octets zero n = tt
bytes-octets (suc k) n = (byte-fits k n, bytes-octets k n)

bytes-length : (k n : ℕ) → length (bytes_high_first k n) ≡ k
bytes-length zero n = refl
bytes-length (suc k) n = ap suc (bytes-length k n)

sum-length : (xs ys : List ℕ) → length xs ≡ length ys → length (octets_sum xs ys) ≡ length xs
sum-length [] ys same = refl
sum-length (x ∷ xs) [] same = absurd (omega (arith, same))
sum-length (x ∷ xs) (y ∷ ys) same = ap suc (sum-length xs ys (omega (arith, same)))

sum-block : (xs ys : List ℕ) → IsBlock xs → IsBlock ys → IsBlock (octets_sum xs ys)
sum-block xs ys one other =
    block-of (octets_sum xs ys) (sum-length xs ys (one.count ∙ sym other.count) ∙ one.count)
    (AreOctets-octets_sum xs ys (octets-of xs one) (octets-of ys other))

zeros-block : IsBlock (replicate 16 0)
zeros-block = block-of (replicate 16 0) refl (zeros-octets 16)

doubled-block : (text : List ℕ) → IsBlock (doubled text)
unfolding doubled
doubled-block text =
    let bits = doubled_bits (from_be_bytes w128 text) in
    block-of (to_be_bytes w128 bits) (bytes-length 16 bits) (bytes-octets 16 bits)

-- ---- the value of a message

module _ (blocks : AreBlocks) (key message : List ℕ) (is : IsKey key) (octets : AreOctets message) where
  part-octets : (i : ℕ) → AreOctets (block message i)
  part-octets i = AreOctets-take 16 (drop (16 * i) message) (AreOctets-drop (16 * i) message octets)

  part-length : (i : ℕ) → i < before_last message → length (block message i) ≡ 16
  part-length i less =
      let cut = length-drop (16 * i) message in
      let some = length-take 16 (drop (16 * i) message) in
      omega (arith, less, cut, some)

  chain-block : (i : ℕ) → i ≤ before_last message → IsBlock (chain_after key message i)
  unfolding chain_after
  chain-block zero less = zeros-block
  chain-block (suc i) less =
      blocks key (octets_sum (chain_after key message i) (block message i)) is
      (sum-block (chain_after key message i) (block message i) (chain-block i (omega (arith, less)))
      (block-of (block message i) (part-length i (omega (arith, less))) (part-octets i)))

  last-length : length (block message (before_last message)) ≤ 16
  last-length = let some = length-take 16 (drop (16 * before_last message) message) in omega (arith, some)

  padded-block : (part : List ℕ) → length part < 16 → AreOctets part → IsBlock (padded_part part)
  padded-block part less fit =
      let long = length-append part (0x80 ∷ replicate (15 - length part) 0) in
      let rest = zeros-length (15 - length part) in
      block-of (padded_part part) (omega (arith, long, rest, less))
      (AreOctets-append part (0x80 ∷ replicate (15 - length part) 0) fit (omega arith, zeros-octets (15 - length part)))

  last-is : (part : List ℕ) → length part ≤ 16 → AreOctets part → IsBlock (last_block key part)
  last-is part less fit = go (cases_eq (length part) 16)
    where
      go : (length part ≡ 16) ⊎ (length part ≡ 16 → ⊥) → IsBlock (last_block key part)
      go (inl full) =
          subst (λ b. IsBlock (cond b (octets_sum part (first_subkey key)) (octets_sum (padded_part part) (second_subkey key))))
          (sym (eq-eqb (length part) 16 full))
          (sum-block part (first_subkey key) (block-of part full fit) (doubled-block (aes key (replicate 16 0))))
      go (inr other) =
          subst (λ b. IsBlock (cond b (octets_sum part (first_subkey key)) (octets_sum (padded_part part) (second_subkey key))))
          (sym (ne_eqb (length part) 16 other))
          (sum-block (padded_part part) (second_subkey key) (padded-block part (omega (arith, less, other)) fit)
          (doubled-block (first_subkey key)))

  cmac-block : IsBlock (cmac key message)
  unfolding cmac
  cmac-block =
      let n = before_last message in
      blocks key (octets_sum (chain_after key message n) (last_block key (block message n))) is
      (sum-block (chain_after key message n) (last_block key (block message n)) (chain-block n (omega arith))
      (last-is (block message n) last-length (part-octets n)))

-- ---- what is derived

input-octets : (number : ℕ) (label context : List ℕ) (bits : ℕ) → number < 256 → AreOctets label → AreOctets context
    → AreOctets (input number label context bits)
input-octets number label context bits one named with_it =
    AreOctets-append ((number ∷ label) ++ (0 ∷ context)) (to_be_bytes w16 bits)
    (AreOctets-append (number ∷ label) (0 ∷ context) (one, named) (omega arith, with_it)) (bytes-octets 2 bits)

context-octets : (ckn : List ℕ) → AreOctets ckn → AreOctets (context_of ckn)
context-octets ckn fit = AreOctets-take 16 (ckn ++ replicate 16 0) (AreOctets-append ckn (replicate 16 0) fit (zeros-octets 16))

label-octets : AreOctets (codes "IEEE8021 KEK")
label-octets =
    (omega arith, (omega arith, (omega arith, (omega arith, (omega arith, (omega arith, (omega arith, (omega arith, (omega arith, (omega arith, (omega arith, (omega arith, tt))))))))))))

module _ (blocks : AreBlocks) (cak context : List ℕ) (is : IsKey cak) (fit : AreOctets context) where
  one-block : (number bits : ℕ) → number < 256 → IsBlock (cmac cak (input number (codes "IEEE8021 KEK") context bits))
  one-block number bits low =
      cmac-block blocks cak (input number (codes "IEEE8021 KEK") context bits) is
      (input-octets number (codes "IEEE8021 KEK") context bits low label-octets fit)

  key-16 : IsKey (derived cak (codes "IEEE8021 KEK") context 16)
  key-16 =
      let it = one-block 1 128 (omega arith) in
      subst IsKey (sym (derived-16 cak (codes "IEEE8021 KEK") context it.count))
      (record { count = inl it.count; octets = it.octets })

  key-32 : IsKey (derived cak (codes "IEEE8021 KEK") context 32)
  key-32 =
      let first = one-block 1 256 (omega arith) in
      let second = one-block 2 256 (omega arith) in
      let a = cmac cak (input 1 (codes "IEEE8021 KEK") context 256) in
      let b = cmac cak (input 2 (codes "IEEE8021 KEK") context 256) in
      let long = length-append a b in
      let one = first.count in
      let two = second.count in
      subst IsKey (derived-32 cak (codes "IEEE8021 KEK") context first.count second.count)
      (record {
        count = inr (inr (omega (arith, long, one, two)));
        octets = All-from_AreOctets (a ++ b) (AreOctets-append a b (octets-of a first) (octets-of b second));
      })

-- the key encrypting key of a CAK of 16 or 32 octets and its name
pub kek-is-key : AreBlocks → (cak ckn : List ℕ) → (length cak ≡ 16) ⊎ (length cak ≡ 32) → AreOctets cak → AreOctets ckn
    → IsKey (kek_of cak ckn)
kek-is-key blocks cak ckn (inl count) octets named =
    subst (λ n. IsKey (derived cak (codes "IEEE8021 KEK") (context_of ckn) n)) (sym count)
    (key-16 blocks cak (context_of ckn) (record { count = inl count; octets = All-from_AreOctets cak octets })
    (context-octets ckn named))
kek-is-key blocks cak ckn (inr count) octets named =
    subst (λ n. IsKey (derived cak (codes "IEEE8021 KEK") (context_of ckn) n)) (sym count)
    (key-32 blocks cak (context_of ckn) (record { count = inr (inr count); octets = All-from_AreOctets cak octets })
    (context-octets ckn named))
