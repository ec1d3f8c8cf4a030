-- The keys of a key agreement group (IEEE Std 802.1X, 9.3.3), derived in counter mode (NIST SP
-- 800-108, 4.1) by CMAC. All are lists of octets.
use Rattle.std.specs.Prelude.{◌≡◌, ◌⊎◌, ℕ, zero, suc, ◌+◌, ◌*◌, ◌/◌, ◌<◌, List, [], ◌∷◌, ◌++◌, length, take, replicate, codes}
use Rattle.std.specs.Int.{w16, to_be_bytes}
use Rattle.aes_cmac.specs.Cmac.{cmac}
use Rattle.lan_base.specs.Ranges.{most_ckn_octets}

-- what a block is the CMAC of: its number, the label, a zero octet, the context, and how many bits
-- are wanted
abbrev pub input : ℕ → List ℕ → List ℕ → ℕ → List ℕ
input number label context bits = number ∷ label ++ 0 ∷ context ++ to_be_bytes w16 bits

-- the first n blocks, which are numbered from 1, one after the other
unfoldable pub blocks : List ℕ → List ℕ → List ℕ → ℕ → ℕ → List ℕ
blocks key label context bits zero = []
blocks key label context bits (suc n) =
    blocks key label context bits n ++ cmac key (input (suc n) label context bits)

-- so many octets, derived from a key under a label and a context: the first ones of as many blocks
-- as they take
unfoldable pub derived : List ℕ → List ℕ → List ℕ → ℕ → List ℕ
derived key label context len = take len (blocks key label context (8 * len) ((len + 15) / 16))

-- 16 octets of the CKN from its start, and zeros where it is shorter
abbrev pub context_of : List ℕ → List ℕ
context_of ckn = take 16 (ckn ++ replicate 16 0)

-- the key encrypting key of a CAK and its CKN, which has as many octets as the CAK (9.3.3)
abbrev pub kek_of : List ℕ → List ℕ → List ℕ
kek_of cak ckn = derived cak (codes "IEEE8021 KEK") (context_of ckn) (length cak)

-- the integrity check key, likewise (9.3.3)
abbrev pub ick_of : List ℕ → List ℕ → List ℕ
ick_of cak ckn = derived cak (codes "IEEE8021 ICK") (context_of ckn) (length cak)

-- a CKN has 1 to 32 octets, and this one has none or more
abbrev pub HasWrongLength : List ℕ → Type 0
HasWrongLength ckn = (ckn ≡ []) ⊎ (most_ckn_octets < length ckn)
