-- Lines, and those of keys that are set by hand (this profile's own forms).
use Rattle.std.specs.Prelude.{ℕ, Bool, if◌then◌else◌, List, [], ◌∷◌, ◌++◌, codes, decimal, flat_map}
use Rattle.hex.specs.Hex.{encode_lower}
use Rattle.aes_block.specs.Secrets.{secret_octets}
use Rattle.aes_block.specs.declared.secret.Secret.{Secret}
use Rattle.aes_block.specs.declared.secret.Secret.TheVariants.{S128, S256}
use Rattle.known_keys.specs.declared.sender.Sender.{Sender}
use Rattle.known_keys.specs.declared.sender.Sender.TheVariants.{Any, One}
use Rattle.lan_base.specs.AssociationNumbers.{number_of}
use Rattle.trace_text.specs.Words.{spaced}
use Rattle.key_ring.specs.declared.ring.HandKey.{HandKey}

-- a line, with its line feed
abbrev pub line_of : List ℕ → List (List ℕ) → List ℕ
line_of first words = first ++ (spaced words ++ 10 ∷ [])

-- one of the packet of this number
abbrev pub packet_line : ℕ → List (List ℕ) → List ℕ
packet_line n words = line_of (codes "packet") (decimal n ∷ words)

-- names, each with its number
abbrev pub count_words : List (List ℕ × ℕ) → List (List ℕ)
count_words counts = flat_map (λ it. it.0 ∷ decimal it.1 ∷ []) counts

abbrev pub counts_line : List ℕ → List (List ℕ × ℕ) → List ℕ
counts_line first counts = line_of first (count_words counts)

-- how many bits a key has
abbrev pub suite_of : Secret → ℕ
suite_of (S128 octets) = 128
suite_of (S256 octets) = 256

-- a key itself, where keys are told
abbrev pub sak_part : Bool → Secret → List (List ℕ)
sak_part keys sak = if keys then codes "sak" ∷ encode_lower (secret_octets sak) ∷ [] else []

-- ---- keys that are set by hand

abbrev pub sender_word : Sender → List ℕ
sender_word Any = codes "any"
sender_word (One sci) = encode_lower sci.0

-- a key with its number among the keys
abbrev pub hand_line : Bool → ℕ → HandKey → List ℕ
hand_line keys number key = line_of (codes "line") (decimal key.line ∷ codes "key" ∷ decimal number
    ∷ codes "sci" ∷ sender_word key.sender ∷ codes "an" ∷ decimal (number_of key.an) ∷ codes "suite"
    ∷ decimal (suite_of key.sak) ∷ sak_part keys key.sak)

-- keys, each with its number
abbrev pub set_lines : Bool → List (ℕ × HandKey) → List ℕ
set_lines keys hand = flat_map (λ it. hand_line keys it.0 it.1) hand
