-- The key expansion (FIPS 197, section 5.2). A word is a list of four octets.
use Rattle.std.specs.Prelude.{ℕ, zero, suc, ◌+◌, ◌-◌, ◌*◌, ◌/◌, ◌%◌, ◌&&◌, ◌==◌, nat_lt, if◌then◌else◌, List, [], ◌∷◌, ◌++◌, map, length, take, drop, slice_index_or}
use Rattle.aes_block.specs.Octet.{octets_sum, sub_octet, times}

-- SubWord: the S-box on each octet (5.2)
abbrev pub sub_word : List ℕ → List ℕ
sub_word word = map sub_octet word

-- RotWord: the first octet goes to the end (5.2)
abbrev pub rot_word : List ℕ → List ℕ
rot_word word = drop 1 word ++ take 1 word

-- x to this power, as an octet (4.2)
unfoldable pub power_of_x : ℕ → ℕ
power_of_x zero = 1
power_of_x (suc n) = times 2 (power_of_x n)

-- Rcon (5.2)
abbrev pub round_constant : ℕ → List ℕ
round_constant i = power_of_x (i - 1) ∷ 0 ∷ 0 ∷ 0 ∷ []

-- Nk: how many words the key has (5.2)
abbrev pub key_words : List ℕ → ℕ
key_words key = length key / 4

-- Nr: how many rounds the cipher has with this key (5)
abbrev pub round_count : List ℕ → ℕ
round_count key = key_words key + 6

-- a word of a list of words
abbrev pub word_at : List (List ℕ) → ℕ → List ℕ
word_at words i = slice_index_or words i []

-- what is added to the word Nk places before word i, where the word before it is given (5.2)
abbrev pub addend : ℕ → ℕ → List ℕ → List ℕ
addend nk i last =
    if i % nk == 0 then octets_sum (sub_word (rot_word last)) (round_constant (i / nk))
    else (if nat_lt 6 nk && i % nk == 4 then sub_word last else last)

-- word i, from the words before it: the key's own words come first (5.2)
abbrev pub next_word : List ℕ → List (List ℕ) → ℕ → List ℕ
next_word key words i =
    if nat_lt i (key_words key) then take 4 (drop (4 * i) key)
    else octets_sum (word_at words (i - key_words key))
    (addend (key_words key) i (word_at words (i - 1)))

-- these words and the next one
abbrev pub extended : List ℕ → List (List ℕ) → List (List ℕ)
extended key words = words ++ next_word key words (length words) ∷ []

-- the first n words of the expanded key (5.2)
unfoldable pub expansion : List ℕ → ℕ → List (List ℕ)
expansion key zero = []
expansion key (suc n) = extended key (expansion key n)

-- the whole expanded key: four words for each round, and four for the addition before them (5.2)
abbrev pub expanded_key : List ℕ → List (List ℕ)
expanded_key key = expansion key (4 * (round_count key + 1))

-- a round key: four words in a row (5.1.4)
unfoldable pub round_key : List (List ℕ) → ℕ → List ℕ
round_key words i =
    word_at words (4 * i) ++ word_at words (4 * i + 1) ++ word_at words (4 * i + 2)
    ++ word_at words (4 * i + 3)
