-- What words tell by a table: the value of the row whose words these are.
use Rattle.std.specs.Prelude.{ℕ, ◌^◌, nat_lt, if◌then◌else◌, List, [], ◌∷◌, Option, Some, None}
use Rattle.trace_text.specs.Words.{is_word}
use Rattle.transcript.specs.Words.{Word, text, number, Row, one, each}

-- the letters of the first of these words
abbrev pub letters_of : List Word → List ℕ
letters_of (text letters ∷ others) = letters
letters_of others = []

-- how many bits the number behind it has
abbrev pub bits_of : List Word → ℕ
bits_of (first ∷ number bits n ∷ others) = bits
bits_of others = 0

-- the value that a word alone tells
abbrev pub alone : {A : Type 0} → (A → List Word) → List (Row A) → List ℕ → Option A
alone words [] word = None
alone words (one x ∷ rows) word =
    if is_word word (letters_of (words x)) then Some x else alone words rows word
alone words (each f ∷ rows) word = alone words rows word

-- the value that a word and a number behind it tell
abbrev pub counted : {A : Type 0} → (A → List Word) → List (Row A) → List ℕ → ℕ → Option A
counted words [] word n = None
counted words (one x ∷ rows) word n = counted words rows word n
counted words (each f ∷ rows) word n =
    if is_word word (letters_of (words (f 0)))
    then (if nat_lt n (2 ^ bits_of (words (f 0))) then Some (f n) else None)
    else counted words rows word n

-- the value that a word tells, and a number behind it, if one is there
abbrev pub value_of : {A : Type 0}
    → (A → List Word) → List (Row A) → List ℕ → Option ℕ → Option A
value_of words rows word None = alone words rows word
value_of words rows word (Some n) = counted words rows word n

-- the first value of a table that this word is the text of
abbrev pub named : {A : Type 0} → (A → List ℕ) → List A → List ℕ → Option A
named letters [] word = None
named letters (x ∷ xs) word = if is_word word (letters x) then Some x else named letters xs word
