-- Text that is appended word by word.
use Rattle.std.specs.Prelude.{ℕ, ◌≡◌, List, ◌++◌, decimal}
use Rattle.hex.specs.Hex.{encode_lower}
use Rattle.trace_text.specs.declared.appending.Word.{Word}
use Rattle.trace_text.specs.declared.appending.Word.TheVariants.{Text, Name, Number, Octets}

-- octets were appended, none perhaps
abbrev pub Grew : List ℕ → List ℕ → Type 0
Grew old new = (more : List ℕ) × (new ≡ old ++ more)

-- how a word is spelled: a number without leading zeros, octets in lower case
abbrev pub word_text : Word → List ℕ
word_text (Text letters) = letters.now
word_text (Name n) = n.now
word_text (Number n) = decimal n
word_text (Octets xs) = encode_lower xs.now
