-- What a line says, or the first fault of it.
use Rattle.std.specs.Prelude.{ℕ, nat_lt, ◌==◌, Bool, false, if◌then◌else◌, List, [], ◌∷◌, length, Option, Some, None, Result, Ok, Err}
use Rattle.std.specs.Option.{ok_or}
use Rattle.std.specs.Result.{result_map_both}
use Rattle.trace_text.specs.declared.fault.TextFault.{TextFault}
use Rattle.trace_text.specs.declared.fault.TextFault.TheVariants.{TooLong, Word, Count}
use Rattle.trace_text.specs.declared.keyword.Keyword.{Keyword}
use Rattle.trace_text.specs.declared.keyword.Keyword.TheVariants.{Draws}
use Rattle.trace_text.specs.declared.line.Line.{Line}
use Rattle.trace_text.specs.Limits.{most_line}
use Rattle.trace_text.specs.Words.{words_of}
use Rattle.trace_text.specs.Kinds.{exactly_of, said}
use Rattle.trace_text.specs.Keywords.{keyword_of}
use Rattle.trace_text.specs.Forms.{Row, makes, ◌⇒◌, blocks, Form, forms_of, draws_form}

-- the second step, if the first gave a value
infixl 10 ◌>>=◌
abbrev pub ◌>>=◌ : {A B : Type 0}
    → Result A TextFault → (A → Result B TextFault) → Result B TextFault
Ok x >>= f = f x
Err fault >>= f = Err fault

-- the blocks that words spell, 16 octets each
abbrev pub blocks_of : List (List ℕ) → Result (List (List ℕ)) TextFault
blocks_of [] = Ok []
blocks_of (word ∷ words) = do
  block ← exactly_of 16 word
  others ← blocks_of words
  Ok (block ∷ others)

-- the line that words make along a row
abbrev pub along : Row → List (List ℕ) → Result Line TextFault
along (makes line) words = Ok line
along (kind ⇒ next) [] = Err Count
along (kind ⇒ next) (word ∷ words) = do
  says ← said kind word
  along (next says) words
along (blocks line) words = do
  values ← blocks_of words
  Ok (line values)

-- the line of the first of these forms that has so many words
abbrev pub by_count : List Form → List (List ℕ) → Result Line TextFault
by_count [] words = Err Count
by_count (form ∷ others) words =
    if form.counts (length words) then along form.row words else by_count others words

-- the line of words by one form, where there is one
abbrev pub by_form : Option Form → List (List ℕ) → Result Line TextFault
by_form None words = Err Word
by_form (Some form) words = by_count (form ∷ []) words

-- the line of words behind `draws`
abbrev pub draws_of : List (List ℕ) → Result Line TextFault
draws_of [] = Err Count
draws_of (second ∷ words) = by_form (draws_form second) words

-- the line of words behind a keyword
abbrev pub line_by : Keyword → List (List ℕ) → Result Line TextFault
line_by Draws words = draws_of words
line_by keyword words = by_count (forms_of keyword) words

-- the line of a first word, and the words behind it
abbrev pub line_of : List ℕ → List (List ℕ) → Result Line TextFault
line_of first words = do
  keyword ← ok_or (keyword_of first) Word
  line_by keyword words

-- a word that begins a comment: its first octet is `#`
abbrev pub is_comment : List ℕ → Bool
is_comment [] = false
is_comment (octet ∷ octets) = octet == 35

-- what words say: nothing where there are none, or in a comment
abbrev pub line_of_words : List (List ℕ) → Result (Option Line) TextFault
line_of_words [] = Ok None
line_of_words (first ∷ words) =
    if is_comment first then Ok None
    else result_map_both (λ line. Some line) (λ fault. fault) (line_of first words)

-- what a text without its line ending says as a line, or its first fault
unfoldable pub line_in : List ℕ → Result (Option Line) TextFault
line_in text = if nat_lt most_line (length text) then Err TooLong else line_of_words (words_of text)

-- the fault that was found instead of a value
abbrev pub fault_in : {A : Type 0} → Result A TextFault → Option TextFault
fault_in (Ok x) = None
fault_in (Err fault) = Some fault

-- the first fault of a text, if it has one
abbrev pub first_fault : List ℕ → Option TextFault
first_fault text = fault_in (line_in text)
