-- What a line of the key text says, or the first fault of it.
use Rattle.std.specs.Prelude.{ℕ, nat_lt, if◌then◌else◌, List, [], ◌∷◌, length, codes, Option, Some, None, Result, Ok, Err}
use Rattle.std.specs.Result.{result_map_both}
use Rattle.trace_text.specs.declared.fault.TextFault.{TextFault}
use Rattle.trace_text.specs.declared.fault.TextFault.TheVariants.{TooLong, Word}
use Rattle.trace_text.specs.Limits.{most_line}
use Rattle.trace_text.specs.Words.{words_of, is_word}
use Rattle.trace_text.specs.Reading.{is_comment, fault_in}
use Rattle.audit_text.specs.declared.line.KeyLine.{KeyLine}
use Rattle.audit_text.specs.Forms.{capture_of, group_of, sak_of}

-- the line of a first word, and the words behind it
abbrev pub key_line_of : List ℕ → List (List ℕ) → Result KeyLine TextFault
key_line_of first words =
    if is_word first (codes "group") then group_of words
    else if is_word first (codes "sak") then sak_of words
    else if is_word first (codes "capture") then capture_of words
    else Err Word

-- what words say: nothing where there are none, or in a comment
abbrev pub key_line_of_words : List (List ℕ) → Result (Option KeyLine) TextFault
key_line_of_words [] = Ok None
key_line_of_words (first ∷ words) =
    if is_comment first then Ok None
    else result_map_both (λ line. Some line) (λ fault. fault) (key_line_of first words)

-- what a text without its line ending says as a line of the key text, or its first fault
unfoldable pub key_line_in : List ℕ → Result (Option KeyLine) TextFault
key_line_in text =
    if nat_lt most_line (length text) then Err TooLong else key_line_of_words (words_of text)

-- the first fault of a text, if it has one
abbrev pub first_key_fault : List ℕ → Option TextFault
first_key_fault text = fault_in (key_line_in text)
