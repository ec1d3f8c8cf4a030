-- What a line of a member's input says, or the first fault of it.
use Rattle.std.specs.Prelude.{ℕ, nat_lt, Bool, true, false, if◌then◌else◌, List, [], ◌∷◌, length, codes, Option, Some, None, Result, Ok, Err}
use Rattle.std.specs.Option.{option_map_or}
use Rattle.std.specs.Result.{result_map_both}
use Rattle.trace_text.specs.declared.fault.TextFault.{TextFault}
use Rattle.trace_text.specs.declared.fault.TextFault.TheVariants.{TooLong, Word}
use Rattle.trace_text.specs.declared.keyword.Keyword.{Keyword}
use Rattle.trace_text.specs.declared.keyword.Keyword.TheVariants.{Draws, Conf, Rekey, Suite, Flag, Group, Restart}
use Rattle.trace_text.specs.Limits.{most_line}
use Rattle.trace_text.specs.Words.{words_of, is_word}
use Rattle.trace_text.specs.Keywords.{keyword_of}
use Rattle.trace_text.specs.Reading.{◌>>=◌, line_of, is_comment, fault_in}
use Rattle.member_text.specs.declared.line.MemberLine.{MemberLine}
use Rattle.member_text.specs.declared.line.MemberLine.TheVariants.{Plain}
use Rattle.member_text.specs.Forms.{member_of, tick_of, hear_of}

-- the keywords of a trace that a member's input has too
abbrev pub shares : Keyword → Bool
shares Draws = true
shares Conf = true
shares Rekey = true
shares Suite = true
shares Flag = true
shares Group = true
shares Restart = true
shares _ = false

-- a word that is one of them
abbrev pub is_shared : List ℕ → Bool
is_shared word = option_map_or shares (keyword_of word) false

-- the line of such a word and the words behind it, as in a trace
abbrev pub plain_of : List ℕ → List (List ℕ) → Result MemberLine TextFault
plain_of first words = do
  line ← line_of first words
  Ok (Plain line)

-- the line of a first word, and the words behind it
abbrev pub member_line_of : List ℕ → List (List ℕ) → Result MemberLine TextFault
member_line_of first words =
    if is_word first (codes "member") then member_of words
    else if is_word first (codes "tick") then tick_of words
    else if is_word first (codes "hear") then hear_of words
    else if is_shared first then plain_of first words
    else Err Word

-- what words say: nothing where there are none, or in a comment
abbrev pub member_line_of_words : List (List ℕ) → Result (Option MemberLine) TextFault
member_line_of_words [] = Ok None
member_line_of_words (first ∷ words) =
    if is_comment first then Ok None
    else result_map_both (λ line. Some line) (λ fault. fault) (member_line_of first words)

-- what a text without its line ending says as a line, or its first fault
unfoldable pub member_line_in : List ℕ → Result (Option MemberLine) TextFault
member_line_in text =
    if nat_lt most_line (length text) then Err TooLong else member_line_of_words (words_of text)

-- the first fault of a text, if it has one
abbrev pub first_member_fault : List ℕ → Option TextFault
first_member_fault text = fault_in (member_line_in text)
