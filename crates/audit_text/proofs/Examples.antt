-- The definitions at worked lines.
use Rattle.std.proofs.Common.{inl, inr, ◌≡◌, ℕ, List, [], ◌∷◌, ◌++◌, replicate, refl}
use Rattle.std.specs.Prelude.{codes, Ok, Err, Some, None}
use Rattle.hex.proofs.OnLiterals.{hex_on_literals}
use Rattle.trace_text.specs.declared.fault.TextFault.TheVariants.{TooLong, Word, Count, Hex, Range}
use Rattle.audit_text.specs.declared.line.KeyLine.TheVariants.{Capture, Group, Sak}
use Rattle.audit_text.specs.declared.line.Sender.TheVariants.{Any, One}
use Rattle.octet_supply.specs.declared.supply.LineEnd.TheVariants.{Feed, Source}
use Rattle.audit_text.specs.Parting.{IsParted, capture_behind, key_text, line_of}
use Rattle.audit_text.specs.Reading.{key_line_in}
use Rattle.audit_text.proofs.KeyText.{parted}

empty : key_line_in (codes " \t") ≡ Ok None
unfolding key_line_in
empty = refl

comment : key_line_in (codes "  #sak") ≡ Ok None
unfolding key_line_in
comment = refl

-- a group: digits of either case
group : key_line_in (codes "group 000102030405060708090a0B0C0D0E0F 01020304")
    ≡ Ok (Some (Group (0 ∷ 1 ∷ 2 ∷ 3 ∷ 4 ∷ 5 ∷ 6 ∷ 7 ∷ 8 ∷ 9 ∷ 10 ∷ 11 ∷ 12 ∷ 13 ∷ 14 ∷ 15 ∷ []) (1 ∷ 2 ∷ 3 ∷ 4 ∷ [])))
unfolding key_line_in hex_on_literals
group = refl

-- a key of one sender, and one of any
of_one : key_line_in (codes "sak 02000000000a0001 3 000102030405060708090a0b0c0d0e0f")
    ≡ Ok (Some (Sak (One (record { 0 = 2 ∷ 0 ∷ 0 ∷ 0 ∷ 0 ∷ 10 ∷ 0 ∷ 1 ∷ [] })) 3
    (0 ∷ 1 ∷ 2 ∷ 3 ∷ 4 ∷ 5 ∷ 6 ∷ 7 ∷ 8 ∷ 9 ∷ 10 ∷ 11 ∷ 12 ∷ 13 ∷ 14 ∷ 15 ∷ [])))
unfolding key_line_in hex_on_literals
of_one = refl

of_any : key_line_in (codes "sak\tany 00 000102030405060708090a0b0c0d0e0f ")
    ≡ Ok (Some (Sak Any 0 (0 ∷ 1 ∷ 2 ∷ 3 ∷ 4 ∷ 5 ∷ 6 ∷ 7 ∷ 8 ∷ 9 ∷ 10 ∷ 11 ∷ 12 ∷ 13 ∷ 14 ∷ 15 ∷ [])))
unfolding key_line_in hex_on_literals
of_any = refl

-- the end of the key text, with blanks beside it
capture : key_line_in (codes "\tcapture ") ≡ Ok (Some Capture)
unfolding key_line_in
capture = refl

-- the first fault, word by word
other_word : key_line_in (codes "key 00 01") ≡ Err Word
unfolding key_line_in
other_word = refl

no_key : key_line_in (codes "sak any 0") ≡ Err Count
unfolding key_line_in
no_key = refl

short_key : key_line_in (codes "group 00 01") ≡ Err Hex
unfolding key_line_in hex_on_literals
short_key = refl

no_sender : key_line_in (codes "sak Any 4 00") ≡ Err Hex
unfolding key_line_in hex_on_literals
no_sender = refl

no_association : key_line_in (codes "sak any 4 00") ≡ Err Range
unfolding key_line_in hex_on_literals
no_association = refl

of_one_octet : key_line_in (codes "sak any 3 00") ≡ Err Hex
unfolding key_line_in hex_on_literals
of_one_octet = refl

-- no word may stand behind it, and no comment
commented_capture : key_line_in (codes "capture # x") ≡ Err Count
unfolding key_line_in
commented_capture = refl

long_capture : key_line_in (codes "captures") ≡ Err Word
unfolding key_line_in
long_capture = refl

too_long : key_line_in (replicate 4097 32) ≡ Err TooLong
unfolding key_line_in
too_long = refl

-- ---- where the capture begins

abbrev section_front : List ℕ
section_front = 0x0a ∷ 0x0d ∷ 0x0d ∷ 0x0a ∷ 28 ∷ []

-- at the first start of a line where a magic number stands: not inside a line, and not without its fourth
-- octet
ends : key_text (codes "sak" ++ 10 ∷ section_front) ≡ codes "sak" ++ 10 ∷ []
unfolding key_line_in
ends = refl

begins_behind : capture_behind (codes "sak" ++ 10 ∷ section_front) ≡ section_front
unfolding key_line_in
begins_behind = refl

at_once : capture_behind section_front ≡ section_front
at_once = refl

inside_a_line : capture_behind (codes "sa" ++ 0xa1 ∷ 0xb2 ∷ 0xc3 ∷ 0xd4 ∷ []) ≡ []
unfolding key_line_in
inside_a_line = refl

behind_a_line : capture_behind (codes "sa" ++ 10 ∷ 0x4d ∷ 0x3c ∷ 0xb2 ∷ 0xa1 ∷ 7 ∷ [])
    ≡ 0x4d ∷ 0x3c ∷ 0xb2 ∷ 0xa1 ∷ 7 ∷ []
unfolding key_line_in
behind_a_line = refl

three_octets : capture_behind (0xa1 ∷ 0xb2 ∷ 0xc3 ∷ []) ≡ []
unfolding key_line_in
three_octets = refl

-- behind the first line that says `capture`, whatever stands there
behind_capture : capture_behind (codes "sak" ++ 10 ∷ codes "capture" ++ 13 ∷ 10 ∷ codes "sak") ≡ codes "sak"
unfolding key_line_in
behind_capture = refl

ends_with_capture : key_text (codes "sak" ++ 10 ∷ codes "capture" ++ 13 ∷ 10 ∷ codes "sak")
    ≡ codes "sak" ++ 10 ∷ codes "capture" ++ 13 ∷ 10 ∷ []
unfolding key_line_in
ends_with_capture = refl

-- so a second one stands in the capture
twice_capture : capture_behind (codes "capture" ++ 10 ∷ codes "capture" ++ 10 ∷ []) ≡ codes "capture" ++ 10 ∷ []
unfolding key_line_in
twice_capture = refl

-- without a line feed behind it the capture is empty
last_capture : capture_behind (codes "# x" ++ 10 ∷ codes "capture") ≡ []
unfolding key_line_in
last_capture = refl

last_capture_is_key_text : key_text (codes "# x" ++ 10 ∷ codes "capture") ≡ codes "# x" ++ 10 ∷ codes "capture"
unfolding key_line_in
last_capture_is_key_text = refl

-- a line with more words, or in which it is no word of its own, does not say it
with_a_comment : capture_behind (codes "capture # x" ++ 10 ∷ codes "sak") ≡ []
unfolding key_line_in
with_a_comment = refl

in_a_comment : capture_behind (codes "# capture" ++ 10 ∷ codes "sak") ≡ []
unfolding key_line_in
in_a_comment = refl

-- of both the first in the text counts
capture_first : capture_behind (codes "capture" ++ 10 ∷ 7 ∷ 10 ∷ section_front) ≡ 7 ∷ 10 ∷ section_front
unfolding key_line_in
capture_first = refl

magic_first : capture_behind (codes "sak" ++ 10 ∷ section_front ++ 10 ∷ codes "capture" ++ 10 ∷ [])
    ≡ section_front ++ 10 ∷ codes "capture" ++ 10 ∷ []
unfolding key_line_in
magic_first = refl

-- ---- the parts of a text

-- a text with a capture is parted there
line_and_section : IsParted (codes "sak" ++ 10 ∷ section_front) (codes "sak" ++ 10 ∷ []) section_front
unfolding key_line_in
line_and_section = parted (codes "sak" ++ 10 ∷ section_front)

capture_and_word : IsParted (codes "capture" ++ 10 ∷ codes "x") (codes "capture" ++ 10 ∷ []) (codes "x")
unfolding key_line_in
capture_and_word = parted (codes "capture" ++ 10 ∷ codes "x")

-- not at its second capture, and not within a line
not_the_second : IsParted (section_front ++ 10 ∷ section_front) (section_front ++ 10 ∷ []) section_front → ⊥
not_the_second p = cc (p.none [] (section_front ++ 10 ∷ []) refl (λ none. cc none) refl).0

not_within_a_line : IsParted (7 ∷ section_front) (7 ∷ []) section_front → ⊥
not_within_a_line p = cc (p.ends (λ none. cc none)).0

-- not at a magic number behind a line `capture`, and not with that line
not_the_magic : IsParted (codes "capture" ++ 10 ∷ 10 ∷ section_front) (codes "capture" ++ 10 ∷ 10 ∷ []) section_front → ⊥
unfolding key_line_in
not_the_magic p = cc (p.none (codes "capture" ++ 10 ∷ []) (10 ∷ []) refl (λ none. cc none) refl).1

not_with_its_line : IsParted (codes "capture" ++ 10 ∷ 7 ∷ []) [] (codes "capture" ++ 10 ∷ 7 ∷ []) → ⊥
not_with_its_line p = elim (p.ends (λ none. cc none)).1 [ inl is ↦ cc is | inr tells ↦ cc tells ]

-- a carriage return before a line feed is none of a line, and stays where there is no line feed
returned : line_of Feed (codes "sak" ++ 13 ∷ []) ≡ codes "sak"
returned = refl

kept : line_of Source (codes "sak" ++ 13 ∷ []) ≡ codes "sak" ++ 13 ∷ []
kept = refl
