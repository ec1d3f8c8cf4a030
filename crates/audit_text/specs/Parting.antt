-- Where the key text ends and the capture begins (this profile's own rule): at the first start of a line
-- where the next four octets are one of the five magic numbers, or behind the first line that says
-- `capture`, whichever comes first in the text.
use Rattle.std.specs.Prelude.{⊤, ◌≡◌, ◌≢◌, ◌⊎◌, ℕ, ◌<◌, ◌≤◌, ◌==◌, Bool, false, true, if◌then◌else◌, List, [], ◌∷◌, ◌++◌, length, take, Option, Some, Result, Ok, Err}
use Rattle.std.specs.List.{concat, list_any}
use Rattle.lan_base.specs.declared.source.ReadEnd.{ReadEnd}
use Rattle.lan_base.specs.declared.source.ReadEnd.TheVariants.{Limit, Failed, Memory}
use Rattle.capture_packets.specs.Captures.{begins_file}
use Rattle.text_lines.specs.Texts.{lines_of, open_line, without_return}
use Rattle.octet_supply.specs.Supplying.{Held, IsInLine, IsTaken, Stands}
use Rattle.octet_supply.specs.declared.supply.LineEnd.{LineEnd}
use Rattle.octet_supply.specs.declared.supply.LineEnd.TheVariants.{Feed, Most, Source}
use Rattle.trace_text.specs.declared.fault.TextFault.{TextFault}
use Rattle.audit_text.specs.declared.line.KeyLine.{KeyLine}
use Rattle.audit_text.specs.declared.line.KeyLine.TheVariants.{Capture}
use Rattle.audit_text.specs.declared.parting.Part.{Part}
use Rattle.audit_text.specs.declared.parting.Part.TheVariants as parts
use Rattle.audit_text.specs.Reading.{key_line_in}

-- a capture begins with these octets: with a magic number
abbrev pub begins : List ℕ → Bool
begins octets = begins_file (take 4 octets)

abbrev pub is_capture : Result (Option KeyLine) TextFault → Bool
is_capture (Ok (Some Capture)) = true
is_capture read = false

-- a line, without its ending, says `capture`
abbrev pub says_capture : List ℕ → Bool
says_capture line = is_capture (key_line_in line)

-- one of the lines of octets says `capture`
abbrev pub tells_capture : List ℕ → Bool
tells_capture octets = list_any says_capture (lines_of octets)

-- ---- line by line of a text

abbrev pub in_front : ℕ → List (List ℕ) → List (List ℕ)
in_front octet [] = (octet ∷ []) ∷ []
in_front octet (line ∷ lines) = (octet ∷ line) ∷ lines

-- the lines of a text with their line feeds, of which the last may have none
abbrev pub fed_lines : List ℕ → List (List ℕ)
fed_lines [] = []
fed_lines (octet ∷ octets) =
    if octet == 10 then (octet ∷ []) ∷ fed_lines octets else in_front octet (fed_lines octets)

-- the key text of such lines
abbrev pub keys_of : List (List ℕ) → List ℕ
keys_of [] = []
keys_of (line ∷ lines) =
    if begins (concat (line ∷ lines)) then []
    else line ++ (if tells_capture line then [] else keys_of lines)

-- the capture behind it
abbrev pub behind_keys : List (List ℕ) → List ℕ
behind_keys [] = []
behind_keys (line ∷ lines) =
    if begins (concat (line ∷ lines)) then concat (line ∷ lines)
    else if tells_capture line then concat lines
    else behind_keys lines

-- the key text that a text begins with
abbrev pub key_text : List ℕ → List ℕ
key_text text = keys_of (fed_lines text)

-- the capture in a text
abbrev pub capture_behind : List ℕ → List ℕ
capture_behind text = behind_keys (fed_lines text)

-- ---- what that is of a text

-- octets are whole lines: behind the last line feed there are none
abbrev pub AreLines : List ℕ → Type 0
AreLines octets = open_line [] octets ≡ []

-- A text is a key text and a capture behind it: at no start of a line of the keys does a capture begin
-- with a magic number, and no line of theirs but the last says `capture`; and a capture that has octets
-- stands behind whole lines, and begins with a magic number, or behind a line that says `capture`.
pub record IsParted (text keys capture : List ℕ) : Type 0 where
  pub whole : text ≡ keys ++ capture
  pub none : (front rest : List ℕ) → keys ≡ front ++ rest → rest ≢ [] → AreLines front
      → (begins (rest ++ capture) ≡ false) × (tells_capture front ≡ false)
  pub ends : capture ≢ [] → AreLines keys × ((begins capture ≡ true) ⊎ (tells_capture keys ≡ true))

-- ---- line by line of a source

-- at most so many octets are taken of a line: those that it may have, and a carriage return
abbrev pub most_taken : ℕ
most_taken = 4097

-- the line that octets are which end so: a carriage return before its line feed is none of it
abbrev pub line_of : LineEnd → List ℕ → List ℕ
line_of Feed octets = without_return octets
line_of Most octets = octets
line_of Source octets = octets

-- A line ends with its line feed, behind which the capture begins if the line says so, and else is the
-- same: no capture begins with the line, and none would where the text goes on past the limit.
pub record IsLine (limit : ℕ) (text given behind line : List ℕ) (new : Held)
    (left : Option (List ℕ)) : Type 0 where
  pub none : begins behind ≡ false
  pub seen : (4 ≤ length behind) ⊎ (length text ≤ limit)
  pub octets : List ℕ
  pub later : List ℕ
  pub parts : behind ≡ octets ++ 10 ∷ later
  pub within : IsInLine most_taken octets
  pub line_is : line ≡ line_of Feed octets
  pub stands : Stands limit text (given ++ (octets ++ 10 ∷ [])) new left
  pub capture : capture_behind behind ≡ (if says_capture line then later else capture_behind later)

-- a line has more octets than are taken of one, and no capture begins with it
pub record IsLong (behind line : List ℕ) : Type 0 where
  pub none : begins behind ≡ false
  pub octet : ℕ
  pub later : List ℕ
  pub parts : behind ≡ line ++ octet ∷ later
  pub other : octet ≢ 10
  pub within : IsInLine most_taken line
  pub full : length line ≡ most_taken

-- the last line has no line feed, and there is no octet of a capture
pub record IsLast (limit : ℕ) (text behind line : List ℕ) (left : Option (List ℕ)) : Type 0 where
  pub all : behind ≡ line
  pub within : IsInLine most_taken line
  pub few : length text ≤ limit
  pub end : left ≡ Some []
  pub capture : capture_behind behind ≡ []

-- octets from the start of a line on tell neither that a capture begins there nor where the line ends:
-- they are fewer than a magic number has, or a front of a line, which begins with none
abbrev pub IsUnparted : List ℕ → Type 0
IsUnparted octets =
    (length octets < 4) ⊎ ((begins octets ≡ false) × IsInLine most_taken octets)

-- what reading on at the start of a line did, where a text goes on with these octets
abbrev pub Parts : ℕ → List ℕ → List ℕ → List ℕ → List ℕ → Held → Option (List ℕ)
    → Result Part ReadEnd → Type 0
Parts limit text given behind line new left (Ok parts.Capture) =
    Stands limit text given new left × (begins behind ≡ true)
Parts limit text given behind line new left (Ok (parts.Line Feed)) =
    IsLine limit text given behind line new left
Parts limit text given behind line new left (Ok (parts.Line Most)) = IsLong behind line
Parts limit text given behind line new left (Ok (parts.Line Source)) =
    IsLast limit text behind line left
Parts limit text given behind line new left (Err Limit) = (limit < length text) × IsUnparted behind
Parts limit text given behind line new left (Err Failed) =
    (more : List ℕ) × IsTaken limit text (given ++ more) left × IsUnparted more
Parts limit text given behind line new left (Err Memory) = ⊤
