-- The kinds of words that follow a line's first: what such a word says, and how that is written.
use Rattle.std.specs.Prelude.{ℕ, ◌-◌, ◌^◌, ◌≤◌, ◌==◌, ◌||◌, ◌&&◌, ◌≡◌, ◌⊎◌, nat_le, nat_lt, Bool, if◌then◌else◌, List, length, decimal, Option, Some, None, Result, Ok, Err}
use Rattle.std.specs.List.{list_all}
use Rattle.std.specs.Char.{is_ascii_digit}
use Rattle.std.specs.Str.Parse.{digits_value}
use Rattle.std.specs.Result.{result_ok}
use Rattle.std.specs.Option.{ok_or}
use Rattle.hex.specs.Hex.{decode_of, decode_sized, encode_lower, IsBytes}
use Rattle.lan_base.specs.declared.suite.Suite.{Suite}
use Rattle.lan_base.specs.Name.{is_name, IsName}
use Rattle.lan_base.specs.Ranges.{least_user_octets, most_ckn_octets, most_frames, most_ticks, most_user_octets}
use Rattle.lan_base.specs.Suites.{key_bits, suite_of}
use Rattle.trace_text.specs.declared.fault.TextFault.{TextFault}
use Rattle.trace_text.specs.declared.fault.TextFault.TheVariants.{Hex, Range}
use Rattle.trace_text.specs.Limits.{least_rekey, most_burst_frames, most_digits, most_injected, most_lag, most_priority, most_workers}

-- a station's name; a decimal number within bounds; a cipher suite, by the bits of its keys; so
-- many octets in hexadecimal; octets whose count is within bounds; a key of 16 or 32 octets
pub data Kind : Type 0 where
  name : Kind
  number : ℕ → ℕ → Kind
  suite : Kind
  exactly : ℕ → Kind
  octets : ℕ → ℕ → Kind
  secret : Kind

-- what a word of a kind says: a name's octets, a number, a suite, or octets
abbrev pub Said : Kind → Type 0
Said name = List ℕ
Said (number low high) = ℕ
Said suite = Suite
Said (exactly count) = List ℕ
Said (octets low high) = List ℕ
Said secret = List ℕ

-- 1 to 10 decimal digits
abbrev pub is_number : List ℕ → Bool
is_number word = nat_lt 0 (length word) && nat_le (length word) most_digits && list_all is_ascii_digit word

-- the number that a word spells, if it is allowed
abbrev pub number_of : (ℕ → Bool) → List ℕ → Result ℕ TextFault
number_of allowed word =
    if is_number word && allowed (digits_value 10 word) then Ok (digits_value 10 word)
    else Err Range

-- the suite that a word spells by the bits of its keys
abbrev pub suite_in : List ℕ → Result Suite TextFault
suite_in word =
    if is_number word then ok_or (suite_of (digits_value 10 word)) Range else Err Range

-- whether a number lies within bounds
abbrev pub is_within : ℕ → ℕ → ℕ → Bool
is_within low high n = nat_le low n && nat_le n high

-- whether a number is one of two
abbrev pub is_either : ℕ → ℕ → ℕ → Bool
is_either this that n = n == this || n == that

-- the octets that were spelled, if their count is allowed
abbrev pub if_allowed : (ℕ → Bool) → Option (List ℕ) → Result (List ℕ) TextFault
if_allowed allowed None = Err Hex
if_allowed allowed (Some spelled) = if allowed (length spelled) then Ok spelled else Err Hex

-- the octets that a word of digits of either case spells, if their count is allowed
abbrev pub octets_of : (ℕ → Bool) → List ℕ → Result (List ℕ) TextFault
octets_of allowed word = if_allowed allowed (result_ok (decode_of word))

-- so many octets, which a word of digits of either case spells
abbrev pub exactly_of : ℕ → List ℕ → Result (List ℕ) TextFault
exactly_of count word = ok_or (result_ok (decode_sized word count)) Hex

-- what a word says as a word of this kind, or why it says nothing
abbrev pub said : (k : Kind) → List ℕ → Result (Said k) TextFault
said name word = if is_name word then Ok word else Err Range
said (number low high) word = number_of (is_within low high) word
said suite word = suite_in word
said (exactly count) word = exactly_of count word
said (octets low high) word = octets_of (is_within low high) word
said secret word = octets_of (is_either 16 32) word

-- the word that says this: a number without leading zeros, octets in lower case
abbrev pub spelled : (k : Kind) → Said k → List ℕ
spelled name n = n
spelled (number low high) n = decimal n
spelled suite s = decimal (key_bits s)
spelled (exactly count) xs = encode_lower xs
spelled (octets low high) xs = encode_lower xs
spelled secret xs = encode_lower xs

-- this can be said by a word of this kind
abbrev pub IsFit : (k : Kind) → Said k → Type 0
IsFit name n = IsName n
IsFit (number low high) n = (low ≤ n) × (n ≤ high)
IsFit suite s = Unit {0}
IsFit (exactly count) xs = (length xs ≡ count) × IsBytes xs
IsFit (octets low high) xs = (low ≤ length xs) × (length xs ≤ high) × IsBytes xs
IsFit secret xs = ((length xs ≡ 16) ⊎ (length xs ≡ 32)) × IsBytes xs

-- the kinds that this profile's forms have
abbrev pub bit : Kind
bit = number 0 1

abbrev pub window : Kind
window = number 0 (2 ^ 32 - 1)

abbrev pub rekey : Kind
rekey = number least_rekey (2 ^ 32 - 1)

abbrev pub lag : Kind
lag = number 0 most_lag

abbrev pub key_name : Kind
key_name = octets 1 most_ckn_octets

abbrev pub priority : Kind
priority = number 0 most_priority

abbrev pub ticks : Kind
ticks = number 1 most_ticks

abbrev pub frame : Kind
frame = number 1 most_frames

-- a frame that is not below another
abbrev pub frame_from : ℕ → Kind
frame_from first = number first most_frames

abbrev pub workers : Kind
workers = number 1 most_workers

abbrev pub burst : Kind
burst = number 1 most_burst_frames

abbrev pub address : Kind
address = exactly 6

abbrev pub body : Kind
body = octets least_user_octets most_user_octets

abbrev pub injected : Kind
injected = octets 1 most_injected
