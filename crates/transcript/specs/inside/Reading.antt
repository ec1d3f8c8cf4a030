-- The fact that words say: each word decides how those behind it are read.
use Rattle.std.specs.Prelude.{ℕ, ◌^◌, ◌%◌, ◌==◌, ◌&&◌, ◌||◌, nat_lt, nat_le, not, Bool, true, false, if◌then◌else◌, List, [], ◌∷◌, length, codes, decimal, Option, Some, None}
use Rattle.std.specs.List.{slice_split, list_all, position_or_len}
use Rattle.std.specs.Option.{option_map}
use Rattle.std.specs.Str.Parse.{digits_value}
use Rattle.std.specs.Result.{result_ok}
use Rattle.hex.specs.Hex.{decode_of}
use Rattle.aes_block.specs.declared.secret.Secret.{Secret}
use Rattle.aes_block.specs.declared.secret.Secret.TheVariants.{S128, S256}
use Rattle.lan_base.specs.declared.address.Mi.{Mi}
use Rattle.lan_base.specs.declared.association_number.AssociationNumber.{AssociationNumber}
use Rattle.lan_base.specs.declared.key_id.KeyId.{KeyId}
use Rattle.lan_base.specs.AssociationNumbers.{numbered}
use Rattle.sak_exchange.specs.declared.change.Cause.{Cause}
use Rattle.gcm_frames.specs.declared.tag.TagRefusal.{TagRefusal}
use Rattle.gcm_frames.specs.declared.tag.TagRefusal.TheVariants as Tag
use Rattle.mka_station.specs.declared.verdict.Verdict.{Verdict}
use Rattle.mka_station.specs.declared.verdict.Verdict.TheVariants as verdicts
use Rattle.rx_slots.specs.declared.arrival.Arrival.{Arrival}
use Rattle.rx_slots.specs.declared.arrival.Arrival.TheVariants.{Accepted, Malformed, Own, Missed, BadCheck, Late}
use Rattle.lan_core.specs.declared.fact.Fact.{Fact}
use Rattle.lan_core.specs.declared.fact.Fact.TheVariants.{Life, Ticked, Server, Dropped, Retired, Began, Installed, Untaken, Framed, HeardMka, Claimed, Unclaimed, Arrived}
use Rattle.trace_text.specs.Words.{is_word}
use Rattle.transcript.specs.declared.words.Held.{Held}
use Rattle.transcript.specs.Words.{Row, cause_text, causes, why_words, whys, frame_text, secs, reason_words, reasons, verdict_words, vouches, lack_words, lacks}
use Rattle.transcript.specs.Words as Words
use Rattle.transcript.specs.inside.Tables.{value_of, named}

-- a part of a line, which says one value: a word that names a station, that is a number of so many
-- bits, an association number, a member identifier, an elected server or a key, or that tells why a
-- key begins, whether a frame is a protected one, or why it is none; the two words of a key's
-- identifier; or the words of a key of a station
pub data Part : Type 0 where
  station : Part
  number : ℕ → Part
  an : Part
  member : Part
  server : Part
  secret : Part
  cause : Part
  sec : Part
  tag : Part
  key : Part
  held : Part

-- what a part says is one of these
abbrev pub ValueOf : Part → Type 0
ValueOf station = ℕ
ValueOf (number bits) = ℕ
ValueOf an = AssociationNumber
ValueOf member = Mi
ValueOf server = Option Mi
ValueOf secret = Secret
ValueOf cause = Cause
ValueOf sec = Bool
ValueOf tag = TagRefusal
ValueOf key = KeyId
ValueOf held = Held

-- what the words left may be: none, and the fact that was said; a word that is these letters, or
-- else something; a part, and what is left behind it; a part behind a word that is these letters;
-- words that say something by themselves; a last word of any count of octets; or nothing
pub data Tree : Type 0 where
  says : Fact → Tree
  text : List ℕ → Tree → Tree → Tree
  part : (p : Part) → (ValueOf p → Tree) → Tree
  labelled : List ℕ → (p : Part) → (ValueOf p → Tree) → Tree
  spoken : (List (List ℕ) → Option Fact) → Tree
  octets : (List ℕ → Fact) → Tree
  nothing : Tree

-- the value, if a test lets it through
abbrev pub kept_if : {A : Type 0} → Bool → A → Option A
kept_if true x = Some x
kept_if false x = None

-- what follows a value, if there is one
abbrev pub and_then : {A B : Type 0} → Option A → (A → Option B) → Option B
and_then None f = None
and_then (Some x) f = f x

-- the place of the first name that a word is, or the count of the names
abbrev pub place_of : List (List ℕ) → List ℕ → ℕ
place_of names word = position_or_len (λ name. is_word name word) names

abbrev pub position_of : List (List ℕ) → List ℕ → Option ℕ
position_of names word =
    kept_if (nat_lt (place_of names word) (length names)) (place_of names word)

-- the place of the station that a word names
abbrev pub station_of : List (List ℕ) → List ℕ → Option ℕ
station_of names word = and_then (position_of names word) (λ p. kept_if (nat_lt p 256) p)

-- the number below 2^64 that a word spells, without leading zeros
abbrev pub whole_of : List ℕ → Option ℕ
whole_of word =
    kept_if (is_word word (decimal (digits_value 10 word))
    && nat_lt (digits_value 10 word) (2 ^ 64))
    (digits_value 10 word)

-- the number of so many bits that a word spells
abbrev pub number_of : ℕ → List ℕ → Option ℕ
number_of bits word = and_then (whole_of word) (λ n. kept_if (nat_lt n (2 ^ bits)) n)

-- the association number that a word spells
abbrev pub an_of : List ℕ → Option AssociationNumber
an_of word = and_then (number_of 2 word) numbered

-- a hexadecimal digit, in lower case
abbrev pub is_small_digit : ℕ → Bool
is_small_digit octet = nat_le 48 octet && nat_le octet 57 || nat_le 97 octet && nat_le octet 102

-- pairs of such digits
abbrev pub is_pairs : List ℕ → Bool
is_pairs word = length word % 2 == 0 && list_all is_small_digit word

-- the octets that a word spells
abbrev pub octets_of : List ℕ → Option (List ℕ)
octets_of word = if is_pairs word then result_ok (decode_of word) else None

-- so many octets, which a word spells
abbrev pub array_of : ℕ → List ℕ → Option (List ℕ)
array_of count word = and_then (octets_of word) (λ xs. kept_if (length xs == count) xs)

-- the member identifier that a word spells
abbrev pub member_of : List ℕ → Option Mi
member_of word = option_map (λ xs. record { 0 = xs }) (array_of 12 word)

-- the elected server that a word tells
abbrev pub server_of : List ℕ → Option (Option Mi)
server_of word =
    if is_word word (codes "none") then Some None else option_map (λ mi. Some mi) (member_of word)

-- a key of 16 or else of 32 octets
abbrev pub secret_from : Option (List ℕ) → Option (List ℕ) → Option Secret
secret_from (Some xs) other = Some (S128 xs)
secret_from None other = option_map (λ xs. S256 xs) other

-- the key that a word spells
abbrev pub secret_of : List ℕ → Option Secret
secret_of word = secret_from (array_of 16 word) (array_of 32 word)

-- what a table says of a word
abbrev pub said_by : {A : Type 0} → List (List ℕ × A) → List ℕ → Option A
said_by [] word = None
said_by (row ∷ rows) word = if is_word word row.0 then Some row.1 else said_by rows word

-- why a frame is no protected frame
abbrev pub tags : List (List ℕ × TagRefusal)
tags =
    (codes "notsec", Tag.NotSec) ∷ (codes "version", Tag.Version) ∷ (codes "mode", Tag.Mode)
    ∷ (codes "short", Tag.Short) ∷ (codes "slwrong", Tag.SlWrong) ∷ []

-- the first of these words, and the others
abbrev pub parted : List (List ℕ) → Option (List ℕ × List (List ℕ))
parted [] = None
parted (word ∷ words) = Some (word, words)

-- what the first of these words says, and the words behind it
abbrev pub taken : {A : Type 0}
    → (List ℕ → Option A) → List (List ℕ) → Option (A × List (List ℕ))
taken read words = and_then (parted words) (λ x. and_then (read x.0) (λ y. Some (y, x.1)))

-- the words behind the first, if that is these letters
abbrev pub after : List ℕ → List (List ℕ) → Option (List (List ℕ))
after letters words = and_then (parted words) (λ x. kept_if (is_word x.0 letters) x.1)

-- a key's identifier, and the words behind it
abbrev pub key_of : List (List ℕ) → Option (KeyId × List (List ℕ))
key_of words =
    and_then (taken member_of words) (λ x. and_then (taken (number_of 32) x.1)
    (λ y. Some (record { server = x.0; number = y.0 }, y.1)))

-- what the word behind these letters says
abbrev pub taken_after : {A : Type 0}
    → List ℕ → (List ℕ → Option A) → List (List ℕ) → Option (A × List (List ℕ))
taken_after letters read words = and_then (after letters words) (λ others. taken read others)

-- a key of a station, and the words behind it
abbrev pub held_of : List (List ℕ) → List (List ℕ) → Option (Held × List (List ℕ))
held_of names words =
    and_then (taken (station_of names) words) (λ x. and_then (key_of x.1)
    (λ y. and_then (taken_after (codes "an") an_of y.1)
    (λ z. Some (record { station = x.0; id = y.0; an = z.0 }, z.1))))

-- the value, if no words are left
abbrev pub unless : {A B : Type 0} → Option A → B → Option B
unless None x = Some x
unless (Some y) x = None

abbrev pub ended : {A : Type 0} → A → List (List ℕ) → Option A
ended x words = unless (parted words) x

-- the one word that is left
abbrev pub last_of : List (List ℕ) → Option (List ℕ)
last_of words = and_then (parted words) (λ x. ended x.0 x.1)

-- the octets that the one word left spells
abbrev pub last_octets : List (List ℕ) → Option (List ℕ)
last_octets words = and_then (last_of words) octets_of

-- the number that words are, if there are any
abbrev pub last_number : List (List ℕ) → Option (Option ℕ)
last_number [] = Some None
last_number (word ∷ words) =
    and_then (whole_of word) (λ n. and_then (ended (tt {0}) words) (λ end. Some (Some n)))

-- a word, and the number that the words behind it are, if there are any
abbrev pub told_by : List ℕ → List (List ℕ) → Option (List ℕ × Option ℕ)
told_by word others = and_then (last_number others) (λ n. Some (word, n))

abbrev pub last_told : List (List ℕ) → Option (List ℕ × Option ℕ)
last_told words = and_then (parted words) (λ x. told_by x.0 x.1)

-- what words tell by a table
abbrev pub told_in : {A : Type 0}
    → (A → List Words.Word) → List (Row A) → List (List ℕ) → Option A
told_in listed rows words = and_then (last_told words) (λ t. value_of listed rows t.0 t.1)

-- what hearing a frame comes to
abbrev pub verdict_of : List (List ℕ) → Option Verdict
verdict_of words =
    and_then (parted words) (λ x. if is_word x.0 (codes "drop")
    then option_map (λ reason. verdicts.Dropped reason) (told_in reason_words reasons x.1)
    else told_in verdict_words vouches words)

-- what the first words say that are a part, and the words behind it
abbrev pub said_first : List (List ℕ) → (p : Part) → List (List ℕ)
    → Option (ValueOf p × List (List ℕ))
said_first names station words = taken (station_of names) words
said_first names (number bits) words = taken (number_of bits) words
said_first names an words = taken an_of words
said_first names member words = taken member_of words
said_first names server words = taken server_of words
said_first names secret words = taken secret_of words
said_first names cause words = taken (named cause_text causes) words
said_first names sec words = taken (named frame_text secs) words
said_first names tag words = taken (said_by tags) words
said_first names key words = key_of words
said_first names held words = held_of names words

-- what words say along a tree
abbrev pub along : List (List ℕ) → Tree → List (List ℕ) → Option Fact
along names (says fact) words = ended fact words
along names (text letters next other) words =
    and_then (parted words)
    (λ x. if is_word x.0 letters then along names next x.1 else along names other words)
along names (part p next) words =
    and_then (said_first names p words) (λ x. along names (next x.0) x.1)
along names (labelled letters p next) words =
    and_then (and_then (after letters words) (λ others. said_first names p others))
    (λ x. along names (next x.0) x.1)
along names (spoken f) words = f words
along names (octets f) words = option_map f (last_octets words)
along names nothing words = None

abbrev pub epoch_tree : (ℕ → Tree) → Tree
epoch_tree next = labelled (codes "epoch") (number 32) next

abbrev pub accepted_tree : (Arrival → Fact) → Tree
accepted_tree f = part (number 32) (λ pn. octets (λ body. f (Accepted pn body)))

abbrev pub malformed_tree : (Arrival → Fact) → Tree
malformed_tree f = part tag (λ refusal. says (f (Malformed refusal)))

abbrev pub missed_tree : (Arrival → Fact) → Tree
missed_tree f = part an (λ a. says (f (Missed a)))

abbrev pub late_tree : (Arrival → Fact) → Tree
late_tree f = part (number 64) (λ next. says (f (Late next)))

-- the answers to a protected frame that hold no list of octets
abbrev pub refused_tree : (Arrival → Fact) → Tree
refused_tree f =
    text (codes "malformed") (malformed_tree f)
    (text (codes "own") (says (f Own))
    (text (codes "missed") (missed_tree f)
    (text (codes "badcheck") (says (f BadCheck))
    (text (codes "late") (late_tree f) nothing))))

abbrev pub arrival_tree : (Arrival → Fact) → Tree
arrival_tree f = text (codes "accepted") (accepted_tree f) (refused_tree f)

-- the words of each kind of fact behind the first
abbrev pub life_tree : Tree
life_tree = part station (λ s. part member (λ mi. says (Life s mi)))

abbrev pub tick_tree : Tree
tick_tree =
    part station (λ s. part (number 32) (λ at.
    labelled (codes "next") (number 64) (λ next. says (Ticked s at next))))

abbrev pub server_tree : Tree
server_tree = part station (λ s. part server (λ mi. says (Server s mi)))

abbrev pub drop_key_tree : Tree
drop_key_tree = part held (λ k. says (Dropped k.station k.id k.an))

abbrev pub retire_tree : Tree
retire_tree = part held (λ k. says (Retired k.station k.id k.an))

abbrev pub begin_tree : Tree
begin_tree =
    part held (λ k. epoch_tree (λ epoch.
    part cause (λ c. says (Began k.station k.id k.an epoch c))))

abbrev pub install_tree : Tree
install_tree =
    part held (λ k. epoch_tree (λ epoch.
    labelled (codes "sak") secret (λ sak. says (Installed k.station k.id k.an epoch sak))))

abbrev pub untaken_tree : Tree
untaken_tree =
    part station (λ s. part key (λ id. spoken (λ words.
    option_map (λ why. Untaken s id why) (told_in why_words whys words))))

abbrev pub frame_tree : Tree
frame_tree =
    part (number 32) (λ k. part station (λ s. part sec (λ protected.
    octets (λ xs. Framed k s protected xs))))

abbrev pub heard_tree : Tree
heard_tree =
    part (number 32) (λ k. part station (λ s. spoken (λ words.
    option_map (λ verdict. HeardMka k s verdict) (verdict_of words))))

abbrev pub claim_tree : Tree
claim_tree =
    part station (λ s. labelled (codes "an") an (λ a. epoch_tree (λ epoch.
    labelled (codes "pn") (number 32) (λ pn. says (Claimed s a epoch pn)))))

abbrev pub noclaim_tree : Tree
noclaim_tree =
    part station (λ s. spoken (λ words.
    option_map (λ why. Unclaimed s why) (told_in lack_words lacks words)))

abbrev pub data_tree : Tree
data_tree =
    part (number 32) (λ k. part station (λ s. arrival_tree (λ arrival. Arrived k s arrival)))

-- the words of the facts that hold no list of octets
abbrev pub plain_tree : Tree
plain_tree =
    text (codes "life") life_tree (text (codes "tick") tick_tree
    (text (codes "server") server_tree (text (codes "drop") drop_key_tree
    (text (codes "retire") retire_tree (text (codes "begin") begin_tree
    (text (codes "install") install_tree (text (codes "untaken") untaken_tree
    (text (codes "heard") heard_tree (text (codes "claim") claim_tree
    (text (codes "noclaim") noclaim_tree nothing))))))))))

-- the words of every fact
abbrev pub fact_tree : Tree
fact_tree = text (codes "frame") frame_tree (text (codes "data") data_tree plain_tree)

abbrev pub is_space : ℕ → Bool
is_space octet = octet == 32

abbrev pub is_letter : ℕ → Bool
is_letter octet = not (is_space octet)

-- a word ends before these octets
abbrev pub ends_word : List ℕ → Bool
ends_word [] = true
ends_word (first ∷ rest) = is_space first

-- the fact that a line says, if it says one: words stand between single spaces
abbrev pub fact_in : List (List ℕ) → List ℕ → Option Fact
fact_in names line = along names fact_tree (slice_split is_space line)
