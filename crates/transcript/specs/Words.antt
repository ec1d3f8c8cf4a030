-- The words of a fact's line, which are this profile's own form, and how each is spelled.
use Rattle.std.specs.Prelude.{ℕ, ◌<◌, ◌^◌, ◌≡◌, List, [], ◌∷◌, length, get_or, codes, decimal, Option, Some, None, Bool, true, false, IsTrue}
use Rattle.std.specs.List.{list_all}
use Rattle.std.specs.Char.{is_ascii_lowercase}
use Rattle.hex.specs.Hex.{encode_lower, IsBytes}
use Rattle.aes_block.specs.declared.secret.Secret.{Secret}
use Rattle.aes_block.specs.declared.secret.Secret.TheVariants.{S128, S256}
use Rattle.lan_base.specs.declared.address.Mi.{Mi}
use Rattle.lan_base.specs.declared.association_number.AssociationNumber.{AssociationNumber}
use Rattle.lan_base.specs.declared.key_id.KeyId.{KeyId}
use Rattle.lan_base.specs.AssociationNumbers.{number_of}
use Rattle.mkpdu_codec.specs.declared.refusal.Refusal.TheVariants.{NotMka, Short, Shape, Repeated, Agility}
use Rattle.peer_lists.specs.declared.heard.PeerRefusal.TheVariants.{Echo, OldNumber, PeersFull}
use Rattle.sak_exchange.specs.declared.change.Cause.{Cause}
use Rattle.sak_exchange.specs.declared.change.Cause.TheVariants.{All, Timeout, Flag}
use Rattle.sak_exchange.specs.declared.change.Why.{Why}
use Rattle.sak_exchange.specs.declared.change.Why.TheVariants.{NotListed, NotServer, Seen, Retiring, Suite, Offset, Wrap}
use Rattle.gcm_frames.specs.Tags.{tag_text}
use Rattle.mka_station.specs.declared.verdict.Verdict.{Verdict}
use Rattle.mka_station.specs.declared.verdict.Verdict.TheVariants as verdicts
use Rattle.mka_station.specs.declared.verdict.DropReason.{DropReason}
use Rattle.mka_station.specs.declared.verdict.DropReason.TheVariants.{Unspelled, CkName, Check, Refused}
use Rattle.rx_slots.specs.declared.arrival.Arrival.{Arrival}
use Rattle.rx_slots.specs.declared.arrival.Arrival.TheVariants.{Accepted, Malformed, Own, Missed, BadCheck, Late}
use Rattle.lan_core.specs.declared.fact.Fact.{Fact}
use Rattle.lan_core.specs.declared.fact.Fact.TheVariants.{Life, Ticked, Server, Dropped, Retired, Began, Installed, Untaken, Framed, HeardMka, Claimed, Unclaimed, Arrived}
use Rattle.lan_core.specs.declared.fact.Lack.{Lack}
use Rattle.lan_core.specs.declared.fact.Lack.TheVariants.{NoKey, Exhausted}

-- these letters; the name of the station at a place; a number of so many bits, in decimal; so many
-- octets, or any count of them, in lower-case hexadecimal
pub data Word : Type 0 where
  text : List ℕ → Word
  station : ℕ → Word
  number : ℕ → ℕ → Word
  array : ℕ → List ℕ → Word
  octets : List ℕ → Word

-- how a word is spelled, under the names of the stations: a number without leading zeros
abbrev pub spelled : List (List ℕ) → Word → List ℕ
spelled names (text letters) = letters
spelled names (station place) = get_or names place []
spelled names (number bits n) = decimal n
spelled names (array count xs) = encode_lower xs
spelled names (octets xs) = encode_lower xs

-- what a word says is there, or is inside its type; letters are small ones
abbrev pub Fits : List (List ℕ) → Word → Type 0
Fits names (text letters) = IsTrue (list_all is_ascii_lowercase letters)
Fits names (station place) = (place < length names) × (place < 256)
Fits names (number bits n) = n < 2 ^ bits
Fits names (array count xs) = (length xs ≡ count) × IsBytes xs
Fits names (octets xs) = IsBytes xs

-- a row of a table of words: a value that a word tells, or one for each number that stands behind
-- a word
pub data Row (A : Type 0) : Type 0 where
  one : A → Row A
  each : (ℕ → A) → Row A

-- an association number, in two bits
abbrev pub an_word : AssociationNumber → Word
an_word an = number 2 (number_of an)

-- an association number and an epoch, each behind its label
abbrev pub an_words : AssociationNumber → List Word → List Word
an_words an others = text (codes "an") ∷ an_word an ∷ others

abbrev pub epoch_words : ℕ → List Word → List Word
epoch_words epoch others = text (codes "epoch") ∷ number 32 epoch ∷ others

-- a key's identifier: its server, and its number
abbrev pub key_words : KeyId → List Word → List Word
key_words id others = array 12 id.server.0 ∷ number 32 id.number ∷ others

-- a key of a station: the station, the key's identifier, and its association number
abbrev pub held_words : ℕ → KeyId → AssociationNumber → List Word → List Word
held_words s id an others = station s ∷ key_words id (an_words an others)

-- an elected server
abbrev pub server_word : Option Mi → Word
server_word None = text (codes "none")
server_word (Some mi) = array 12 mi.0

-- why a key begins
abbrev pub cause_text : Cause → List ℕ
cause_text All = codes "all"
cause_text Timeout = codes "timeout"
cause_text Flag = codes "flag"

abbrev pub causes : List Cause
causes = All ∷ Timeout ∷ Flag ∷ []

-- a key, of 128 or 256 bits
abbrev pub secret_word : Secret → Word
secret_word (S128 xs) = array 16 xs
secret_word (S256 xs) = array 32 xs

-- why a key is not taken
abbrev pub why_words : Why → List Word
why_words NotListed = text (codes "notlisted") ∷ []
why_words NotServer = text (codes "notserver") ∷ []
why_words (Seen kept) = text (codes "seen") ∷ number 32 kept ∷ []
why_words Retiring = text (codes "retiring") ∷ []
why_words Suite = text (codes "suite") ∷ []
why_words Offset = text (codes "offset") ∷ []
why_words Wrap = text (codes "wrap") ∷ []

abbrev pub whys : List (Row Why)
whys =
    one NotListed ∷ one NotServer ∷ each Seen ∷ one Retiring ∷ one Suite ∷ one Offset ∷ one Wrap
    ∷ []

-- whether a frame is a protected one
abbrev pub frame_text : Bool → List ℕ
frame_text true = codes "sec"
frame_text false = codes "mka"

abbrev pub secs : List Bool
secs = true ∷ false ∷ []

-- why a frame is dropped
abbrev pub reason_words : DropReason → List Word
reason_words (Unspelled NotMka) = text (codes "notmka") ∷ []
reason_words (Unspelled Short) = text (codes "short") ∷ []
reason_words (Unspelled (Shape at)) = text (codes "shape") ∷ number 64 at ∷ []
reason_words (Unspelled (Repeated kind)) = text (codes "repeated") ∷ number 8 kind ∷ []
reason_words (Unspelled Agility) = text (codes "agility") ∷ []
reason_words CkName = text (codes "ckname") ∷ []
reason_words Check = text (codes "check") ∷ []
reason_words (Refused Echo) = text (codes "echo") ∷ []
reason_words (Refused (OldNumber kept)) = text (codes "oldnumber") ∷ number 32 kept ∷ []
reason_words (Refused PeersFull) = text (codes "peersfull") ∷ []

abbrev pub reasons : List (Row DropReason)
reasons =
    one (Unspelled NotMka) ∷ one (Unspelled Short) ∷ each (λ at. Unspelled (Shape at))
    ∷ each (λ kind. Unspelled (Repeated kind)) ∷ one (Unspelled Agility) ∷ one CkName ∷ one Check
    ∷ one (Refused Echo) ∷ each (λ kept. Refused (OldNumber kept)) ∷ one (Refused PeersFull) ∷ []

-- what hearing a frame comes to
abbrev pub verdict_words : Verdict → List Word
verdict_words verdicts.Vouched = text (codes "vouched") ∷ []
verdict_words verdicts.Unvouched = text (codes "unvouched") ∷ []
verdict_words (verdicts.Dropped reason) = text (codes "drop") ∷ reason_words reason

-- those of an accepted frame
abbrev pub vouches : List (Row Verdict)
vouches = one verdicts.Vouched ∷ one verdicts.Unvouched ∷ []

-- why a station got no packet number
abbrev pub lack_words : Lack → List Word
lack_words NoKey = text (codes "nokey") ∷ []
lack_words (Exhausted epoch) = text (codes "exhausted") ∷ number 32 epoch ∷ []

abbrev pub lacks : List (Row Lack)
lacks = one NoKey ∷ each Exhausted ∷ []

-- the answer to a protected frame
abbrev pub arrival_words : Arrival → List Word
arrival_words (Accepted pn body) = text (codes "accepted") ∷ number 32 pn ∷ octets body ∷ []
arrival_words (Malformed refusal) = text (codes "malformed") ∷ text (tag_text refusal) ∷ []
arrival_words Own = text (codes "own") ∷ []
arrival_words (Missed an) = text (codes "missed") ∷ an_word an ∷ []
arrival_words BadCheck = text (codes "badcheck") ∷ []
arrival_words (Late next) = text (codes "late") ∷ number 64 next ∷ []

-- the words of a fact's line
abbrev pub words : Fact → List Word
words (Life s mi) = text (codes "life") ∷ station s ∷ array 12 mi.0 ∷ []
words (Ticked s at next) =
    text (codes "tick") ∷ station s ∷ number 32 at ∷ text (codes "next") ∷ number 64 next ∷ []
words (Server s mi) = text (codes "server") ∷ station s ∷ server_word mi ∷ []
words (Dropped s id an) = text (codes "drop") ∷ held_words s id an []
words (Retired s id an) = text (codes "retire") ∷ held_words s id an []
words (Began s id an epoch cause) =
    text (codes "begin") ∷ held_words s id an (epoch_words epoch (text (cause_text cause) ∷ []))
words (Installed s id an epoch sak) =
    text (codes "install")
    ∷ held_words s id an (epoch_words epoch (text (codes "sak") ∷ secret_word sak ∷ []))
words (Untaken s id why) = text (codes "untaken") ∷ station s ∷ key_words id (why_words why)
words (Framed k s sec xs) =
    text (codes "frame") ∷ number 32 k ∷ station s ∷ text (frame_text sec) ∷ octets xs ∷ []
words (HeardMka k s verdict) =
    text (codes "heard") ∷ number 32 k ∷ station s ∷ verdict_words verdict
words (Claimed s an epoch pn) =
    text (codes "claim") ∷ station s
    ∷ an_words an (epoch_words epoch (text (codes "pn") ∷ number 32 pn ∷ []))
words (Unclaimed s why) = text (codes "noclaim") ∷ station s ∷ lack_words why
words (Arrived k s arrival) =
    text (codes "data") ∷ number 32 k ∷ station s ∷ arrival_words arrival
