-- The text of live lines.
use Rattle.std.specs.Prelude.{ℕ, if◌then◌else◌, List, [], ◌∷◌, ◌++◌, codes, decimal}
use Rattle.hex.specs.Hex.{encode_lower}
use Rattle.lan_base.specs.AssociationNumbers.{number_of}
use Rattle.trace_text.specs.Words.{spaced}
use Rattle.member_text.specs.declared.live.Live.{Live}
use Rattle.member_text.specs.declared.live.Live.TheVariants.{Peer, Channel, Key, Withheld, Receive, Done}
use Rattle.member_text.specs.declared.live.PeerState.{PeerState}
use Rattle.member_text.specs.declared.live.PeerState.TheVariants as states
use Rattle.member_text.specs.declared.live.ChannelState.{ChannelState}
use Rattle.member_text.specs.declared.live.ChannelState.TheVariants.{Add, Full, Remove}
use Rattle.member_text.specs.declared.live.Withholding.{Withholding}
use Rattle.member_text.specs.declared.live.Withholding.TheVariants.{Used, Suite}

-- what the peer lists say of a member
abbrev pub state_text : PeerState → List ℕ
state_text states.Live = codes "live"
state_text states.Potential = codes "potential"
state_text states.Gone = codes "gone"

-- what becomes of a channel
abbrev pub channel_text : ChannelState → List ℕ
channel_text Add = codes "add"
channel_text Full = codes "full"
channel_text Remove = codes "remove"

-- why a key is withheld
abbrev pub why_text : Withholding → List ℕ
why_text Used = codes "used"
why_text Suite = codes "suite"

-- the words behind a station's name
abbrev pub live_words : Live → List (List ℕ)
live_words (Peer mi sci state) =
    codes "peer" ∷ encode_lower mi.0 ∷ encode_lower sci.0 ∷ state_text state ∷ []
live_words (Channel sci state) = codes "channel" ∷ encode_lower sci.0 ∷ channel_text state ∷ []
live_words (Key an epoch confidential) =
    codes "key an" ∷ decimal (number_of an) ∷ codes "epoch" ∷ decimal epoch ∷ codes "conf"
    ∷ decimal (if confidential then 1 else 0) ∷ []
live_words (Withheld an epoch why) =
    codes "withheld an" ∷ decimal (number_of an) ∷ codes "epoch" ∷ decimal epoch ∷ why_text why ∷ []
live_words (Receive sci an) =
    codes "receive" ∷ encode_lower sci.0 ∷ codes "an" ∷ decimal (number_of an) ∷ []
live_words Done = codes "done" ∷ []

abbrev pub further : Live → List ℕ
further live = spaced (live_words live)

-- a live line of the station with this name, without a line ending
unfoldable pub live_text : List ℕ → Live → List ℕ
live_text name live = codes "live" ++ spaced (name ∷ live_words live)

-- with its line feed
abbrev pub live_line : List ℕ → Live → List ℕ
live_line name live = live_text name live ++ 10 ∷ []
