-- What is known before a packet: what made keys known, the right frames, and the right MKPDUs, each
-- list the newest first.
use Rattle.std.specs.Prelude.{◌≡◌, ℕ, ◌+◌, ◌-◌, List, [], ◌∷◌, ◌++◌, length, map, Option, Some, None, option_map, slice_get, Result, Ok, Err}
use Rattle.aes_block.specs.Secrets.{secret_octets}
use Rattle.aes_block.specs.declared.secret.Secret.{Secret}
use Rattle.capture_packets.specs.Packets.{Seen}
use Rattle.gcm_frames.specs.declared.tag.Tag.{Tag}
use Rattle.known_keys.specs.History.{Entry, Set, Gave, Showed, Strange, keys}
use Rattle.known_keys.specs.Known.{known}
use Rattle.known_keys.specs.declared.giving.Giving.{Giving}
use Rattle.known_keys.specs.declared.giving.Giving.TheVariants as givings
use Rattle.known_keys.specs.declared.giving.NoSak.{NoSak as Why}
use Rattle.known_keys.specs.declared.giving.NoSak.TheVariants as whys
use Rattle.member_notes.specs.declared.mkpdu.RightMkpdu.{RightMkpdu}
use Rattle.mkpdu_codec.specs.declared.offset.ConfidentialityOffset.{ConfidentialityOffset}
use Rattle.mkpdu_codec.specs.declared.spelled.Spelled.{Spelled}
use Rattle.packet_verdicts.specs.declared.given.Gift.{Gift}
use Rattle.packet_verdicts.specs.declared.given.NoSak.{NoSak}
use Rattle.packet_verdicts.specs.declared.given.NoSak.TheVariants as no_saks
use Rattle.packet_verdicts.specs.declared.given.Shown.{Shown}
use Rattle.packet_verdicts.specs.declared.given.ShownKeys.{ShownKeys}
use Rattle.packet_verdicts.specs.declared.kind.Kind.{Kind}
use Rattle.packet_verdicts.specs.declared.kind.Kind.TheVariants as kinds
use Rattle.packet_verdicts.specs.declared.kind.Mka.TheVariants as mkas
use Rattle.packet_verdicts.specs.declared.kind.Sec.TheVariants as secs
use Rattle.packet_verdicts.specs.Frames.{frame_of}
use Rattle.packet_verdicts.specs.Given.{Gives, shown_keys}
use Rattle.packet_verdicts.specs.Groups.{GroupKeys}
use Rattle.packet_verdicts.specs.Kinds.{packet_kind}
use Rattle.packet_verdicts.specs.Right.{newest_right}
use Rattle.use_notes.specs.declared.frame.RightFrame.{RightFrame}
use Rattle.key_ring.specs.declared.ring.HandKey.{HandKey}
use Rattle.key_ring.specs.Rings.{Ring}

-- a packet, and what was unwrapped of it, if it distributes a key
pub record Unwrapped : Type 0 where
  pub packet : Seen
  pub gift : Option Gift

abbrev pub kind_in : Ring → Unwrapped → Kind
kind_in ring u = packet_kind ring.groups u.packet

-- the number of the packet that comes behind others
abbrev pub number_behind : List Unwrapped → ℕ
number_behind before = length before + 1

-- ---- what makes keys known

abbrev pub why_of : NoSak → Why
why_of no_saks.OtherSuite = whys.OtherSuite
why_of no_saks.WrongWrap = whys.WrongWrap

abbrev pub giving_by : ConfidentialityOffset → Result Secret NoSak → Giving
giving_by offset (Ok sak) = givings.Key offset sak
giving_by offset (Err why) = givings.Without (why_of why)

-- a packet of this number and time gives a key in a group
abbrev pub gift_entries : ℕ → ℕ → ℕ → Option Gift → List Entry
gift_entries n nanos group None = []
gift_entries n nanos group (Some gift) =
    Gave n nanos group gift.id gift.an (giving_by gift.offset gift.sak) ∷ []

-- it shows one
abbrev pub shown_entries : ℕ → ℕ → ℕ → Option Shown → List Entry
shown_entries n nanos group None = []
shown_entries n nanos group (Some shown) = Showed n nanos group shown.id shown.an ∷ []

-- what a right MKPDU tells
abbrev pub mkpdu_entries : ℕ → ℕ → ℕ → ShownKeys → Option Gift → List Entry
mkpdu_entries n nanos group shown gift =
    shown_entries n nanos group shown.old
    ++ (shown_entries n nanos group shown.latest ++ gift_entries n nanos group gift)

-- what a packet of this kind tells
abbrev pub entries_by : ℕ → ℕ → Option Gift → Kind → List Entry
entries_by n nanos gift (kinds.Mka (mkas.Right group s)) =
    mkpdu_entries n nanos group (shown_keys s.announcement.uses) gift
entries_by n nanos gift (kinds.Mka (mkas.Unknown ckn sci gives)) = Strange sci ∷ []
entries_by n nanos gift _ = []

-- keys that are set by hand, behind what was told before
abbrev pub set_behind : List Entry → List HandKey → List Entry
set_behind before [] = before
set_behind before (key ∷ later) = set_behind (Set key.sender key.an key.sak ∷ before) later

-- what made keys known up to some packets
abbrev pub entries : Ring → List Unwrapped → List Entry
entries ring [] = set_behind [] ring.hand
entries ring (u ∷ before) =
    entries_by (number_behind before) u.packet.head.nanos u.gift (kind_in ring u) ++ entries ring before

-- ---- right frames

-- the newest of the keys known to a frame under which it is right
abbrev pub right_key : List Entry → Tag → List ℕ → Option ℕ
right_key told tag frame =
    newest_right (map secret_octets (keys told)) tag frame (known told tag.sci tag.an)

-- a frame that is right under a key
abbrev pub right_under : ℕ → ℕ → Tag → List ℕ → ℕ → RightFrame
right_under n nanos tag check key = record {
  packet = n;
  key = key;
  sci = tag.sci;
  pn = tag.pn;
  check = check;
  time = nanos;
  confidential = tag.conf;
}

abbrev pub frame_by : List Entry → ℕ → Seen → Kind → Option RightFrame
frame_by told n packet (kinds.Sec (secs.Protected tag check)) =
    option_map (right_under n packet.head.nanos tag check) (right_key told tag (frame_of packet.octets))
frame_by told n packet _ = None

-- a packet as a right frame, if it is one behind others
abbrev pub right_frame : Ring → List Unwrapped → Unwrapped → Option RightFrame
right_frame ring before u =
    frame_by (entries ring before) (number_behind before) u.packet (kind_in ring u)

abbrev pub with_some : {X : Type 0} → Option X → List X → List X
with_some None xs = xs
with_some (Some x) xs = x ∷ xs

abbrev pub frames : Ring → List Unwrapped → List RightFrame
frames ring [] = []
frames ring (u ∷ before) = with_some (right_frame ring before u) (frames ring before)

-- ---- right MKPDUs

abbrev pub mkpdu_of : ℕ → ℕ → Spelled → RightMkpdu
mkpdu_of n group s = record {
  packet = n;
  group = group;
  mi = s.announcement.mi;
  mn = s.announcement.mn;
  check = s.check;
}

abbrev pub mkpdu_by : ℕ → Kind → Option RightMkpdu
mkpdu_by n (kinds.Mka (mkas.Right group s)) = Some (mkpdu_of n group s)
mkpdu_by n _ = None

abbrev pub mkpdus : Ring → List Unwrapped → List RightMkpdu
mkpdus ring [] = []
mkpdus ring (u ∷ before) =
    with_some (mkpdu_by (number_behind before) (kind_in ring u)) (mkpdus ring before)

-- ---- what was unwrapped

-- The gift of a right MKPDU is what it gives under the key encrypting key of its group, and no other
-- packet has one.
abbrev pub UnwrapsBy : List GroupKeys → Option Gift → Kind → Type 0
UnwrapsBy groups gift (kinds.Mka (mkas.Right group s)) =
    (keys : GroupKeys) × (slice_get groups (group - 1) ≡ Some keys) × Gives keys.kek s.announcement gift
UnwrapsBy groups gift _ = gift ≡ None

abbrev pub IsUnwrapped : Ring → Unwrapped → Type 0
IsUnwrapped ring u = UnwrapsBy ring.groups u.gift (kind_in ring u)
