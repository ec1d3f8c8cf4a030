-- What members said last, and which are beside a frame.
use Rattle.std.specs.Prelude.{ℕ, ◌==◌, ◌&&◌, not, Bool, false, if◌then◌else◌, List, [], ◌∷◌, ◌++◌, Option, Some, None}
use Rattle.std.specs.List.{list_any}
use Rattle.lan_base.specs.declared.address.Mi.{Mi}
use Rattle.lan_base.specs.declared.address.Sci.{Sci}
use Rattle.lan_base.specs.Identifiers.{same_mi, same_sci}
use Rattle.lan_base.specs.Instants.{is_recent}
use Rattle.mkpdu_codec.specs.declared.announcement.Announcement.{Announcement}
use Rattle.mkpdu_codec.specs.declared.peer.Peer.{Peer}
use Rattle.member_notes.specs.Mkpdus.{is_of}
use Rattle.use_notes.specs.declared.frame.RightFrame.{RightFrame}
use Rattle.rollover_notes.specs.Events.{Event, Gave, Spoke, Used}

-- a group and an MI
abbrev pub Member : Type 0
Member = ℕ × Mi

-- what counts of an MKPDU: under which SCI, when, and which peers it lists, live or potential
pub record Said : Type 0 where
  pub sci : Sci
  pub nanos : ℕ
  pub listed : List Peer

abbrev pub said_of : ℕ → Announcement → Said
said_of nanos a = record { sci = a.sci; nanos = nanos; listed = a.live ++ a.potential }

-- what a member said last
abbrev pub said : List Event → Member → Option Said
said [] m = None
said (Gave group id key ∷ h) m = said h m
said (Spoke s ∷ h) m = if is_of m.0 m.1 s.mkpdu then Some (said_of s.nanos s.said) else said h m
said (Used frame ∷ h) m = said h m

-- the speaker of an SCI in a group: the MI that spoke last under it
abbrev pub speaker : List Event → ℕ × Sci → Option Mi
speaker [] at = None
speaker (Gave group id key ∷ h) at = speaker h at
speaker (Spoke s ∷ h) at =
    if (s.mkpdu.group == at.0) && same_sci s.said.sci at.1 then Some s.mkpdu.mi else speaker h at
speaker (Used frame ∷ h) at = speaker h at

-- all that spoke
abbrev pub members : List Event → List Member
members [] = []
members (Gave group id key ∷ h) = members h
members (Spoke s ∷ h) = (s.mkpdu.group, s.mkpdu.mi) ∷ members h
members (Used frame ∷ h) = members h

abbrev pub is_under : Sci → Option Said → Bool
is_under sci None = false
is_under sci (Some s) = same_sci s.sci sci

-- it was said less than MKA Life Time before a frame, under another SCI, and lists a peer that said its
-- last under the frame's SCI
abbrev pub is_near : (Mi → Option Said) → RightFrame → Said → Bool
is_near others frame s =
    is_recent s.nanos frame.time
    && (not (same_sci s.sci frame.sci) && list_any (λ p. is_under frame.sci (others p.mi)) s.listed)

abbrev pub is_mi : Mi → Option Mi → Bool
is_mi mi None = false
is_mi mi (Some speaker) = same_mi speaker mi

-- what a member said last is near, and it is the speaker of its SCI
abbrev pub is_beside_by : List Event → RightFrame → Member → Option Said → Bool
is_beside_by h frame m None = false
is_beside_by h frame m (Some s) =
    is_mi m.1 (speaker h (m.0, s.sci)) && is_near (λ mi. said h (m.0, mi)) frame s

-- a member is beside a frame
abbrev pub is_beside : List Event → RightFrame → Member → Bool
is_beside h frame m = is_beside_by h frame m (said h m)
