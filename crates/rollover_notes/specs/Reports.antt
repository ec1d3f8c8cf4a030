-- Which keys members reported and began.
use Rattle.std.specs.Prelude.{ℕ, ◌==◌, ◌&&◌, Bool, false, if◌then◌else◌, List, [], ◌∷◌, Option, Some, None}
use Rattle.std.specs.List.{list_any}
use Rattle.std.specs.Option.{option_or}
use Rattle.mkpdu_codec.specs.declared.key_use.KeyUse.{KeyUse}
use Rattle.mkpdu_codec.specs.declared.key_use.Uses.{Uses}
use Rattle.member_notes.specs.Mkpdus.{is_of}
use Rattle.member_notes.specs.Spoken.{Spoken}
use Rattle.rollover_notes.specs.Events.{Event, Gave, Spoke, Used}
use Rattle.rollover_notes.specs.Givings.{GroupId, key_of}
use Rattle.rollover_notes.specs.Speaking.{Member}

-- the latest key and the old one of a SAK Use (IEEE Std 802.1X, clause 11)
abbrev pub uses_of : Option Uses → List KeyUse
uses_of None = []
uses_of (Some u) = u.latest ∷ u.old ∷ []

abbrev pub id_in : ℕ → KeyUse → GroupId
id_in group u = (group, (u.server, u.number))

abbrev pub is_key : ℕ → Option ℕ → Bool
is_key key None = false
is_key key (Some k) = k == key

-- a key is shown with rx
abbrev pub shows : List Event → ℕ → ℕ → KeyUse → Bool
shows h group key u = u.rx && is_key key (key_of h (id_in group u))

-- and with tx too
abbrev pub transmits : List Event → ℕ → ℕ → KeyUse → Bool
transmits h group key u = u.tx && shows h group key u

-- a member speaks, and shows a key by what was given before
abbrev pub reports : List Event → Member → ℕ → Spoken → Bool
reports h m key s = is_of m.0 m.1 s.mkpdu && list_any (shows h s.mkpdu.group key) (uses_of s.said.uses)

abbrev pub begins : List Event → Member → ℕ → Spoken → Bool
begins h m key s = is_of m.0 m.1 s.mkpdu && list_any (transmits h s.mkpdu.group key) (uses_of s.said.uses)

-- the first packet in which a member reported a key
abbrev pub reported : List Event → Member → ℕ → Option ℕ
reported [] m key = None
reported (Gave group id k ∷ h) m key = reported h m key
reported (Spoke s ∷ h) m key =
    option_or (reported h m key) (if reports h m key s then Some s.mkpdu.packet else None)
reported (Used frame ∷ h) m key = reported h m key

-- the time by which it had begun a key: that of the first MKPDU that shows it with rx and tx
abbrev pub began : List Event → Member → ℕ → Option ℕ
began [] m key = None
began (Gave group id k ∷ h) m key = began h m key
began (Spoke s ∷ h) m key =
    option_or (began h m key) (if begins h m key s then Some s.nanos else None)
began (Used frame ∷ h) m key = began h m key
