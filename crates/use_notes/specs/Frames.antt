-- Right frames of a capture, newest first: which are of one key and sender, and what a further one is
-- behind them.
use Rattle.std.specs.Prelude.{ℕ, ◌<◌, ◌==◌, ◌&&◌, Bool, true, false, if◌then◌else◌, nat_eq, List, [], ◌∷◌, filter, Option, Some, None}
use Rattle.std.specs.Option.{option_or}
use lib.Pointwise.{pointwise}
use Rattle.lan_base.specs.declared.address.Sci.{Sci}
use Rattle.lan_base.specs.Identifiers.{same_sci}
use Rattle.use_notes.specs.declared.frame.RightFrame.{RightFrame}
use Rattle.use_notes.specs.declared.frame.First.{First}
use Rattle.use_notes.specs.declared.novelty.Novelty.{Novelty}
use Rattle.use_notes.specs.declared.novelty.Novelty.TheVariants.{New, Repeated, Reused}

-- a packet behind all of these; packets are counted from 1
abbrev pub IsBehind : ℕ → List RightFrame → Type 0
IsBehind packet [] = 0 < packet
IsBehind packet (e ∷ h) = (e.packet < packet) × IsBehind packet h

-- each frame stands behind all before it
abbrev pub AreInOrder : List RightFrame → Type 0
AreInOrder [] = Unit {0}
AreInOrder (e ∷ h) = IsBehind e.packet h × AreInOrder h

abbrev pub is_of : ℕ → Sci → RightFrame → Bool
is_of key sci e = (e.key == key) && same_sci e.sci sci

-- the frames that are right under a key, of one sender
abbrev pub frames_of : ℕ → Sci → List RightFrame → List RightFrame
frames_of key sci h = filter (is_of key sci) h

abbrev pub note_of : RightFrame → First
note_of e = record { packet = e.packet; check = e.check; time = e.time }

abbrev pub note_here : ℕ → RightFrame → Option First
note_here pn e = if e.pn == pn then Some (note_of e) else None

-- of frames of one key and sender, the first with this packet number
abbrev pub first_of : ℕ → List RightFrame → Option First
first_of pn [] = None
first_of pn (e ∷ fs) = option_or (first_of pn fs) (note_here pn e)

abbrev pub same_check : List ℕ → List ℕ → Bool
same_check a b = pointwise nat_eq a b

abbrev pub alike_here : ℕ → List ℕ → RightFrame → Option First
alike_here pn check e =
    if (e.pn == pn) && same_check e.check check then Some (note_of e) else None

-- the first with this packet number and this check value
abbrev pub first_alike : ℕ → List ℕ → List RightFrame → Option First
first_alike pn check [] = None
first_alike pn check (e ∷ fs) = option_or (first_alike pn check fs) (alike_here pn check e)

-- a frame behind the first one with its packet number, and the first one that has its check value, too
abbrev pub novelty_after : Option First → Option First → Novelty
novelty_after None alike = New
novelty_after (Some first) None = Reused first.packet
novelty_after (Some first) (Some alike) = Repeated alike.packet

-- what a frame is behind those of its key and sender
abbrev pub novelty : List RightFrame → RightFrame → Novelty
novelty fs e = novelty_after (first_of e.pn fs) (first_alike e.pn e.check fs)

-- what it is behind all right frames before it
abbrev pub novelty_in : List RightFrame → RightFrame → Novelty
novelty_in h e = novelty (frames_of e.key e.sci h) e

abbrev pub is_new : Novelty → Bool
is_new New = true
is_new _ = false

abbrev pub is_repeated : Novelty → Bool
is_repeated (Repeated first) = true
is_repeated _ = false

abbrev pub is_reused : Novelty → Bool
is_reused (Reused first) = true
is_reused _ = false

-- new and reused frames are fresh
abbrev pub is_fresh : Novelty → Bool
is_fresh (Repeated first) = false
is_fresh _ = true
