-- Fresh right frames of a capture, newest first: which key each sender came to use after which.
use Rattle.std.specs.Prelude.{ℕ, ◌≡◌, ◌-◌, ◌/◌, ◌==◌, Bool, false, not, nat_lt, if◌then◌else◌, List, [], ◌∷◌, ◌++◌, map, filter, length, flat_map}
use Rattle.std.specs.List.{list_any}
use Rattle.std.specs.List.Sorted.{IsStrictlySortedBy}
use Rattle.std.specs.Cmp.Lexicographic.{slice_cmp}
use Rattle.std.specs.Ordering.{nat_cmp}
use Rattle.std.specs.declared.cmp.Ordering.{Ordering}
use Rattle.lan_base.specs.declared.address.Sci.{Sci}
use Rattle.lan_base.specs.Identifiers.{same_sci}
use Rattle.use_notes.specs.declared.frame.RightFrame.{RightFrame}
use Rattle.use_notes.specs.Uses.{newest_packet}
use Rattle.use_notes.specs.declared.changes.change.Change.{Change}

-- the frames of a sender
abbrev pub frames_from : Sci → List RightFrame → List RightFrame
frames_from sci h = filter (λ e. same_sci e.sci sci) h

-- ---- of frames of one sender

abbrev pub under : ℕ → List RightFrame → List RightFrame
under key fs = filter (λ e. e.key == key) fs

-- those before a packet, and those behind it
abbrev pub earlier : ℕ → List RightFrame → List RightFrame
earlier packet fs = filter (λ e. nat_lt e.packet packet) fs

abbrev pub later : ℕ → List RightFrame → List RightFrame
later packet fs = filter (λ e. nat_lt packet e.packet) fs

-- whether none before it is under its key
abbrev pub is_first : List RightFrame → RightFrame → Bool
is_first fs e = not (list_any (λ f. f.key == e.key) fs)

-- the first frames of the keys
abbrev pub firsts : List RightFrame → List RightFrame
firsts [] = []
firsts (e ∷ fs) = if is_first fs e then e ∷ firsts fs else firsts fs

-- of frames, newest first, those that follow each other, in turn
abbrev pub neighbours : List RightFrame → List (RightFrame × RightFrame)
neighbours [] = []
neighbours (e ∷ []) = []
neighbours (e ∷ f ∷ fs) = neighbours (f ∷ fs) ++ (f, e) ∷ []

-- whole milliseconds from a time to another one, 0 where that is earlier
abbrev pub milliseconds : ℕ → ℕ → ℕ
milliseconds from to = (to - from) / 1000000

abbrev pub time_since_newest : ℕ → List RightFrame → ℕ
time_since_newest time [] = 0
time_since_newest time (e ∷ fs) = milliseconds e.time time

abbrev pub time_to_newest : ℕ → List RightFrame → ℕ
time_to_newest time [] = 0
time_to_newest time (e ∷ fs) = milliseconds time e.time

-- from a key to the one that this frame is the first of
abbrev pub change : Sci → List RightFrame → ℕ → RightFrame → Change
change sci fs from first = record {
  sci = sci;
  from = from;
  to = first.key;
  last = newest_packet (earlier first.packet (under from fs));
  first = first.packet;
  gap = time_since_newest first.time (earlier first.packet (under from fs));
  after = length (later first.packet (under from fs));
  behind = time_to_newest first.time (later first.packet (under from fs));
}

-- the changes of a sender in turn, of its frames
abbrev pub changes_of : Sci → List RightFrame → List Change
changes_of sci fs = map (λ it. change sci fs it.0.key it.1) (neighbours (firsts fs))

-- ---- of all frames

-- by the first octet in which they differ
abbrev pub sci_cmp : Sci → Sci → Ordering
sci_cmp a b = slice_cmp nat_cmp a.0 b.0

-- the changes of senders in ascending order, among which is each one that has frames
pub record AreChangesOf (h : List RightFrame) (cs : List Change) : Type 0 where
  pub senders : List Sci
  pub ascending : IsStrictlySortedBy sci_cmp senders
  pub others : (sci : Sci) → list_any (same_sci sci) senders ≡ false → frames_from sci h ≡ []
  pub each : cs ≡ flat_map (λ sci. changes_of sci (frames_from sci h)) senders
