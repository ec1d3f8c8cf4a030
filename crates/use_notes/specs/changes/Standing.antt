-- What is kept of the frames of a sender, and of all.
use Rattle.std.specs.Prelude.{ℕ, ◌≡◌, ◌==◌, if◌then◌else◌, List, [], ◌∷◌, map, length, Option, Some, None}
use Rattle.std.specs.Map.{lookup}
use Rattle.std.specs.BTreeMap.{is_at}
use Rattle.std.specs.Ordering.{nat_cmp}
use Rattle.lan_base.specs.declared.address.Sci.{Sci}
use Rattle.use_notes.specs.declared.frame.RightFrame.{RightFrame}
use Rattle.use_notes.specs.Frames.{AreInOrder}
use Rattle.use_notes.specs.declared.changes.change.Change.{Change}
use Rattle.use_notes.specs.declared.changes.change.Handover.{Handover}
use Rattle.use_notes.specs.changes.Changes.{frames_from, under, firsts, neighbours, change, sci_cmp}

abbrev pub change_told : Sci → Handover → Change
change_told sci v = record {
  sci = sci;
  from = v.from;
  to = v.to;
  last = v.last;
  first = v.first;
  gap = v.gap;
  after = v.after;
  behind = v.behind;
}

abbrev pub kept_of : RightFrame → Change → Handover
kept_of first c = record {
  from = c.from;
  to = c.to;
  last = c.last;
  first = c.first;
  began = first.time;
  gap = c.gap;
  after = c.after;
  behind = c.behind;
}

-- the change from the key of a frame to the one that another frame is the first of
abbrev pub handover : List RightFrame → RightFrame × RightFrame → Handover
handover fs it = kept_of it.1 (change it.1.sci fs it.0.key it.1)

-- of first frames, newest first, how many are older than the one under a key
abbrev pub turn_of : ℕ → List RightFrame → Option ℕ
turn_of key [] = None
turn_of key (e ∷ fs) = if e.key == key then Some (length fs) else turn_of key fs

abbrev pub newest_of : List RightFrame → Option RightFrame
newest_of [] = None
newest_of (e ∷ fs) = Some e

-- the newest one under the key of the newest of the first ones
abbrev pub newest_under : List RightFrame → List RightFrame → Option RightFrame
newest_under fs [] = None
newest_under fs (first ∷ older) = newest_of (under first.key fs)

-- of a sender: by key its turn; the changes in turn; the last frame under the newest key
pub record KeptOfSender : Type 0 where
  pub turns : List (ℕ × ℕ)
  pub handovers : List Handover
  pub newest : Option RightFrame

-- after these frames of the sender
pub record Keeps (fs : List RightFrame) (kept : KeptOfSender) : Type 0 where
  pub turns : (key : ℕ) → lookup (is_at (nat_cmp key)) kept.turns ≡ turn_of key (firsts fs)
  pub handovers : kept.handovers ≡ map (handover fs) (neighbours (firsts fs))
  pub newest : kept.newest ≡ newest_under fs (firsts fs)

-- by sender what is kept
abbrev pub Senders : Type 0
Senders = List (Sci × KeptOfSender)

abbrev pub kept_at : Senders → Sci → Option KeptOfSender
kept_at senders sci = lookup (is_at (sci_cmp sci)) senders

abbrev pub KeepsSome : List RightFrame → Option KeptOfSender → Type 0
KeepsSome fs None = fs ≡ []
KeepsSome fs (Some kept) = Keeps fs kept

pub record StandsFor (h : List RightFrame) (senders : Senders) : Type 0 where
  pub ordered : AreInOrder h
  pub each : (sci : Sci) → KeepsSome (frames_from sci h) (kept_at senders sci)
