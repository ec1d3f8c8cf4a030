-- How many fresh frames came early, joining or late.
use Rattle.std.specs.Prelude.{ℕ, ◌≡◌, ◌+◌, ◌==◌, ◌&&◌, min, if◌then◌else◌, List, [], ◌∷◌, map, find, Option, Some, None, option_map, unwrap_or, Bool}
use Rattle.std.specs.List.Sorted.{IsStrictlySortedBy}
use Rattle.std.specs.Ordering.{nat_cmp, is_eq, ordering_then}
use Rattle.std.specs.declared.cmp.Ordering.{Ordering}
use Rattle.lan_base.specs.declared.address.Sci.{Sci}
use Rattle.lan_base.specs.Identifiers.{same_sci}
use Rattle.member_notes.specs.Standing.{member_cmp}
use Rattle.use_notes.specs.declared.frame.RightFrame.{RightFrame}
use Rattle.rollover_notes.specs.declared.counts.Counts.{Counts}
use Rattle.rollover_notes.specs.declared.late_frames.LateFrames.{LateFrames}
use Rattle.rollover_notes.specs.declared.unready.Unready.{Unready}
use Rattle.rollover_notes.specs.declared.timing.Timing.{Timing}
use Rattle.rollover_notes.specs.declared.timing.Timing.TheVariants.{Early, Joining, Late, InTime}
use Rattle.rollover_notes.specs.Events.{Event, Gave, Spoke, Used}
use Rattle.rollover_notes.specs.Reports.{reported}
use Rattle.rollover_notes.specs.Speaking.{Member}
use Rattle.rollover_notes.specs.Timings.{is_late_frame, timing_beside}

-- one more, as far as 32 bits count
abbrev pub more : ℕ → ℕ
more n = min (n + 1) 4294967295

-- the first packet stays, where there was one
abbrev pub first_of : ℕ → ℕ → ℕ → ℕ
first_of n first packet = if n == 0 then packet else first

abbrev pub no_frames : Counts
no_frames = record { early = 0; first_early = 0; joining = 0; first_joining = 0 }

abbrev pub with_early : ℕ → Counts → Counts
with_early packet c =
    record c { early = more c.early; first_early = first_of c.early c.first_early packet }

abbrev pub with_joining : ℕ → Counts → Counts
with_joining packet c =
    record c { joining = more c.joining; first_joining = first_of c.joining c.first_joining packet }

abbrev pub counted : Option Counts → ℕ → Timing → Option Counts
counted before packet Early = Some (with_early packet (unwrap_or before no_frames))
counted before packet Joining = Some (with_joining packet (unwrap_or before no_frames))
counted before packet Late = before
counted before packet InTime = before

-- a key, and a member
abbrev pub Pair : Type 0
Pair = ℕ × Member

-- what a frame is to a pair: its timing to the member, if it is under the key
abbrev pub timing_to : List Event → RightFrame → Pair → Timing
timing_to h frame p = if frame.key == p.0 then timing_beside h frame p.1 else InTime

-- how many frames under a key came to a member that was not ready for it, where some did
abbrev pub unready_counts : List Event → Pair → Option Counts
unready_counts [] p = None
unready_counts (Gave group id key ∷ h) p = unready_counts h p
unready_counts (Spoke s ∷ h) p = unready_counts h p
unready_counts (Used frame ∷ h) p = counted (unready_counts h p) frame.packet (timing_to h frame p)

abbrev pub none_late : LateFrames
none_late = record { frames = 0; first = 0 }

abbrev pub with_late : ℕ → LateFrames → LateFrames
with_late packet l = record { frames = more l.frames; first = first_of l.frames l.first packet }

-- how many frames under a key, of a sender, came late, and the first of them
abbrev pub late : List Event → ℕ × Sci → LateFrames
late [] at = none_late
late (Gave group id key ∷ h) at = late h at
late (Spoke s ∷ h) at = late h at
late (Used frame ∷ h) at =
    if ((frame.key == at.0) && same_sci frame.sci at.1) && is_late_frame h frame
    then with_late frame.packet (late h at)
    else late h at

-- ---- what is told at the end

-- by key, group and MI
abbrev pub pair_cmp : Pair → Pair → Ordering
pair_cmp a b = ordering_then (nat_cmp a.0 b.0) (member_cmp a.1 b.1)

abbrev pub pair_of : Unready → Pair
pair_of u = (u.key, (u.group, u.mi))

abbrev pub is_unready_of : Pair → Unready → Bool
is_unready_of p u = is_eq (pair_cmp p (pair_of u))

-- what is told of a pair, whose member reported the key first in this packet, if it did
abbrev pub unready_of : Pair → Option ℕ → Counts → Unready
unready_of p reported c = record {
  key = p.0;
  group = p.1.0;
  mi = p.1.1;
  early = c.early;
  first_early = c.first_early;
  joining = c.joining;
  first_joining = c.first_joining;
  reported = unwrap_or reported 0;
}

-- each key and member to which some frame came early or joining, ascending
pub record AreUnreadyOf (h : List Event) (us : List Unready) : Type 0 where
  pub ascending : IsStrictlySortedBy pair_cmp (map pair_of us)
  pub each : (p : Pair)
      → find (is_unready_of p) us ≡ option_map (unready_of p (reported h p.1 p.0)) (unready_counts h p)
