-- A walk over the speakers of all SCIs, by what is kept.
use Rattle.std.specs.Prelude.{ℕ, ◌≡◌, ◌&&◌, map, Bool, false, if◌then◌else◌, List, [], ◌∷◌, Option, Some, None}
use Rattle.std.specs.List.{list_any}
use Rattle.std.specs.List.Sorted.{IsStrictlySortedBy}
use Rattle.std.specs.Map.{lookup}
use Rattle.std.specs.BTreeMap.{is_at}
use Rattle.lan_base.specs.declared.address.Mi.{Mi}
use Rattle.lan_base.specs.declared.address.Sci.{Sci}
use Rattle.lan_base.specs.Identifiers.{same_sci}
use Rattle.member_notes.specs.Standing.{member_cmp}
use Rattle.use_notes.specs.declared.frame.RightFrame.{RightFrame}
use Rattle.rollover_notes.specs.declared.counts.Counts.{Counts}
use Rattle.rollover_notes.specs.declared.givings.Givings.{Givings}
use Rattle.rollover_notes.specs.declared.reports.Reports.{Reports}
use Rattle.rollover_notes.specs.declared.speakers.Speakers.{Speakers}
use Rattle.rollover_notes.specs.declared.timing.Timing.{Timing}
use Rattle.rollover_notes.specs.declared.timing.Timing.TheVariants.{InTime}
use Rattle.rollover_notes.specs.Speaking.{Member, Said, is_near}
use Rattle.rollover_notes.specs.Standing.{group_key_cmp, has, member_key_cmp, number_sci_cmp}
use Rattle.rollover_notes.specs.Timings.{is_late, timing_by}
use Rattle.rollover_notes.specs.Counted.{Pair, counted, pair_cmp}

-- the speaker of an SCI in a group
abbrev pub Speaker : Type 0
Speaker = (ℕ × Sci) × Mi

abbrev pub member_of : Speaker → Member
member_of s = (s.0.0, s.1)

-- ---- what a frame is to a speaker, by what members said last

-- what was said last was said under this SCI, and is near
abbrev pub is_voice : (Member → Option Said) → RightFrame → ℕ × Sci → Option Said → Bool
is_voice said_by frame at None = false
is_voice said_by frame at (Some s) =
    same_sci s.sci at.1 && is_near (λ mi. said_by (at.0, mi)) frame s

-- by what it is to each member beside it
abbrev pub timing_from : (Member → Option Said) → (Member → Timing) → RightFrame → Speaker → Timing
timing_from said_by timing frame s =
    if is_voice said_by frame s.0 (said_by (member_of s)) then timing (member_of s) else InTime

-- ---- by what is kept

abbrev pub said_by : List (Member × Said) → Member → Option Said
said_by entries m = lookup (is_at (member_cmp m)) entries

abbrev pub timing_in : Givings → Reports → RightFrame → Member → Timing
timing_in givings reports frame m =
    timing_by (λ key. lookup (is_at (member_key_cmp (m, key))) reports.packets.entries)
    (λ key. lookup (is_at (member_key_cmp (m, key))) reports.times.entries)
    (has group_key_cmp givings.groups.keys (m.0, frame.key)) givings.order.items frame

abbrev pub timing_at : Givings → Reports → Speakers → RightFrame → Speaker → Timing
timing_at givings reports speakers frame s =
    timing_from (said_by speakers.said.entries) (timing_in givings reports frame) frame s

-- ---- the walk

abbrev pub counts_at : List (Pair × Counts) → Pair → Option Counts
counts_at entries p = lookup (is_at (pair_cmp p)) entries

-- a frame is counted under a key and a member
abbrev pub told : (Pair → Option Counts) → Pair → ℕ → Timing → Pair → Option Counts
told before at packet timing p =
    if is_at (pair_cmp at) p then counted (before p) packet timing else before p

-- it is counted under its key and each of these speakers
abbrev pub walked : (Speaker → Timing) → RightFrame → (Pair → Option Counts) → List Speaker → Pair → Option Counts
walked timing frame before [] = before
walked timing frame before (s ∷ ss) =
    walked timing frame (told before (frame.key, member_of s) frame.packet (timing s)) ss

-- it is late to one of them
abbrev pub is_late_to : (Speaker → Timing) → List Speaker → Bool
is_late_to timing ss = list_any (λ s. is_late (timing s)) ss

-- a frame is told to the speakers of all SCIs, each of which stands once
pub record IsToldToAll (timing : Speaker → Timing) (ss : List Speaker) (frame : RightFrame)
    (old new : List (Pair × Counts)) (late : Bool) : Type 0 where
  pub counts : counts_at new ≡ walked timing frame (counts_at old) ss
  pub late_to : late ≡ is_late_to timing ss
  pub ordered : IsStrictlySortedBy number_sci_cmp (map (λ s. s.0) ss)
