-- Whether a fresh frame comes early or late to a member beside it.
use Rattle.std.specs.Prelude.{ℕ, ◌+◌, ◌*◌, nat_lt, is_some, Bool, true, false, if◌then◌else◌, List, Option, Some, None}
use Rattle.std.specs.List.{list_any}
use Rattle.lan_base.specs.Timers.{retire_time}
use Rattle.use_notes.specs.declared.frame.RightFrame.{RightFrame}
use Rattle.lan_base.specs.Instants.{tick_nanos}
use Rattle.rollover_notes.specs.declared.timing.Timing.{Timing}
use Rattle.rollover_notes.specs.declared.timing.Timing.TheVariants.{Early, Joining, Late, InTime}
use Rattle.rollover_notes.specs.Events.{Event}
use Rattle.rollover_notes.specs.Givings.{given_before, given_later, in_order, is_given}
use Rattle.rollover_notes.specs.Reports.{began, reported}
use Rattle.rollover_notes.specs.Speaking.{Member, is_beside, members}

-- SAK Retire Time, 3.0 s
abbrev pub retire_nanos : ℕ
retire_nanos = retire_time * tick_nanos

-- more than SAK Retire Time before another time
abbrev pub is_retired : ℕ → Option ℕ → Bool
is_retired now None = false
is_retired now (Some time) = nat_lt (time + retire_nanos) now

-- of a key that the member had not reported: early where it had reported one first given before it
abbrev pub unready : Bool → Bool → Timing
unready given earlier = if given then (if earlier then Early else Joining) else InTime

-- of one that it had reported
abbrev pub overdue : Bool → Timing
overdue left = if left then Late else InTime

abbrev pub timing_after : Option ℕ → Bool → Bool → Bool → Timing
timing_after None given earlier left = unready given earlier
timing_after (Some packet) given earlier left = overdue left

-- By when a member reported and began each key, whether the frame's key was given in its group, and the
-- keys in order: a key that it had not reported comes early where it had reported one first given before,
-- else it is joining; one that it had reported comes late where it had begun one first given later more
-- than SAK Retire Time before.
abbrev pub timing_by : (ℕ → Option ℕ) → (ℕ → Option ℕ) → Bool → List ℕ → RightFrame → Timing
timing_by reported began given ks frame =
    timing_after (reported frame.key) given
    (list_any (λ k. is_some (reported k)) (given_before frame.key ks))
    (list_any (λ k. is_retired frame.time (began k)) (given_later frame.key ks))

abbrev pub timing : List Event → RightFrame → Member → Timing
timing h frame m =
    timing_by (reported h m) (began h m) (is_given h m.0 frame.key) (in_order h) frame

-- what a frame is to a member, if that is beside it
abbrev pub timing_beside : List Event → RightFrame → Member → Timing
timing_beside h frame m = if is_beside h frame m then timing h frame m else InTime

abbrev pub is_late : Timing → Bool
is_late Late = true
is_late _ = false

-- a frame is late where it is to some member
abbrev pub is_late_frame : List Event → RightFrame → Bool
is_late_frame h frame = list_any (λ m. is_late (timing_beside h frame m)) (members h)
