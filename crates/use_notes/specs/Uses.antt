-- What is told of each key and sender.
use Rattle.std.specs.Prelude.{ℕ, ◌≡◌, ◌+◌, ◌-◌, ◌/◌, ◌<◌, ◌&&◌, Bool, true, not, nat_lt, min, max, if◌then◌else◌, List, [], ◌∷◌, map, filter, length, count_by, find, fold, sum_by, Option, Some, None}
use Rattle.std.specs.List.Sorted.{IsStrictlySortedBy}
use Rattle.std.specs.Cmp.Lexicographic.{slice_cmp}
use Rattle.std.specs.Ordering.{nat_cmp, is_eq, ordering_then}
use Rattle.std.specs.declared.cmp.Ordering.{Ordering}
use Rattle.lan_base.specs.declared.address.Sci.{Sci}
use Rattle.use_notes.specs.declared.frame.RightFrame.{RightFrame}
use Rattle.use_notes.specs.declared.frame.First.{First}
use Rattle.use_notes.specs.declared.novelty.Novelty.{Novelty}
use Rattle.use_notes.specs.declared.counts.Counts.{Counts}
use Rattle.use_notes.specs.declared.notes.Use.{Use}
use Rattle.use_notes.specs.declared.order.Order.{Order}
use Rattle.use_notes.specs.Frames.{frames_of, first_alike, novelty, is_new, is_repeated, is_reused, is_fresh}

-- ---- of frames of one key and sender

-- each with what it is behind those before it
abbrev pub told : List RightFrame → List (RightFrame × Novelty)
told [] = []
told (e ∷ fs) = (e, novelty fs e) ∷ told fs

abbrev pub fresh : List RightFrame → List RightFrame
fresh fs = map (λ t. t.0) (filter (λ t. is_fresh t.1) (told fs))

abbrev pub greatest_pn : List RightFrame → ℕ
greatest_pn [] = 0
greatest_pn (e ∷ fs) = max e.pn (greatest_pn fs)

abbrev pub least_pn : List RightFrame → ℕ
least_pn [] = 0
least_pn (e ∷ []) = e.pn
least_pn (e ∷ f ∷ fs) = min e.pn (least_pn (f ∷ fs))

abbrev pub oldest_packet : List RightFrame → ℕ
oldest_packet [] = 0
oldest_packet (e ∷ []) = e.packet
oldest_packet (e ∷ f ∷ fs) = oldest_packet (f ∷ fs)

abbrev pub newest_packet : List RightFrame → ℕ
newest_packet [] = 0
newest_packet (e ∷ fs) = e.packet

-- how many whole milliseconds after the first one with its number and check value a frame repeats that,
-- 0 where times fall back
abbrev pub delay : Option First → RightFrame → ℕ
delay None e = 0
delay (Some alike) e = (e.time - alike.time) / 1000000

abbrev pub longest_delay : List RightFrame → ℕ
longest_delay [] = 0
longest_delay (e ∷ fs) = max (delay (first_alike e.pn e.check fs) e) (longest_delay fs)

-- a new frame with a packet number below one before
abbrev pub is_fallen : List RightFrame → RightFrame → Bool
is_fallen fs e = is_new (novelty fs e) && nat_lt e.pn (greatest_pn fs)

abbrev pub fallen : List RightFrame → ℕ
fallen [] = 0
fallen (e ∷ fs) = (if is_fallen fs e then 1 else 0) + fallen fs

-- the least window under which it isn't late
abbrev pub lag : List RightFrame → RightFrame → ℕ
lag fs e = if is_fallen fs e then greatest_pn fs + 1 - e.pn else 0

-- the least window under which none of the new ones is late
abbrev pub window : List RightFrame → ℕ
window [] = 0
window (e ∷ fs) = max (lag fs e) (window fs)

abbrev pub counts_of : List RightFrame → Counts
counts_of fs = record {
  frames = length fs;
  low = least_pn fs;
  high = greatest_pn fs;
  first = oldest_packet (fresh fs);
  last = newest_packet (fresh fs);
  repeated = count_by (λ t. is_repeated t.1) (told fs);
  longest = longest_delay fs;
  reused = count_by (λ t. is_reused t.1) (told fs);
  fell = fallen fs;
  window = window fs;
  clear = count_by (λ e. not e.confidential) (fresh fs);
}

-- no frame before it has a packet number that is greater by the window or more
abbrev pub IsInTime : ℕ → RightFrame → List RightFrame → Type 0
IsInTime w e [] = Unit {0}
IsInTime w e (f ∷ fs) = (f.pn < e.pn + w) × IsInTime w e fs

-- none of the new ones is late under a window
abbrev pub AreInTime : ℕ → List RightFrame → Type 0
AreInTime w [] = Unit {0}
AreInTime w (e ∷ fs) = (is_new (novelty fs e) ≡ true → IsInTime w e fs) × AreInTime w fs

-- ---- of all right frames

-- by key, and then by the first octet in which the senders differ
abbrev pub use_cmp : ℕ × Sci → ℕ × Sci → Ordering
use_cmp a b = ordering_then (nat_cmp a.0 b.0) (slice_cmp nat_cmp a.1.0 b.1.0)

abbrev pub is_use_of : ℕ → Sci → Use → Bool
is_use_of key sci u = is_eq (use_cmp (key, sci) (u.key, u.sci))

-- what is told of frames of a key and a sender, where there are some
abbrev pub use_told : ℕ → Sci → List RightFrame → Option Use
use_told key sci [] = None
use_told key sci (e ∷ fs) = Some (record { key = key; sci = sci; counts = counts_of (e ∷ fs) })

-- each key and sender of some frame, ascending, with what is told of its frames
pub record AreUsesOf (h : List RightFrame) (us : List Use) : Type 0 where
  pub ascending : IsStrictlySortedBy use_cmp (map (λ u. (u.key, u.sci)) us)
  pub each : (key : ℕ) (sci : Sci) → find (is_use_of key sci) us ≡ use_told key sci (frames_of key sci h)

-- ---- of all uses

-- how many frames fell in all, as far as they can be counted; the greatest window; and of how many
-- keys and senders the greatest packet number is above 3,221,225,472
abbrev pub order_of : List Use → Order
order_of us = record {
  fell = min (sum_by (λ u. u.counts.fell) us) 18446744073709551615;
  window = fold (λ w u. max w u.counts.window) 0 us;
  high = count_by (λ u. nat_lt 3221225472 u.counts.high) us;
}
