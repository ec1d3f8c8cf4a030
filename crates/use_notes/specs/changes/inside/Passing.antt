-- What is kept of a sender, one frame after the other.
use Rattle.std.specs.Prelude.{ℕ, ◌≡◌, ◌+◌, min, List, [], ◌∷◌, ◌++◌, length, Option, Some, None, slice_get, slice_set, cond}
use Rattle.std.specs.Map.{lookup}
use Rattle.std.specs.BTreeMap.{is_at}
use Rattle.std.specs.Ordering.{nat_cmp}
use Rattle.use_notes.specs.declared.frame.RightFrame.{RightFrame}
use Rattle.use_notes.specs.declared.changes.change.Handover.{Handover}
use Rattle.use_notes.specs.changes.Changes.{milliseconds}
use Rattle.use_notes.specs.changes.Standing.{KeptOfSender}

-- between the last frame under a key and the first under the next
abbrev pub passed : RightFrame → RightFrame → Handover
passed last first = record {
  from = last.key;
  to = first.key;
  last = last.packet;
  first = first.packet;
  began = first.time;
  gap = milliseconds last.time first.time;
  after = 0;
  behind = 0;
}

-- a frame more under the key before
abbrev pub passes_on : RightFrame → Handover → Handover
passes_on e v = record v {
  after = min (v.after + 1) 4294967295;
  behind = milliseconds v.began e.time;
}

abbrev pub passed_from : Option RightFrame → RightFrame → List Handover
passed_from None e = []
passed_from (Some last) e = passed last e ∷ []

abbrev pub handovers_at : Option Handover → ℕ → RightFrame → List Handover → List Handover
handovers_at None turn e vs = vs
handovers_at (Some v) turn e vs = slice_set vs turn (passes_on e v)

abbrev pub newest_at : Option Handover → RightFrame → Option RightFrame → Option RightFrame
newest_at None e newest = Some e
newest_at (Some v) e newest = newest

-- a frame more under a key that has this turn
abbrev pub goes_on : ℕ → RightFrame → KeptOfSender → KeptOfSender
goes_on turn e kept = record {
  turns = kept.turns;
  handovers = handovers_at (slice_get kept.handovers turn) turn e kept.handovers;
  newest = newest_at (slice_get kept.handovers turn) e kept.newest;
}

-- a frame under a new key
pub record Begins (e : RightFrame) (old new : KeptOfSender) : Type 0 where
  pub handovers : new.handovers ≡ old.handovers ++ passed_from old.newest e
  pub here : lookup (is_at (nat_cmp e.key)) new.turns ≡ Some (length new.handovers)
  pub others : (key : ℕ) → lookup (is_at (nat_cmp key)) new.turns
      ≡ cond (is_at (nat_cmp e.key) key) (Some (length new.handovers)) (lookup (is_at (nat_cmp key)) old.turns)
  pub newest : new.newest ≡ Some e
