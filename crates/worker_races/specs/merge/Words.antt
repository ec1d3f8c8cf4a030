-- What the current word of a station was told in a race.
use Rattle.std.specs.Prelude.{ℕ, ◌==◌, if◌then◌else◌, List, [], ◌∷◌}
use Rattle.std.specs.Prelude.{◌++◌}
use Rattle.lan_base.specs.declared.association_number.AssociationNumber.{AssociationNumber}
use Rattle.association_slots.specs.declared.view.Current.{Current}
use Rattle.association_slots.specs.Views.{absent_after, present_at}
use Rattle.worker_races.specs.merge.Places.{Move, last_of}

-- what one step told it, newest first, where so an epoch was the last one: nothing where the key
-- stays, and else an unpoint, a point or both
abbrev pub told_by : (ℕ → AssociationNumber) → ℕ → Move → List Current
told_by ans top m =
    if m.gap then present_at (ans m.after) m.after ∷ absent_after top ∷ []
    else if m.after == m.before then []
    else if m.after == 0 then absent_after top ∷ []
    else present_at (ans m.after) m.after ∷ []

-- what all steps told it, newest first
unfoldable pub told_in : (ℕ → AssociationNumber) → ℕ → ℕ → List Move → List Current
told_in ans s top [] = []
told_in ans s top (m ∷ ms) =
    if m.station == s then told_in ans s (last_of top m) ms ++ told_by ans top m
    else told_in ans s top ms
