use Rattle.std.proofs.Common.{◌≡◌, ◌++◌, take}
use Rattle.mka_station.proofs.changes.joined.Given as goal

abbrev pub invariant-loop-change : goal.invariant-loop-change
invariant-loop-change l = l.first ≡ l.initial.first ++ take l.change-index l.change-items
