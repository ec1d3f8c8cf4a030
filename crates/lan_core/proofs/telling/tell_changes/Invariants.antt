use Rattle.std.proofs.Common.{◌≡◌, ◌++◌, map, take}
use Rattle.lan_core.specs.Expected.{change_fact}
use Rattle.lan_core.proofs.telling.tell_changes.Given as goal

abbrev pub invariant-loop-change : goal.invariant-loop-change
invariant-loop-change l = l.facts ≡ l.fn.facts ++ map (change_fact l.station) (take l.change-index l.changes)
