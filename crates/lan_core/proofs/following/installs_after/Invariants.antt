use Rattle.std.proofs.Common.{◌≡◌, ◌+◌, take}
use Rattle.lan_core.specs.inside.Following.{count_installed}
use Rattle.lan_core.proofs.following.installs_after.Given as goal

abbrev pub invariant-loop-change : goal.invariant-loop-change
invariant-loop-change l = l.count ≡ l.installs + count_installed (take l.change-index l.changes)
