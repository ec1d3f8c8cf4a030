use Rattle.std.proofs.Common.{◌≡◌, ◌≤◌, ◌+◌, ◌++◌, take}
use Rattle.transcript.proofs.laying.lay.Given as goal

abbrev pub invariant-loop-octet : goal.invariant-loop-octet
invariant-loop-octet l = (l.end ≡ l.initial.end + l.octet-index) × (l.end ≤ 64) × (take l.end l.line ≡ take l.initial.end l.initial.line ++ take l.octet-index l.octets)
