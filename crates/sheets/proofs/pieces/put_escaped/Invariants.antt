use Rattle.std.proofs.Common.{◌≡◌, ◌++◌, take}
use Rattle.std.specs.List.{flat_map}
use Rattle.sheets.specs.Pieces.{escaped_one}
use Rattle.sheets.proofs.pieces.put_escaped.Given as goal

abbrev pub invariant-loop-octet : goal.invariant-loop-octet
invariant-loop-octet l = l.into.items ≡ l.initial.into.items ++ flat_map escaped_one (take l.octet-index l.name)
