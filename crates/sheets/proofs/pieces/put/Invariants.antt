use Rattle.std.proofs.Common.{◌≡◌, ◌++◌, take}
use Rattle.std.specs.List.{flat_map}
use Rattle.sheets.specs.Pieces.{piece_text}
use Rattle.sheets.proofs.pieces.put.Given as goal

abbrev pub invariant-loop-piece : goal.invariant-loop-piece
invariant-loop-piece l = l.into.items ≡ l.initial.into.items ++ flat_map piece_text (take l.piece-index l.pieces)
