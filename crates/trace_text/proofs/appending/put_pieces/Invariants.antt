use Rattle.std.proofs.Common.{◌≡◌, ◌++◌, length}
use Rattle.hex.specs.Hex.{encode_lower}
use Rattle.trace_text.specs.Appending.{Grew}
use Rattle.trace_text.proofs.appending.put_pieces.Given as goal

-- what is there, and the digits of what is left
abbrev pub invariant-loop-left : goal.invariant-loop-left
invariant-loop-left l = record {
  left : l.fn.into.items ++ encode_lower l.octets ≡ l.into.items ++ encode_lower l.left;
  grew : Grew l.fn.into.items l.into.items;
}

abbrev pub decreases-loop-left : goal.decreases-loop-left
decreases-loop-left l = length l.left
