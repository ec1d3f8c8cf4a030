use Rattle.std.proofs.Common.{◌≡◌, ◌*◌, ◌++◌, take, drop}
use Rattle.hex.specs.Hex.{encode_lower}
use Rattle.trace_text.proofs.hexadecimal.encode.Given as goal

abbrev pub invariant-pairs : goal.invariant-pairs
invariant-pairs l =
    take (2 * l.i) l.digits ++ encode_lower (drop l.i l.octets) ≡ encode_lower l.octets
