use Rattle.std.proofs.Common.{◌≡◌, length, map, take}
use Rattle.aes_block.specs.Column.{octets_of}
use Rattle.aes_block.specs.Expansion.{expansion}
use Rattle.aes_block.proofs.expanded_key.ExpandedKey.of.Given as goal

abbrev pub invariant-loop-i : goal.invariant-loop-i
invariant-loop-i l =
    record { count : length l.words ≡ 60; same : map octets_of (take l.i l.words) ≡ expansion l.octets l.i }
