use Rattle.std.proofs.Common.{◌≡◌, ◌++◌, drop}
use Rattle.receive_channels.specs.Channels.{associations}
use Rattle.receive_channels.proofs.next.receives.Given as goal

-- those so far, and those of the keys that are left
abbrev pub invariant-loop-key : goal.invariant-loop-key
invariant-loop-key l =
    l.made.items ++ associations (record { scis = l.scis; keys = l.keys }) l.present (drop l.key-index l.keys)
    ≡ associations (record { scis = l.scis; keys = l.keys }) l.present l.keys
