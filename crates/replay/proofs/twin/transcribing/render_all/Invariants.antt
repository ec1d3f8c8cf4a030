use Rattle.std.proofs.Common.{◌≡◌, take}
use Rattle.std.specs.List.{flat_map}
use Rattle.replay.specs.twin.Written.{marked}
use Rattle.replay.proofs.twin.transcribing.render_all.Given as goal

abbrev pub invariant-loop-fact : goal.invariant-loop-fact
invariant-loop-fact l =
    l.out.items ≡ flat_map (marked l.group l.names) (take l.fact-index l.facts)
