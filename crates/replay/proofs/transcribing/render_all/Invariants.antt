use Rattle.std.proofs.Common.{◌≡◌, take}
use Rattle.transcript.specs.Rendering.{transcript}
use Rattle.replay.proofs.transcribing.render_all.Given as goal

abbrev pub invariant-loop-fact : goal.invariant-loop-fact
invariant-loop-fact l = l.out.items ≡ transcript l.names (take l.fact-index l.facts)
