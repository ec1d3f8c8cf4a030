-- So far the first frames are as they wait.
use Rattle.std.proofs.Common.{◌≡◌, map}
use Rattle.lan_core.specs.Parts.{sealed_from}
use Rattle.lan_core.proofs.lan.settling.sealed_frames.Given as goal

abbrev pub invariant-loop-frame : goal.invariant-loop-frame
invariant-loop-frame l = l.frames ≡ map sealed_from l.yielded
