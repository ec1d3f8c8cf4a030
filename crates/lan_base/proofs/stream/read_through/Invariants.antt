use Rattle.std.specs.Io.KnownBytes.{Keeps}
use Rattle.lan_base.proofs.stream.read_through.Given as goal

-- an interrupted read gives nothing
abbrev pub invariant-loop : goal.invariant-loop
invariant-loop g l = Keeps (g.R.Read.remaining l.initial.reader) (g.R.Read.remaining l.reader)
