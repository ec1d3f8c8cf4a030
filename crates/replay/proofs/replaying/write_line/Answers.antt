use Rattle.fact_tally.specs.Summary.{line_of}
use Rattle.replay.specs.Sinks.{sunk}
use Rattle.replay.proofs.Written.{none-fails}
use Rattle.replay.proofs.replaying.write_line.Goals as goal

pub returns-in_err-line : goal.returns-in_err-line
returns-in_err-line g c =
    let k = g.K.Sink in
    none-fails (line_of c.args.tally.now) (sunk (k.held c.args.sink.now) (k.faults c.args.sink.now)) _
    c.from_residual.ensures.1
