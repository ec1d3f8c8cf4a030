use Rattle.replay.specs.Sinks.{sunk}
use Rattle.replay.proofs.Written.{by-one}
use Rattle.replay.proofs.writing.write.Goals as goal

pub returns : goal.returns
returns g c =
    by-one c.args.text.now (sunk (g.K.Sink.held c.args.sink.now) (g.K.Sink.faults c.args.sink.now))
    (sunk (g.K.Sink.held c.write_all.new.sink) (g.K.Sink.faults c.write_all.new.sink))
    c.write_all.result c.write_all.ensures.all c.write_all.ensures.prefix
    c.write_all.ensures.failed c.write_all.ensures.counts
