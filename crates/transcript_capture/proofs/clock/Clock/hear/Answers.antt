use Rattle.std.proofs.Common.{refl}
use Rattle.transcript_reader.specs.Time.{ticks}
use Rattle.transcript_capture.proofs.PacketsOf.{heard}
use Rattle.transcript_capture.proofs.clock.Clock.hear.Goals as goal

pub returns : goal.returns
returns c = λ earlier is.
    heard earlier c.args.fact.now c.args.self.now c.go_on.new.self _ c.moves_time.result is c.moves_time.ensures
    (c.go_on.ensures.at (ticks earlier) is.at) refl refl c.is_own-own.ensures
