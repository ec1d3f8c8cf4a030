use Rattle.std.proofs.Common.{◌-◌, Ok, Err, arith, length, subst}
use Rattle.std.proofs.lemmas.Result.{err_from_is_err_and}
use Rattle.capture_packets.specs.Packets.{Context, context}
use Rattle.capture_packets.specs.inside.Taking.{StepsOn}
use Rattle.capture_packets.proofs.Opened.{begins-blocks, begins-err}
use Rattle.capture_packets.proofs.reader.PacketReader.begin_blocks.Goals as goal

pub returns-in_err-progress-clause-begins : goal.returns-in_err-progress-clause-begins
returns-in_err-progress-clause-begins g c = λ limit text given file s visible known start head.
    let at = length given - c.args.self.now.start in
    let now = context c.step.new.self.state in
    let left = g.S.Source.left c.step.new.source in
    let st = c.in_err-progress.ensures.steps limit text given file s visible in
    let p = err_from_is_err_and c.from_residual.result c.from_residual.ensures.1 in
    rw (p.1, p.2) (begins-err limit text given file now now at c.step.new.packet c.step.new.self.supply
    c.step.new.self.supply left c.in_err-progress.field-0.0 head (omega (arith, start))
    (subst (λ (k : Context). StepsOn limit text given file k at c.step.new.packet now c.step.new.self.supply left
    (Err c.in_err-progress.field-0.0)) known st))

pub returns-clause-begins : goal.returns-clause-begins
returns-clause-begins g c = λ limit text given file s visible known start head.
    let at = length given - c.args.self.now.start in
    let now = context c.step.new.self.state in
    let left = g.S.Source.left c.step.new.source in
    let st = c.in_ok-progress.ensures.steps limit text given file s visible in
    rw c.no_packet.ensures (begins-blocks limit text given file now at c.step.new.packet c.step.new.self.supply
    left c.in_ok-progress.progress head
    (subst (λ (k : Context). StepsOn limit text given file k at c.step.new.packet now c.step.new.self.supply left
    (Ok c.in_ok-progress.progress)) known st))
