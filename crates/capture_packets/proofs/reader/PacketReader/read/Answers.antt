use Rattle.std.proofs.Common.{◌≢◌, ◌∙◌, arith, sym}
use Rattle.std.proofs.lemmas.Result.{err_from_is_err_and}
use Rattle.capture_packets.specs.declared.state.Progress.TheVariants as progress
use Rattle.capture_packets.specs.Packets.{context}
use Rattle.capture_packets.proofs.Telling.{next-end, next-err, next-other, next-packet}
use Rattle.capture_packets.proofs.reader.PacketReader.read.Goals as goal

pub returns-in_err-step-clause-reads : goal.returns-in_err-step-clause-reads
returns-in_err-step-clause-reads g c = λ limit text packets t tells.
    let b = c.loop.invariant.tells limit text packets t tells in
    let p = err_from_is_err_and c.from_residual.result c.from_residual.ensures.1 in
    rw (p.1, p.2) (next-err limit text c.loop.self c.step.new.self (g.S.Source.left c.loop.source)
    (g.S.Source.left c.step.new.source) t packets c.step.new.packet c.step.new.packet (context c.step.new.self.state)
    c.step.new.self.supply c.in_err-step.field-0.0 b c.step.ensures.start
    (c.in_err-step.ensures.steps limit text b.given b.behind b.before.stands b.before.visible))

pub returns-in_err-step-clause-before : goal.returns-in_err-step-clause-before
returns-in_err-step-clause-before g c =
    let a = c.loop.invariant.given in let b = c.step.ensures.before in omega (arith, a, b)

pub returns-in-End-clause-reads : goal.returns-in-End-clause-reads
returns-in-End-clause-reads g c = λ limit text packets t tells.
    let b = c.loop.invariant.tells limit text packets t tells in
    let e = c.in_ok-step.ensures.steps limit text b.given b.behind b.before.stands b.before.visible in
    next-end limit text c.loop.self c.step.new.self (g.S.Source.left c.loop.source)
    (g.S.Source.left c.step.new.source) t packets c.step.new.packet b (rw c.in-End.is at e)

pub returns-in-End-clause-before : goal.returns-in-End-clause-before
returns-in-End-clause-before g c =
    let a = c.loop.invariant.given in let b = c.step.ensures.before in omega (arith, a, b)

pub returns-in-Packet-clause-reads : goal.returns-in-Packet-clause-reads
returns-in-Packet-clause-reads g c = λ limit text packets t tells.
    let b = c.loop.invariant.tells limit text packets t tells in
    let e = c.in_ok-step.ensures.steps limit text b.given b.behind b.before.stands b.before.visible in
    next-packet limit text c.loop.self c.step.new.self (g.S.Source.left c.loop.source)
    (g.S.Source.left c.step.new.source) t packets c.step.new.packet b c.step.ensures.start (rw c.in-Packet.is at e)

pub returns-in-Packet-clause-before : goal.returns-in-Packet-clause-before
returns-in-Packet-clause-before g c =
    let a = c.loop.invariant.given in let b = c.step.ensures.before in omega (arith, a, b)

pub loop-smaller : goal.loop-smaller
loop-smaller g c =
    let rises = c.in_ok-step.ensures.given in
    let other : c.in_ok-step.field-0 ≢ progress.End = λ is. cc (sym is ∙ c.in-Other.is) in
    let more = rises other in
    let b = c.step.ensures.before in
    omega (arith, more, b)

pub loop-preserved : goal.loop-preserved
loop-preserved g c =
    let rises = c.in_ok-step.ensures.given in
    let other : c.in_ok-step.field-0 ≢ progress.End = λ is. cc (sym is ∙ c.in-Other.is) in
    let more = rises other in
    record {
      tells = λ limit text packets t tells.
          let b = c.loop.invariant.tells limit text packets t tells in
          let e = c.in_ok-step.ensures.steps limit text b.given b.behind b.before.stands b.before.visible in
          next-other limit text c.loop.self c.step.new.self (g.S.Source.left c.loop.source)
          (g.S.Source.left c.step.new.source) t packets c.step.new.packet b c.step.ensures.start (rw c.in-Other.is at e);
      start = c.step.ensures.start ∙ c.loop.invariant.start;
      given = let a = c.loop.invariant.given in omega (arith, a, more);
      counts = let a = c.loop.invariant.counts in let b = c.step.ensures.counts in omega (arith, a, b);
    }
