use Rattle.std.proofs.Common.{List, drop, refl, subst, sym}
use Rattle.std.proofs.lemmas.Result.{err_from_is_err_and}
use Rattle.capture_packets.specs.Packets.{seen}
use Rattle.packet_verdicts.specs.Groups.{GroupKeys}
use Rattle.packet_verdicts.specs.Kinds.{Fits}
use Rattle.capture_audit.proofs.Plain.{other-found, other-kind, passes, passes-not}
use Rattle.capture_audit.proofs.Taking.{both-stop, is-up, judged-fits, judged-so, no-memory, settle-stops, then-alone, waits-on}
use Rattle.capture_audit.proofs.batch.Batch.take.Goals as goal

pub returns-in_err-kind-clause-takes : goal.returns-in_err-kind-clause-takes
returns-in_err-kind-clause-takes c c' = λ asks ring before waiting written stands.
    let p = err_from_is_err_and c'.from_residual-in_err-kind.result c'.from_residual-in_err-kind.ensures.1 in
    rw (p.1, p.2) (no-memory asks ring before waiting (seen c'.args.packet) written (c.K.Sink.held c'.args.sink.now) c'.args.auditor.now c'.args.self.now stands)

pub returns-in_err-settle-clause-takes : goal.returns-in_err-settle-clause-takes
returns-in_err-settle-clause-takes c c' = λ asks ring before waiting written stands.
    let p = err_from_is_err_and c'.from_residual.result c'.from_residual.ensures.1 in
    let packet = seen c'.args.packet in
    let so = c'.if-passes.ensures in
    let other = other-kind ring.groups packet (so.ethernet refl) (so.other refl) in
    rw (p.1, p.2) (passes-not asks ring before packet written (c.K.Sink.held c'.args.sink.now) c'.args.auditor.now c'.settle.new.self
    c'.args.self.now (so.shows refl) (so.none refl) waiting stands c'.in_err-settle.field-0.0
    (c'.in_err-settle.ensures.settles ring before packet stands.keeps (other-found ring before packet other)))

pub returns-then-passes-clause-takes : goal.returns-then-passes-clause-takes
returns-then-passes-clause-takes c c' = λ asks ring before waiting written stands.
    let packet = seen c'.args.packet in
    let so = c'.if-passes.ensures in
    let other = other-kind ring.groups packet (so.ethernet refl) (so.other refl) in
    passes asks ring before packet written (c.K.Sink.held c'.args.sink.now) c'.args.auditor.now c'.settle.new.self
    c'.args.self.now (so.shows refl) (so.none refl) waiting stands _ other
    (c'.in_ok-settle.ensures.settles ring before packet stands.keeps (other-found ring before packet other))

pub returns-in_err-settle-2-clause-takes : goal.returns-in_err-settle-2-clause-takes
returns-in_err-settle-2-clause-takes c c' = λ asks ring before waiting written stands.
    let p = err_from_is_err_and c'.from_residual-in_err-settle-2.result c'.from_residual-in_err-settle-2.ensures.1 in
    rw (p.1, p.2) (settle-stops asks ring before waiting (seen c'.args.packet) written c'.in_err-settle-2.field-0.0
    (c.K.Sink.held c'.args.sink.now) (c.K.Sink.held c'.settle-then-distributes.new.sink) c'.settle-then-distributes.new.auditor c'.settle-then-distributes.new.self c'.settle-then-distributes.new.self
    (c'.in_err-settle-2.ensures.settles asks ring before waiting written stands))

pub settle_alone-requires-clause-fits : goal.settle_alone-requires-clause-fits
settle_alone-requires-clause-fits c c' =
    subst (λ (gs : List GroupKeys). Fits gs (drop c'.in_ok-kind.field-0.start c'.judge.new.packet.octets.items) c'.in_ok-kind.field-0.kind)
    (sym c'.in_ok-settle-2.ensures.groups)
    (judged-fits c'.law_kind_fits.ensures c'.args.auditor.now.groups (seen c'.args.packet) c'.in_ok-kind.field-0.kind
    (drop c'.in_ok-kind.field-0.start c'.judge.new.packet.octets.items) c'.in_ok-kind.ensures.kind c'.in_ok-kind.ensures.frame)

pub returns-then-distributes-clause-takes : goal.returns-then-distributes-clause-takes
returns-then-distributes-clause-takes c c' = λ asks ring before waiting written stands.
    let up = c'.in_ok-settle-2.ensures.settles asks ring before waiting written stands in
    let kind = c'.in_ok-kind.field-0.kind in
    let frame = drop c'.in_ok-kind.field-0.start c'.judge.new.packet.octets.items in
    let judged = judged-so ring c'.args.auditor.now.groups (seen c'.args.packet) c'.judge.new.packet.head kind frame
    stands.keeps.holds.groups_are c'.judge.ensures.head c'.in_ok-kind.ensures.kind c'.in_ok-kind.ensures.frame in
    let gives = sym c'.if-distributes.ensures in
    then-alone asks ring before waiting (seen c'.args.packet) written (c.K.Sink.held c'.args.sink.now) (c.K.Sink.held c'.settle-then-distributes.new.sink)
    (c.K.Sink.held c'.settle_alone.new.sink) c'.settle-then-distributes.new.auditor c'.settle_alone.new.auditor c'.settle-then-distributes.new.self c'.settle_alone.new.self
    c'.settle_alone.result up
    (c'.settle_alone.ensures.settles asks ring up.now _ (seen c'.args.packet) up.stands judged gives)

pub put-requires-clause-fits : goal.put-requires-clause-fits
put-requires-clause-fits c c' =
    judged-fits c'.law_kind_fits.ensures c'.args.auditor.now.groups (seen c'.args.packet) c'.in_ok-kind.field-0.kind
    (drop c'.in_ok-kind.field-0.start c'.judge.new.packet.octets.items) c'.in_ok-kind.ensures.kind c'.in_ok-kind.ensures.frame

pub returns-in_err-put-clause-takes : goal.returns-in_err-put-clause-takes
returns-in_err-put-clause-takes c c' = λ asks ring before waiting written stands.
    let p = err_from_is_err_and c'.from_residual-in_err-put.result c'.from_residual-in_err-put.ensures.1 in
    rw (p.1, p.2) (no-memory asks ring before waiting (seen c'.args.packet) written (c.K.Sink.held c'.args.sink.now) c'.args.auditor.now c'.args.self.now stands)

pub returns-in_err-settle-3-clause-takes : goal.returns-in_err-settle-3-clause-takes
returns-in_err-settle-3-clause-takes c c' = λ asks ring before waiting written stands.
    let p = err_from_is_err_and c'.from_residual-in_err-settle-3.result c'.from_residual-in_err-settle-3.ensures.1 in
    let kind = c'.in_ok-kind.field-0.kind in
    let frame = drop c'.in_ok-kind.field-0.start c'.judge.new.packet.octets.items in
    let judged = judged-so ring c'.args.auditor.now.groups (seen c'.args.packet) c'.judge.new.packet.head kind frame
    stands.keeps.holds.groups_are c'.judge.ensures.head c'.in_ok-kind.ensures.kind c'.in_ok-kind.ensures.frame in
    let quiet = sym c'.if-distributes.ensures in
    let now = c'.in_ok-put.ensures.puts asks ring before waiting written (seen c'.args.packet) stands judged quiet in
    let settle = c'.settle-then-is_full in
    rw (p.1, p.2) (both-stop asks ring before waiting (seen c'.args.packet) written c'.in_err-settle-3.field-0.0
    (c.K.Sink.held c'.args.sink.now) (c.K.Sink.held settle.new.sink) settle.new.auditor settle.new.self
    (c'.in_err-settle-3.ensures.settles asks ring before _ written now))

pub returns-in_ok-settle-3-clause-takes : goal.returns-in_ok-settle-3-clause-takes
returns-in_ok-settle-3-clause-takes c c' = λ asks ring before waiting written stands.
    let kind = c'.in_ok-kind.field-0.kind in
    let frame = drop c'.in_ok-kind.field-0.start c'.judge.new.packet.octets.items in
    let judged = judged-so ring c'.args.auditor.now.groups (seen c'.args.packet) c'.judge.new.packet.head kind frame
    stands.keeps.holds.groups_are c'.judge.ensures.head c'.in_ok-kind.ensures.kind c'.in_ok-kind.ensures.frame in
    let quiet = sym c'.if-distributes.ensures in
    let now = c'.in_ok-put.ensures.puts asks ring before waiting written (seen c'.args.packet) stands judged quiet in
    is-up asks ring before waiting (seen c'.args.packet) written _ _ _ _
    (c'.in_ok-settle-3.ensures.settles asks ring before _ written now)

pub returns-else-is_full-clause-takes : goal.returns-else-is_full-clause-takes
returns-else-is_full-clause-takes c c' = λ asks ring before waiting written stands.
    let kind = c'.in_ok-kind.field-0.kind in
    let frame = drop c'.in_ok-kind.field-0.start c'.judge.new.packet.octets.items in
    let judged = judged-so ring c'.args.auditor.now.groups (seen c'.args.packet) c'.judge.new.packet.head kind frame
    stands.keeps.holds.groups_are c'.judge.ensures.head c'.in_ok-kind.ensures.kind c'.in_ok-kind.ensures.frame in
    let quiet = sym c'.if-distributes.ensures in
    let now = c'.in_ok-put.ensures.puts asks ring before waiting written (seen c'.args.packet) stands judged quiet in
    waits-on asks ring before waiting (seen c'.args.packet) written _ _ _ now
