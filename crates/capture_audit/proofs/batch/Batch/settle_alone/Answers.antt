use Rattle.std.proofs.Common.{◌-◌, ℕ, List, refl, subst, drop, take, length}
use Rattle.std.proofs.lemmas.Result.{err_from_is_err_and}
use Rattle.capture_audit.specs.inside.Batches.{IsJudged}
use Rattle.capture_audit.proofs.Putting.{rest-is}
use Rattle.capture_audit.proofs.Alone.{alone-begun, alone-found, alone-memory, alone-stops, alone-writes}
use Rattle.capture_audit.proofs.batch.Batch.settle_alone.Goals as goal

pub returns-in_err-line-clause-settles : goal.returns-in_err-line-clause-settles
returns-in_err-line-clause-settles c c' = λ asks ring before written one stands judged gives.
    let p = err_from_is_err_and c'.from_residual.result c'.from_residual.ensures.1 in
    rw (p.1, p.2) (alone-memory asks ring before one written c'.args.auditor.now c'.args.self.now stands (c.K.Sink.held c'.args.sink.now))

pub returns-in_err-tell-clause-settles : goal.returns-in_err-tell-clause-settles
returns-in_err-tell-clause-settles c c' = λ asks ring before written one stands judged gives.
    let p = err_from_is_err_and c'.from_residual-in_err-tell.result c'.from_residual-in_err-tell.ensures.1 in
    let frame = take (length c'.deref.result.now - c'.args.start) (drop c'.args.start c'.deref.result.now) in
    let judged_so = subst (λ (f : List ℕ). IsJudged ring one c'.args.packet.head c'.args.kind f) (rest-is c'.deref.result.now c'.args.packet.octets.items c'.args.start c'.deref.ensures.value) judged in
    let told = c'.in_err-tell.ensures.tells ring before one stands.keeps
    (alone-found ring before one c'.args.packet.head c'.args.kind frame judged_so gives)
    (alone-begun c'.args.self.now.asks ring before one c'.args.packet.head c'.args.kind frame c'.args.auditor.now _ judged_so stands.keeps c'.in_ok-line.ensures) in
    rw (p.1, p.2) (alone-stops asks ring before one written c'.args.auditor.now c'.args.self.now stands
    c'.in_err-tell.field-0.0 c'.tell.new.auditor (record c'.args.self.now { text = c'.tell.new.text }) c'.tell.new.text.items
    (c.K.Sink.held c'.args.sink.now) refl told)

pub returns-clause-settles : goal.returns-clause-settles
returns-clause-settles c c' = λ asks ring before written one stands judged gives.
    let frame = take (length c'.deref.result.now - c'.args.start) (drop c'.args.start c'.deref.result.now) in
    let judged_so = subst (λ (f : List ℕ). IsJudged ring one c'.args.packet.head c'.args.kind f) (rest-is c'.deref.result.now c'.args.packet.octets.items c'.args.start c'.deref.ensures.value) judged in
    let told = c'.in_ok-tell.ensures.tells ring before one stands.keeps
    (alone-found ring before one c'.args.packet.head c'.args.kind frame judged_so gives)
    (alone-begun c'.args.self.now.asks ring before one c'.args.packet.head c'.args.kind frame c'.args.auditor.now _ judged_so stands.keeps c'.in_ok-line.ensures) in
    alone-writes asks ring before one written c'.args.auditor.now c'.args.self.now stands c'.tell.new.auditor c'.write.new.self
    c'.tell.new.text.items (c.K.Sink.held c'.args.sink.now) (c.K.Sink.held c'.write.new.sink) c'.write.result told
    c'.write.ensures.writes c'.write.ensures.asks c'.write.ensures.waiting c'.write.ensures.empty
