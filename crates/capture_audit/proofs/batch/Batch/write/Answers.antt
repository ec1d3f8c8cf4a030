use Rattle.capture_audit.proofs.Writing.{part-written}
use Rattle.capture_audit.proofs.batch.Batch.write.Goals as goal

pub returns-in-Err-Failed-clause-writes : goal.returns-in-Err-Failed-clause-writes
returns-in-Err-Failed-clause-writes c c' =
    let value = c'.deref.ensures.value in
    part-written c'.deref.result.now c'.args.self.now.text.items _ _ (cc value) (rw c'.in-Err-Failed.is at c'.write_all-result.ensures.prefix)

pub returns-in-Err-Memory-clause-writes : goal.returns-in-Err-Memory-clause-writes
returns-in-Err-Memory-clause-writes c c' =
    let value = c'.deref.ensures.value in
    part-written c'.deref.result.now c'.args.self.now.text.items _ _ (cc value) (rw c'.in-Err-Memory.is at c'.write_all-result.ensures.prefix)
