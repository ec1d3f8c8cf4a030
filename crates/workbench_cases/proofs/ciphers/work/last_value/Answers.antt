use Rattle.std.proofs.Common.{◌≡◌, add-one, refl}
use Rattle.aes_cmac.specs.Cmac.{cmac}
use Rattle.workbench_cases.specs.Work.{key, message_after}
use Rattle.workbench_cases.proofs.ciphers.work.last_value.Goals as goal

pub loop-done-preserved : goal.loop-done-preserved
loop-done-preserved c =
    let was = c.loop-done.invariant in
    let value : c.cmac-value.result ≡ cmac key (message_after c.loop-done._done) = cc in
    record {
      message = rw add-one (rw (was.message, value) refl);
      value = rw add-one value;
    }
