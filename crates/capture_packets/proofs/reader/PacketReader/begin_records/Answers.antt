use Rattle.std.proofs.Common.{◌++◌, take}
use Rattle.std.proofs.lemmas.Result.{err_from_is_err_and}
use Rattle.capture_packets.proofs.Opened.{passed-err, passed-head}
use Rattle.capture_packets.proofs.Taken.{got-none}
use Rattle.capture_packets.proofs.reader.PacketReader.begin_records.Goals as goal

pub returns-in_err-pass-clause-begins : goal.returns-in_err-pass-clause-begins
returns-in_err-pass-clause-begins g c = λ limit text given file s visible long.
    let g0 = got-none limit text given file _ _ s in
    let t = c.in_err-pass.ensures.passes limit text (given ++ take 0 file) g0.stands in
    let p = err_from_is_err_and c.from_residual.result c.from_residual.ensures.1 in
    rw (p.1, p.2) (passed-err limit text given file c.pass.new.self c.pass.new.self _ c.in_err-pass.field-0.0
    visible long t)

pub returns-clause-begins : goal.returns-clause-begins
returns-clause-begins g c = λ limit text given file s visible long.
    let g0 = got-none limit text given file _ _ s in
    let t = c.in_ok-pass.ensures.passes limit text (given ++ take 0 file) g0.stands in
    passed-head limit text given file c.args.self.now.supply c.pass.new.self _ _ visible g0 t
