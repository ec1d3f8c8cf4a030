use Rattle.std.proofs.Common.{[], ◌∷◌}
use Rattle.std.specs.Prelude.{codes, decimal}
use Rattle.trace_text.proofs.Public.{on_err, then_more, then_grew}
use Rattle.capture_file.specs.Describing.{packet_words}
use Rattle.capture_file.proofs.Lines.{lined}
use Rattle.capture_file.proofs.describing.put_line.Goals as goal

pub returns-clause-ok : goal.returns-clause-ok
returns-clause-ok c =
    lined _ _ _ _ _ (codes "packet") (decimal c.args.number ∷ []) (packet_words c.args.octets.now)
    c.in_ok-extend_from_slice.ensures.items (rw c.from.ensures at c.in_ok-put_words.ensures.ok)
    c.in_ok-put_packet.ensures.ok c.in_ok-push.ensures.items

pub returns-in_err-put_words-clause-err : goal.returns-in_err-put_words-clause-err
returns-in_err-put_words-clause-err c =
    on_err _ (then_grew _ _ _ (_, c.in_ok-extend_from_slice.ensures.items) c.in_err-put_words.ensures.err)

pub returns-in_err-put_packet-clause-err : goal.returns-in_err-put_packet-clause-err
returns-in_err-put_packet-clause-err c =
    on_err _ (then_grew _ _ _
    (then_more _ _ _ _ (_, c.in_ok-extend_from_slice.ensures.items) c.in_ok-put_words.ensures.ok)
    c.in_err-put_packet.ensures.err)
