use Rattle.std.proofs.Common.{◌∙◌, ◌∷◌, ◌++◌}
use Rattle.std.specs.Prelude.{codes, decimal}
use Rattle.capture_file.specs.Describing.{packet_words}
use Rattle.trace_text.specs.Words.{spaced}
use Rattle.audit_report.specs.Packets.{begun_line}
use Rattle.audit_report.proofs.Appending.{feed_last, without_last}
use Rattle.audit_report.proofs.packets.begin_described.Goals as goal

pub returns : goal.returns
returns c =
    let words = packet_words c.args.frame.now in
    let old = c.args.into.now.items in
    let it = c.describe.new.into in
    without_last (old ++ begun_line c.args.packet words) it.items c.pop.new.self.items it.len 10
    (c.in_ok-describe.ensures.ok ∙ feed_last old (codes "packet") (spaced (decimal c.args.packet ∷ words)))
    it.ok.0 c.pop.ensures.rest
