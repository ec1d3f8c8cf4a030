use Rattle.std.proofs.Common.{◌∙◌}
use Rattle.capture_packets.proofs.Opened.{in-blocks, in-records}
use Rattle.capture_packets.proofs.Opens.{opens-by-blocks, opens-by-records}
use Rattle.std.proofs.Common.{Ok, ap, take}
use Rattle.capture_packets.proofs.reader.PacketReader.begin.Goals as goal

pub returns-in-Records-clause-begins : goal.returns-in-Records-clause-begins
returns-in-Records-clause-begins g c = λ limit text given file s visible known start head.
    opens-by-records limit text given file c.args.head c.in-Records.field-0 c.begin_records.new.self
    (g.S.Source.left c.begin_records.new.source) c.begin_records.result visible head c.in-Records.is
    (c.begin_records.ensures.start ∙ start) (c.begin_records.ensures.state known)
    (c.begin_records.ensures.begins limit text given file s visible
    (in-records file c.args.head c.in-Records.field-0 head c.in-Records.is))

pub returns-in-Blocks-clause-begins : goal.returns-in-Blocks-clause-begins
returns-in-Blocks-clause-begins g c = λ limit text given file s visible known start head.
    let b = in-blocks (take 24 file) c.args.head head c.in-Blocks.is in
    opens-by-blocks limit text given file c.args.head c.begin_blocks.new.self
    (g.S.Source.left c.begin_blocks.new.source) c.begin_blocks.result visible head c.in-Blocks.is
    (c.begin_blocks.ensures.start ∙ start)
    (c.begin_blocks.ensures.begins limit text given file s visible known start (head ∙ ap (λ h. Ok h) b.is))
