use Rattle.capture_audit.proofs.Seeing.{steady}
use Rattle.capture_audit.proofs.viewing.read_quietly.Goals as goal

pub returns-clause-unwritten : goal.returns-clause-unwritten
returns-clause-unwritten g c = λ is. steady (c.read_packets.ensures.write_fault.rose is)
