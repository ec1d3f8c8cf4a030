use Rattle.capture_packets.proofs.WrittenRead.{blocks-read, classic-read}
use Rattle.capture_packets.proofs.laws.law_one_list.Goals as goal

pub returns-clause-classic : goal.returns-clause-classic
returns-clause-classic c = λ order parts packets w. classic-read order parts packets w

pub returns-clause-blocks : goal.returns-clause-blocks
returns-clause-blocks c = λ order parts packets w. blocks-read order parts packets w
