use Rattle.packet_verdicts.proofs.Tagged.{tagged}
use Rattle.packet_verdicts.proofs.laws.law_tags_before_the_frame.Goals as goal

pub returns : goal.returns
returns c addresses behind packet tags is = tagged addresses behind packet tags is
