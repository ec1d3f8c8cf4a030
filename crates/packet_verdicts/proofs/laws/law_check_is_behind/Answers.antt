use Rattle.packet_verdicts.proofs.Behind.{check-behind}
use Rattle.packet_verdicts.proofs.laws.law_check_is_behind.Goals as goal

pub returns : goal.returns
returns c frame check a covered spells = check-behind frame check a covered spells
