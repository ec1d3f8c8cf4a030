use Rattle.lan_schedule.proofs.Unspent.{never-says}
use Rattle.lan_schedule.proofs.laws.law_no_claim_is_exhausted.Goals as goal

pub returns : goal.returns
returns c w tidy = never-says w.run tidy.unspent
