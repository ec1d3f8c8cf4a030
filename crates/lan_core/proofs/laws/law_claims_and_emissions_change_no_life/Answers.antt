use Rattle.lan_core.proofs.LivesUnchanged.{claims-change-none, emissions-change-none}
use Rattle.lan_core.proofs.laws.law_claims_and_emissions_change_no_life.Goals as goal

pub returns-clause-claim : goal.returns-clause-claim
returns-clause-claim c = claims-change-none

pub returns-clause-emission : goal.returns-clause-emission
returns-clause-emission c = emissions-change-none
