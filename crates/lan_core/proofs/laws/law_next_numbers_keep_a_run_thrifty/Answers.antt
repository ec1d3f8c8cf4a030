use Rattle.lan_core.proofs.StaysThrifty.{stays-thrifty}
use Rattle.lan_core.proofs.laws.law_next_numbers_keep_a_run_thrifty.Goals as goal

pub returns : goal.returns
returns c = stays-thrifty
