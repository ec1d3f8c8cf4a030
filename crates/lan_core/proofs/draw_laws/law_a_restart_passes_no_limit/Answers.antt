use Rattle.lan_core.proofs.DrawsShown.{restart-is-within}
use Rattle.lan_core.proofs.draw_laws.law_a_restart_passes_no_limit.Goals as goal

pub returns : goal.returns
returns c = restart-is-within
