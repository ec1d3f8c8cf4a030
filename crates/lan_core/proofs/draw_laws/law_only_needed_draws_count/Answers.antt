use Rattle.lan_core.proofs.DrawsShown.{needed-draws-count}
use Rattle.lan_core.proofs.draw_laws.law_only_needed_draws_count.Goals as goal

pub returns : goal.returns
returns c = needed-draws-count
