use Rattle.lan_core.proofs.DrawsShown.{tick-takes}
use Rattle.lan_core.proofs.draw_laws.law_a_tick_draws_one_key_or_nothing.Goals as goal

pub returns : goal.returns
returns c = tick-takes
