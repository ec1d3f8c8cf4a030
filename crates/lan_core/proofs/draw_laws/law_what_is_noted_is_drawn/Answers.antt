use Rattle.std.proofs.Common.{Some, None, refl}
use Rattle.lan_core.proofs.RestartGoesOn.{mi-noted}
use Rattle.lan_core.proofs.TickGoesOn.{tick-noted}
use Rattle.lan_core.proofs.draw_laws.law_what_is_noted_is_drawn.Goals as goal

pub returns-clause-mi : goal.returns-clause-mi
returns-clause-mi c = mi-noted

pub returns-clause-sak : goal.returns-clause-sak
returns-clause-sak c = λ suite r old new x sak are none is noted.
    tick-noted suite r old new x are none (Some sak) is noted

pub returns-clause-none : goal.returns-clause-none
returns-clause-none c = λ suite r drawn x are none is.
    tick-noted suite r drawn drawn x are none None is refl
