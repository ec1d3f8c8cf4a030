use Rattle.lan_core.proofs.DrawsShown.{mi-shown, sak-shown-by}
use Rattle.lan_core.proofs.draw_laws.law_what_an_event_draws.Goals as goal

pub returns-clause-mi : goal.returns-clause-mi
returns-clause-mi c = mi-shown

pub returns-clause-sak : goal.returns-clause-sak
returns-clause-sak c = sak-shown-by
