use Rattle.mka_station.proofs.Lasting.{tx-held, tx-none}
use Rattle.mka_station.proofs.laws.law_marks_what_transmits.Goals as goal

pub returns-clause-held : goal.returns-clause-held
returns-clause-held c = tx-held

pub returns-clause-none : goal.returns-clause-none
returns-clause-none c = tx-none
