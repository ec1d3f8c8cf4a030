use Rattle.std.proofs.Common.{List, sym, subst}
use Rattle.association_slots.specs.Views.{ControlAt}
use Rattle.station_words.specs.Ties.{HaveKeptUp}
use Rattle.lan_schedule.proofs.words.Words.seat.Goals as goal

pub returns-clause-keeps_up : goal.returns-clause-keeps_up
returns-clause-keeps_up c = λ settings r up.
    c.seat.ensures.keeps_up settings r
    (subst (λ (cs : List ControlAt). HaveKeptUp settings r cs) (sym c.self.view_is) up)
