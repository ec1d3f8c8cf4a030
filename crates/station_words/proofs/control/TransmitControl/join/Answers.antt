use Rattle.std.proofs.Common.{sym, ap, subst}
use Rattle.association_slots.specs.Learned.{Learned}
use Rattle.association_slots.specs.Views.{ControlAt}
use Rattle.station_words.specs.Telling.{KeepUp}
use Rattle.station_words.proofs.KeepingUp.{up-told}
use Rattle.station_words.proofs.control.TransmitControl.join.Goals as goal

pub returns-clause-keeps_up : goal.returns-clause-keeps_up
returns-clause-keeps_up c = λ a t.
    let view = ap (λ (v : ControlAt). v.view) c.tell.ensures.view in
    subst (KeepUp a) (sym view)
    (up-told c.self.inside.control.view c.self.inside.now _ c.self.invariant a (subst (λ (v : ControlAt). KeepUp a v.view) (sym c.self.view_is) t) c.args.seat.view (subst Learned view c.tell.ensures.learned))
