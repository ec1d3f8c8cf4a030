use Rattle.std.proofs.Common.{◌≡◌, ap, subst}
use Rattle.association_slots.specs.Views.{In, SeatAt}
use Rattle.association_slots.specs.declared.view.Mark.{Mark}
use Rattle.association_slots.specs.declared.view.SeatView.{SeatView}
use Rattle.association_slots.proofs.worker_seat.WorkerSeat.into_place.Goals as goal

pub returns-clause-own : goal.returns-clause-own
returns-clause-own c = subst (λ (v : SeatView). (m : Mark) → In m v.over → m.seat ≡ v.number) (ap (λ (s : SeatAt). s.view) c.self.view_is) c.self.invariant.own_over
