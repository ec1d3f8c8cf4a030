use Rattle.std.proofs.Common.{arith, ℕ, get_or, ◌≡◌, ◌<◌, ◌≤◌, ap, ◌∙◌, sym, subst}
use Rattle.atomic_table.specs.Seated.{TableId}
use Rattle.association_slots.specs.Views.{ControlAt, control_of, seat_of}
use Rattle.association_slots.specs.declared.view.ControlView.{ControlView}
use Rattle.association_slots.specs.Views.{In, free, free_number, greatest}
use Rattle.atomic_table.specs.Table.{Me}
use Rattle.association_slots.specs.Steps.{new_seat, seated}
use Rattle.association_slots.specs.Learned.{Learned}
use Rattle.association_slots.proofs.Learning.{learned_out}
use Rattle.association_slots.specs.declared.view.Mark.{Mark}
use Rattle.association_slots.specs.declared.view.SeatView.{SeatView}
use Rattle.association_slots.specs.declared.view.View.{View}
use Rattle.association_slots.specs.declared.view.View.TheVariants.{Control}
use Rattle.association_slots.proofs.ControlKeeps.{learns}
use Rattle.association_slots.proofs.SeatsKeep.{splits, in_of_seat}
use Rattle.association_slots.proofs.control.Control.seat.Goals as goal

pub load-requires : goal.load-requires
load-requires c = let here = ap (λ (v : ControlAt). v.table) c.self.view_is ∙ (c.requires.here ∙ sym c.shared.ensures) in
    (here, omega (arith, c.self.invariant.limit_is.2, ap (λ (t : TableId). t.words) here), learns _ _ _ (ap (λ m. m.0) c.self.invariant.is))

pub split_seat-place-requires : goal.split_seat-place-requires
split_seat-place-requires c =
    let is = ap (λ (v : ControlAt). v.view) c.self.view_is in let here = ap (λ (v : ControlAt). v.table) c.self.view_is ∙ (c.requires.here ∙ sym c.shared-2.ensures) in
    let same = ap (λ m. m.0) c.load.ensures.2.0 in let was = ap (λ m. m.0) c.self.invariant.is in
    (c.load.ensures.0 ∙ here, omega (arith, c.self.invariant.limit_is.2, ap (λ (t : TableId). t.words) here), splits _ _ (same ∙ (was ∙ ap (λ (v : View). Control (control_of v)) (sym same))) (subst (λ (v : View). free (control_of v).out < 8) (sym same) (let room = subst (λ (d : ControlView). free_number d ≤ 8) (sym is) c.requires.room in omega (arith, room))))

-- the new seat's view
new_view : (c : goal.After-new-arg-1) → seat_of c.split_seat-place.result.me.0 ≡ new_seat (control_of c.self.inside.place.me.0)
new_view c = ap (λ (m : Me ℕ View). seat_of m.0) c.split_seat-place.ensures.4 ∙ ap (λ (m : Me ℕ View). new_seat (control_of m.0)) c.load.ensures.2.0

pub new-requires-clause-overshot : goal.new-requires-clause-overshot
new-requires-clause-overshot c =
    let is = ap (λ (v : ControlAt). v.view) c.self.view_is in let here = c.free_place-free.ensures ∙ ap free c.self.invariant.out_is in
    let room = subst (λ (d : ControlView). free_number d ≤ 8) (sym is) c.requires.room in let view = new_view c in (
      ap (λ (i : ℕ). get_or c.self.inside.overshot i 0) here ∙ (c.self.invariant.over_is (free (control_of c.self.inside.place.me.0).out) (omega (arith, room)) ∙ ap (λ (v : SeatView). greatest v.over) (sym view)),
      subst (λ (v : SeatView). (m : Mark) → In m v.over → m.seat ≡ v.number) (sym view) (λ m i. (in_of_seat (free_number (control_of c.self.inside.place.me.0)) m (control_of c.self.inside.place.me.0).told_over i).1),
    )

pub returns-clause-before : goal.returns-clause-before
returns-clause-before c = subst Learned (ap (λ (v : ControlAt). v.view) c.self.view_is) c.load.ensures.2.1

pub returns-clause-learned : goal.returns-clause-learned
returns-clause-learned c =
    let room = subst (λ (d : ControlView). free_number d ≤ 8) (sym (ap (λ (v : ControlAt). v.view) c.self.view_is)) c.requires.room in
    subst (λ (m : Me ℕ View). Learned (control_of m.0)) (sym c.split_seat-place.ensures.2) (subst (λ (m : Me ℕ View). Learned (seated (control_of m.0))) (sym c.load.ensures.2.0) (learned_out (control_of c.self.inside.place.me.0) (omega (arith, room)) c.load.ensures.2.1))
