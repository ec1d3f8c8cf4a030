use Rattle.std.proofs.Common.{rules, arith, ℕ, ◌+◌, ◌-◌, ◌++◌, get_or, set, ◌≡◌, ◌<◌, ap, ◌∙◌, sym, subst}
use Rattle.atomic_table.specs.Seated.{TableId}
use Rattle.atomic_table.specs.Table.{Me}
use Rattle.association_slots.specs.Views.{In, ControlAt, control_of, seat_of, greatest, of_seat}
use Rattle.association_slots.proofs.Keeping.{overshot_told}
use Rattle.association_slots.specs.declared.view.View.{View}
use Rattle.association_slots.specs.declared.view.View.TheVariants.{Control, Seat}
use Rattle.association_slots.proofs.ControlKeeps.{learns}
use Rattle.association_slots.proofs.SeatsKeep.{joins}
use Rattle.association_slots.proofs.control.Control.join.Goals as goal

pub join_seat-requires : goal.join_seat-requires
join_seat-requires c = let here = ap (λ (v : ControlAt). v.table) c.self.view_is ∙ (c.requires.here.0 ∙ sym c.shared.ensures) in let p = c.into_place-place.ensures.place in let seat = ap (λ m. m.0) p.1 in (
  here,
  p.0 ∙ (c.requires.here.1 ∙ sym c.shared.ensures),
  ap (λ m. m.1) p.1,
  omega (arith, c.self.invariant.limit_is.2, ap (λ (t : TableId). t.words) here),
  joins _ _ _ _ (ap (λ m. m.0) c.self.invariant.is) (seat ∙ ap (λ (v : View). Seat (seat_of v)) (sym seat)),
)

pub load-requires : goal.load-requires
load-requires c = let here = ap (λ (v : ControlAt). v.table) c.self.view_is ∙ (c.requires.here.0 ∙ sym c.shared-2.ensures) in let e = ap (λ m. m.0) c.join_seat.ensures.2 in
    (c.join_seat.ensures.0 ∙ here, omega (arith, c.self.invariant.limit_is.2, ap (λ (t : TableId). t.words) here), learns _ _ _ (e ∙ sym (ap (λ (v : View). Control (control_of v)) e)))

pub invariant_of-self : goal.invariant_of-self
invariant_of-self c = record {
  is = search rules;
  first_is = search rules;
  limit_is = search rules;
  given_is = search rules;
  slots_low = search rules;
  last_is = search rules;
  out_is = search rules;
  over_is =
      let p = c.into_place-place.ensures.place.1 in let num = c.from-number.ensures ∙ c.number.ensures.number in
      let marks = ap (λ (m : Me ℕ View). (seat_of m.0).over) p in let range = c.number.ensures.range in
      subst (λ (m : Me ℕ View). (i : ℕ) → i < 8 → get_or (set c.self.inside.overshot (c.from-number.result - 1) c.max.result) i 0 ≡ greatest (of_seat (i + 1) (control_of m.0).told_over)) (sym (c.load.ensures.2.0 ∙ c.join_seat.ensures.2))
      (subst (λ (x : ℕ). (i : ℕ) → i < 8 → get_or (set c.self.inside.overshot (c.from-number.result - 1) x) i 0 ≡ greatest (of_seat (i + 1) ((seat_of c.into_place-place.result.me.0).over ++ (control_of c.self.inside.place.me.0).told_over))) (sym c.max.ensures)
      (overshot_told c.self.inside.overshot c.from-number.result c.overshot-overshot.result (seat_of c.into_place-place.result.me.0).over (control_of c.self.inside.place.me.0).told_over
      c.self.told.1 (omega (arith, c.from-number.ensures, range)) (omega (arith, c.from-number.ensures, range)) (λ m i. c.into_place-place.ensures.own m (subst (In m) marks i) ∙ sym num) (c.overshot-overshot.ensures ∙ ap greatest (sym marks)) c.self.invariant.over_is));
}
