use Rattle.std.proofs.Common.{rules, arith, ℕ, ◌≡◌, ◌≢◌, ◌≤◌, true, false, ap, ◌∙◌, sym, subst}
use Rattle.atomic_table.specs.Seated.{TableId}
use Rattle.association_slots.specs.Words.{an_of, next_of}
use Rattle.association_slots.specs.Learned.{IsNext}
use Rattle.lan_base.specs.declared.association_number.AssociationNumber.{AssociationNumber}
use Rattle.association_slots.proofs.SlotNumbers.{an_back}
use Rattle.association_slots.specs.Views.{ControlAt, control_of, slot, current}
use Rattle.association_slots.specs.declared.view.ControlView.{ControlView}
use Rattle.atomic_table.specs.Table.{Me}
use Rattle.association_slots.specs.declared.view.View.{View}
use Rattle.association_slots.proofs.Keeping.{low_set}
use Rattle.association_slots.proofs.ControlKeeps.{shuts_at}
use Rattle.association_slots.proofs.control.Control.shut.Goals as goal

pub fetch_or-word-requires : goal.fetch_or-word-requires
fetch_or-word-requires c = let is = ap (λ (v : ControlAt). v.view) c.self.view_is in let here = ap (λ (v : ControlAt). v.table) c.self.view_is ∙ (c.requires.here ∙ sym c.shared.ensures) in (
  here,
  omega (arith, c.from.ensures, c.number.ensures, c.self.invariant.limit_is.2, ap (λ (t : TableId). t.words) here),
  shuts_at _ _ _ c.args.an _ (c.from.ensures ∙ c.number.ensures.value) (ap (λ m. m.0) c.self.invariant.is) (subst (λ (d : ControlView). (slot d c.args.an).shut ≡ false) (sym is) c.requires.open)
      (subst (λ (d : ControlView). (current d).present ≡ true → (current d).an ≢ c.args.an) (sym is) c.requires.away),
)

pub invariant_of-self : goal.invariant_of-self
invariant_of-self c = record {
  is = search rules;
  first_is = search rules;
  limit_is = search rules;
  given_is = search rules;
  slots_low = λ an. subst (λ (m : Me ℕ View). (slot (control_of m.0) an).epoch ≤ c.self.inside.given) (sym c.fetch_or-word.ensures.2.0) (low_set c.self.inside.given (control_of c.self.inside.place.me.0).slots (an_of c.from.result) _ (c.self.invariant.slots_low (an_of c.from.result)) c.self.invariant.slots_low an);
  last_is = search rules;
  out_is = search rules;
  over_is = search rules;
}

pub returns-clause-next : goal.returns-clause-next
returns-clause-next c =
    let C = control_of c.self.inside.place.me.0 in let an = c.args.an in let at = ap an_of (c.from.ensures ∙ c.number.ensures.value) ∙ an_back an in
    subst (λ (d : ControlView). IsNext d an (slot d an).epoch c.next_of.result) (ap (λ (v : ControlAt). v.view) c.self.view_is)
    (subst (λ (n : ℕ). IsNext C an (slot C an).epoch n) (sym c.next_of.ensures) (subst (λ (j : AssociationNumber). IsNext C j (slot C j).epoch (next_of c.fetch_or-word.result)) at c.fetch_or-word.ensures.2.1.1))
