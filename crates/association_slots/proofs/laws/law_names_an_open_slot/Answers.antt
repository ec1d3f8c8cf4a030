use Rattle.std.proofs.Common.{ap, sym, ◌∙◌}
use Rattle.lan_base.specs.declared.association_number.AssociationNumber.{AssociationNumber}
use Rattle.association_slots.specs.Views.{slot}
use Rattle.association_slots.specs.declared.view.Current.{Current}
use Rattle.association_slots.proofs.laws.law_names_an_open_slot.Goals as goal

pub returns : goal.returns
returns _ c ws vs a is =
    let shows = a.words.shows in let an = ap (λ (p : Current). p.an) shows in let n = a.settled.names_open (sym (ap (λ (p : Current). p.present) shows) ∙ is) in
    (a.words.shuts _ ∙ (ap (λ (k : AssociationNumber). (slot c k).shut) an ∙ n.0), a.words.epochs _ ∙ (ap (λ (k : AssociationNumber). (slot c k).epoch) an ∙ (n.1 ∙ sym (ap (λ (p : Current). p.epoch) shows))))
