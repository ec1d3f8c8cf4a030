use Rattle.std.proofs.Common.{sym, subst}
use Rattle.rollover_notes.specs.Standing.{KeptRollovers, StandsFor}
use Rattle.rollover_notes.proofs.Steps.{gave}
use Rattle.rollover_notes.proofs.Views.{kept_of}
use Rattle.rollover_notes.proofs.Results.{on_ok}
use Rattle.rollover_notes.proofs.notes.RolloverNotes.give.Goals as goal

pub returns : goal.returns
returns c = λ h stands.
    let old = kept_of c.self.inside in
    let stood : StandsFor h old = subst (λ (k : KeptRollovers). StandsFor h k) (sym c.self.view_is) stands in
    let new = c.give.new.self in
    on_ok c.give.result
    (λ put. gave h old stood c.args.group c.args.id c.args.key new.ids.entries new.groups.keys new.order.items
    put.ids put.groups put.order)
    c.give.ensures
