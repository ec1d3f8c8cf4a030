use Rattle.std.proofs.Common.{sym, subst}
use Rattle.rollover_notes.specs.Standing.{KeptRollovers, StandsFor}
use Rattle.rollover_notes.proofs.Listing.{listed}
use Rattle.rollover_notes.proofs.Views.{kept_of}
use Rattle.rollover_notes.proofs.Results.{if_ok}
use Rattle.rollover_notes.proofs.notes.RolloverNotes.unready.Goals as goal

pub returns : goal.returns
returns c = λ h stands.
    let old = kept_of c.self.inside in
    let stood : StandsFor h old = subst (λ (k : KeptRollovers). StandsFor h k) (sym c.self.view_is) stands in
    if_ok c.list_unready.result (λ us list. listed h old us.items stood list) c.list_unready.ensures
