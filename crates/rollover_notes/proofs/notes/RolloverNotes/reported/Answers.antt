use Rattle.std.proofs.Common.{sym, subst}
use Rattle.rollover_notes.specs.Standing.{KeptRollovers, StandsFor}
use Rattle.rollover_notes.proofs.ReportListing.{reports-listed}
use Rattle.rollover_notes.proofs.Views.{kept_of}
use Rattle.rollover_notes.proofs.Results.{if_ok}
use Rattle.rollover_notes.proofs.notes.RolloverNotes.reported.Goals as goal

pub returns : goal.returns
returns c = λ h stands.
    let old = kept_of c.self.inside in
    let stood : StandsFor h old = subst (λ (k : KeptRollovers). StandsFor h k) (sym c.self.view_is) stands in
    if_ok c.list_reports.result (λ rs list. reports-listed h old rs.items stood list) c.list_reports.ensures
