use Rattle.std.proofs.Common.{sym, subst}
use Rattle.rollover_notes.specs.Standing.{KeptRollovers, StandsFor}
use Rattle.rollover_notes.proofs.Steps.{spoke}
use Rattle.rollover_notes.proofs.Views.{kept_of}
use Rattle.rollover_notes.proofs.Results.{on_ok}
use Rattle.rollover_notes.proofs.notes.RolloverNotes.speak.Goals as goal

pub returns : goal.returns
returns c = λ h stands.
    let old = kept_of c.self.inside in
    let stood : StandsFor h old = subst (λ (k : KeptRollovers). StandsFor h k) (sym c.self.view_is) stands in
    let reports = c.take.new.self in
    let speakers = c.take-2.new.self in
    on_ok c.take-2.result
    (λ more. spoke h old stood (record { mkpdu = c.args.mkpdu.now; nanos = c.args.nanos; said = c.args.said.now })
    reports.packets.entries reports.times.entries speakers.said.entries speakers.last.entries
    c.in_ok-take.ensures.packets c.in_ok-take.ensures.times more.said more.last)
    c.take-2.ensures
