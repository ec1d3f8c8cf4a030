use Rattle.std.proofs.Common.{sym, subst}
use Rattle.rollover_notes.specs.Standing.{KeptRollovers, StandsFor}
use Rattle.rollover_notes.proofs.Steps.{used}
use Rattle.rollover_notes.proofs.Telling.{counts-told, late-told}
use Rattle.rollover_notes.proofs.Views.{kept_of}
use Rattle.rollover_notes.proofs.Results.{on_ok}
use Rattle.rollover_notes.proofs.notes.RolloverNotes.see.Goals as goal

pub returns : goal.returns
returns c = λ h stands.
    let old = kept_of c.self.inside in
    let frame = c.args.frame.now in
    let stood : StandsFor h old = subst (λ (k : KeptRollovers). StandsFor h k) (sym c.self.view_is) stands in
    let counts = c.tell.new.counts.entries in
    let told = c.in_ok-is_late.ensures in
    on_ok c.count_late.result
    (λ more. used h old stood frame c.in_ok-is_late.is_late counts c.count_late.new.counts.entries
    (counts-told h old stood frame old.unready counts c.in_ok-is_late.is_late told stood.unready)
    (late-told h old stood frame old.unready counts c.in_ok-is_late.is_late told stood.unready)
    more)
    c.count_late.ensures
