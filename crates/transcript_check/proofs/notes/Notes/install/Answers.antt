use Rattle.std.proofs.Common.{◌∙◌, Err, subst}
use Rattle.transcript_check.specs.declared.fault.CheckError.TheVariants.{Memory}
use Rattle.transcript_check.specs.Standing.{Maps, sak_at}
use Rattle.transcript_check.specs.inside.Steps.{Installs}
use Rattle.transcript_check.proofs.Undone.{install-undone}
use Rattle.transcript_check.proofs.notes.Notes.install.Goals as goal

pub returns-in-Err : goal.returns-in-Err
returns-in-Err c =
    let d = c.self.inside in
    let e = c.self-2.inside in
    let old : Maps = record { count = d.count; missed = d.missed; once = d.once; one_key = d.one_key; epochs = d.epochs; keys = d.keys.entries; narrow = d.narrow.entries; wide = d.wide.entries; aside = d.aside.entries } in
    let middle : Maps = record { count = e.count; missed = e.missed; once = e.once; one_key = e.one_key; epochs = e.epochs; keys = e.keys.entries; narrow = e.narrow.entries; wide = e.wide.entries; aside = e.aside.entries } in
    subst (λ (m : Maps). Installs c.args.number c.args.station c.args.epoch c.args.id c.args.named m (record middle { epochs = c.forget.new.self }) (sak_at m c.args.station c.args.epoch) (Err Memory)) c.self.view_is
    (install-undone c.args.number c.args.station c.args.epoch c.args.id c.args.named old middle c.install.new.self c.forget.new.self
    c.in_ok-install.field-0 c.in_ok-install.ensures (c.self-2.view_is ∙ c.in-Err.ensures.kept) c.forget.ensures)
