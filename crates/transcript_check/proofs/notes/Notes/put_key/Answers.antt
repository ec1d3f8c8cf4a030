use Rattle.std.proofs.Common.{◌∙◌, ap, subst}
use Rattle.transcript_check.specs.Standing.{Maps, sak_at}
use Rattle.transcript_check.specs.inside.Steps.{KeyIsPut}
use Rattle.transcript_check.proofs.Puts.{key_put}
use Rattle.transcript_check.proofs.notes.Notes.put_key.Goals as goal

pub returns-clause-put : goal.returns-clause-put
returns-clause-put c = λ sak there.
    let d = c.self.inside in
    let first = c.args.first in
    let old : Maps = record { count = d.count; missed = d.missed; once = d.once; one_key = d.one_key; epochs = d.epochs; keys = d.keys.entries; narrow = d.narrow.entries; wide = d.wide.entries; aside = d.aside.entries } in
    let new : Maps = record old { keys = c.insert.new.self.entries } in
    subst (λ (before : Maps). KeyIsPut first.number c.args.id (record { an = first.an; sak = sak }) before new) c.self.view_is
    (key_put first c.args.id sak old c.insert.new.self.entries (λ q. c.in_ok-insert.ensures.updates.0 q)
    c.in_ok-insert.ensures.updates.1
    (ap (λ (m : Maps). sak_at m first.station first.epoch) c.self.view_is ∙ there))
