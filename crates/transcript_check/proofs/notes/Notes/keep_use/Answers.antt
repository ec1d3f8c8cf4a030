use Rattle.std.proofs.Common.{◌∙◌, Some, ap, sym, subst}
use Rattle.aes_block.specs.declared.secret.Secret.{Secret}
use Rattle.transcript_reader.specs.Forms.{station_of}
use Rattle.transcript_check.specs.Standing.{Maps, IsBound, sak_at}
use Rattle.transcript_check.specs.inside.Steps.{UseIsKept}
use Rattle.transcript_check.proofs.Bound.{narrow_kept, wide_kept}
use Rattle.transcript_check.proofs.Puts.{if_ok}
use Rattle.transcript_check.proofs.notes.Notes.keep_use.Goals as goal

pub returns-in-S128-clause-line : goal.returns-in-S128-clause-line
returns-in-S128-clause-line c = λ b there.
    let d = c.self.inside in
    let claim = c.args.claim in
    let old : Maps = record { count = d.count; missed = d.missed; once = d.once; one_key = d.one_key; epochs = d.epochs; keys = d.keys.entries; narrow = d.narrow.entries; wide = d.wide.entries; aside = d.aside.entries } in
    let new : Maps = record old { narrow = c.keep_at.new.lines.entries; aside = c.keep_at.new.aside.entries } in
    if_ok c.keep_at.result
    (λ line step. subst (λ (before : Maps). UseIsKept claim.number (station_of claim.place) claim.pn c.args.sak.now before new line) c.self.view_is
    (subst (λ (sak : Secret). UseIsKept claim.number (station_of claim.place) claim.pn sak old new line) (sym c.in-S128.is)
    (narrow_kept claim.number claim.place claim.epoch claim.pn c.in-S128.octets old c.keep_at.new.lines.entries
    c.keep_at.new.aside.entries line (subst IsBound (sym c.self.view_is) b)
    (ap (λ (m : Maps). sak_at m claim.place claim.epoch) c.self.view_is ∙ there ∙ ap (λ (sak : Secret). Some sak) c.in-S128.is)
    step)))
    c.keep_at.ensures.line

pub returns-in-S256-clause-line : goal.returns-in-S256-clause-line
returns-in-S256-clause-line c = λ b there.
    let d = c.self.inside in
    let claim = c.args.claim in
    let old : Maps = record { count = d.count; missed = d.missed; once = d.once; one_key = d.one_key; epochs = d.epochs; keys = d.keys.entries; narrow = d.narrow.entries; wide = d.wide.entries; aside = d.aside.entries } in
    let new : Maps = record old { wide = c.keep_at-in-S256.new.lines.entries; aside = c.keep_at-in-S256.new.aside.entries } in
    if_ok c.keep_at-in-S256.result
    (λ line step. subst (λ (before : Maps). UseIsKept claim.number (station_of claim.place) claim.pn c.args.sak.now before new line) c.self.view_is
    (subst (λ (sak : Secret). UseIsKept claim.number (station_of claim.place) claim.pn sak old new line) (sym c.in-S256.is)
    (wide_kept claim.number claim.place claim.epoch claim.pn c.in-S256.octets old c.keep_at-in-S256.new.lines.entries
    c.keep_at-in-S256.new.aside.entries line (subst IsBound (sym c.self.view_is) b)
    (ap (λ (m : Maps). sak_at m claim.place claim.epoch) c.self.view_is ∙ there ∙ ap (λ (sak : Secret). Some sak) c.in-S256.is)
    step)))
    c.keep_at-in-S256.ensures.line
