use Rattle.std.proofs.Common.{◌∙◌, ℕ, sym, ap, subst}
use Rattle.std.specs.Prelude.{Option}
use Rattle.std.specs.Option.{option_or}
use Rattle.use_notes.specs.Frames.{frames_of}
use Rattle.use_notes.specs.Standing.{Notes, StandsFor}
use Rattle.use_notes.proofs.Putting.{noted, own-order}
use Rattle.use_notes.proofs.notes.UseNotes.note.Goals as goal

pub returns-clause-noted : goal.returns-clause-noted
returns-clause-noted c = λ h stands order.
    let e = c.args.frame.now in
    let old : Notes = record { senders = c.self.inside.senders.entries; once = c.self.inside.once } in
    let new : Notes = record { senders = c.note_at.new.senders.entries; once = c.or-self-inside.result } in
    let stood : StandsFor h old = subst (λ (n : Notes). StandsFor h n) (sym c.self.view_is) stands in
    let p = c.in_ok-novelty.ensures.noted (frames_of e.key e.sci h) (stood.senders e.key e.sci) (own-order e h order) in (
      p.0,
      noted e h old new c.in_ok-novelty.novelty stood order p.0 p.1
          (c.or-self-inside.ensures ∙ ap (λ (o : Option (ℕ × ℕ)). option_or c.self.inside.once o) c.reuse_by.ensures),
    )
