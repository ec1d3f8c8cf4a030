use Rattle.std.proofs.Common.{◌∙◌, List, sym, subst}
use Rattle.lan_base.specs.declared.name.Name.{Name}
use Rattle.transcript.specs.Rendering.{AreNames}
use Rattle.transcript_reader.specs.declared.group.Group.TheVariants.{Second}
use Rattle.transcript_reader.specs.Facts.{Names}
use Rattle.transcript_reader.specs.inside.Seeing.{IsRead, both}
use Rattle.transcript_reader.proofs.Runs.{IsKnown, IsRun, second-read, second-unread, with_second}
use Rattle.transcript_reader.proofs.readers.Readers.read_second.Goals as goal

pub returns-then-is_unread : goal.returns-then-is_unread
returns-then-is_unread c =
    let old : Names = record { first = c.self.inside.first; second = c.self.inside.second } in
    let named = subst AreNames (sym c.names.ensures.value) c.names.ensures.named in
    let known : IsKnown old.first c.args.text.now c.read_fact-here.result =
    subst (λ (ns : List Name). IsKnown ns c.args.text.now c.read_fact-here.result) c.names.ensures.value (record {
      read = c.read_fact-here.ensures.read;
      within = c.read_fact-here.ensures.place;
      found = c.read_fact-here.ensures.found named;
      unread = c.read_fact-here.ensures.unread named;
      memory = c.read_fact-here.ensures.memory;
      frames = c.read_fact-here.ensures.frames named;
    }) in
    subst (λ (names : Names). IsRead Second names c.args.text.now names c.read_fact-here.result) c.self.view_is
    (second-unread old c.args.text.now c.read_fact-here.result known (sym c.is_unread.ensures ∙ c.if-is_unread.true))

pub returns : goal.returns
returns c =
    let old : Names = record { first = c.self.inside.first; second = c.self.inside.second } in
    let after = c.line-there.new.self in
    let named = subst AreNames (sym c.names.ensures.value) c.names.ensures.named in
    let known : IsKnown old.first c.args.text.now c.read_fact-here.result =
    subst (λ (ns : List Name). IsKnown ns c.args.text.now c.read_fact-here.result) c.names.ensures.value (record {
      read = c.read_fact-here.ensures.read;
      within = c.read_fact-here.ensures.place;
      found = c.read_fact-here.ensures.found named;
      unread = c.read_fact-here.ensures.unread named;
      memory = c.read_fact-here.ensures.memory;
      frames = c.read_fact-here.ensures.frames named;
    }) in
    let run : IsRun old.second after c.args.text.now c.line-there.result = record {
      read = c.line-there.ensures.read;
      found = c.line-there.ensures.found;
      unread = c.line-there.ensures.unread;
      memory = c.line-there.ensures.memory;
      frames = c.line-there.ensures.frames;
      kept = c.line-there.ensures.kept;
    } in
    rw c.both.ensures
    (subst (λ (names : Names). IsRead Second names c.args.text.now (with_second old after) (both c.read_fact-here.result c.line-there.result))
    c.self.view_is
    (second-read old after c.args.text.now c.read_fact-here.result c.line-there.result c.names.ensures.few known
    (sym c.is_unread.ensures ∙ c.if-is_unread.false) run))
