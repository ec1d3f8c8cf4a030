use Rattle.std.proofs.Common.{subst}
use Rattle.transcript_reader.specs.declared.group.Group.TheVariants.{First}
use Rattle.transcript_reader.specs.Facts.{Names}
use Rattle.transcript_reader.specs.inside.Seeing.{IsRead}
use Rattle.transcript_reader.proofs.Runs.{IsRun, first-read, with_first}
use Rattle.transcript_reader.proofs.readers.Readers.read_first.Goals as goal

pub returns : goal.returns
returns c =
    let old : Names = record { first = c.self.inside.first; second = c.self.inside.second } in
    let after = c.line-fact.new.self in
    let run : IsRun old.first after c.args.text.now c.line-fact.result = record {
      read = c.line-fact.ensures.read;
      found = c.line-fact.ensures.found;
      unread = c.line-fact.ensures.unread;
      memory = c.line-fact.ensures.memory;
      frames = c.line-fact.ensures.frames;
      kept = c.line-fact.ensures.kept;
    } in
    subst (λ (names : Names). IsRead First names c.args.text.now (with_first old after) c.line-fact.result)
    c.self.view_is (first-read old after c.args.text.now c.line-fact.result c.names.ensures.few run)
