use Rattle.std.proofs.Common.{sym, ◌∙◌}
use Rattle.transcript.proofs.NamesRead.{unnamed}
use Rattle.transcript.proofs.reader.name_in.Goals as goal

pub returns-then-not-begins_as_life-clause-value : goal.returns-then-not-begins_as_life-clause-value
returns-then-not-begins_as_life-clause-value c =
    unnamed c.args.line.now (sym c.begins_as_life.ensures ∙ c.if-not-begins_as_life.true)
