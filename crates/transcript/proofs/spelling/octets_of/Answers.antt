use Rattle.std.proofs.Common.{refl, sym, ◌∙◌, inr}
use Rattle.transcript.proofs.Pairs.{decodes, spelled_some}
use Rattle.transcript.proofs.spelling.octets_of.Goals as goal

pub decoded-requires : goal.decoded-requires
decoded-requires c = decodes c.args.word.now (sym c.is_pairs.ensures ∙ c.if-not-is_pairs.false)

pub returns-in-Err : goal.returns-in-Err
returns-in-Err c = inr (refl, spelled_some c.args.word.now (sym c.is_pairs.ensures ∙ c.if-not-is_pairs.false))
