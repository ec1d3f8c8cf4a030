use Rattle.std.proofs.Common.{sym, ap, ◌∙◌}
use Rattle.std.specs.Result.{result_ok}
use Rattle.transcript.proofs.Pairs.{sized}
use Rattle.transcript.proofs.spelling.array_of.Goals as goal

pub returns-then-is_pairs : goal.returns-then-is_pairs
returns-then-is_pairs g c =
    c.ok.ensures.value ∙ ap result_ok c.from_hex.ensures ∙ sized c.args.word.now g.row.N (sym c.is_pairs.ensures ∙ c.if-is_pairs.true)
