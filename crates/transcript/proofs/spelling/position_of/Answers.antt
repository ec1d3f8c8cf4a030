use Rattle.std.proofs.Common.{rules, tests, ◌∙◌}
use Rattle.std.specs.Prelude.{nat_lt, length}
use Rattle.std.proofs.lemmas.Iterator.{YieldsList-from_slice}
use Rattle.std.proofs.lemmas.Iterator.Search.{position_from_yields_List}
use Rattle.trace_text.specs.Words.{is_word}
use Rattle.transcript.specs.inside.Reading.{place_of}
use Rattle.transcript.proofs.Said.{as_kept}
use Rattle.transcript.proofs.spelling.position_of.Goals as goal

pub returns : goal.returns
returns c =
    let names = c.args.names.now in
    let word = c.args.word.now in
    position_from_yields_List (λ name. is_word name word) _ _ _ c.position.ensures.ran (YieldsList-from_slice names cc) (λ x b q k. search (rules, tests))
    ∙ as_kept (nat_lt (place_of names word) (length names)) (place_of names word)
