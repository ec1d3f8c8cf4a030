use Rattle.std.proofs.Common.{rules, tests, ap, ◌∙◌}
use Rattle.std.specs.Prelude.{length}
use Rattle.std.specs.Option.{unwrap_or}
use Rattle.std.proofs.lemmas.Iterator.{YieldsList-from_slice}
use Rattle.std.proofs.lemmas.Iterator.Search.{position_from_yields_List}
use Rattle.trace_text.proofs.Public.{counted, within}
use Rattle.transcript.specs.inside.Reading.{is_space}
use Rattle.transcript.proofs.words.near_length.Goals as goal

pub returns : goal.returns
returns c =
    let text = c.args.text.now in
    let place = position_from_yields_List is_space _ _ _ c.position.ensures.ran (YieldsList-from_slice text cc) (λ x b q k. search (rules, tests)) in
    let count = c.unwrap_or.ensures ∙ ap (λ o. unwrap_or o (length text)) place ∙ counted is_space text in
    record { count = count; within = within is_space text _ count }
