use Rattle.std.proofs.Common.{rules, tests, ap, ◌∙◌}
use Rattle.std.specs.Prelude.{not, length}
use Rattle.std.specs.Option.{unwrap_or}
use Rattle.std.proofs.lemmas.Iterator.{YieldsList-from_slice}
use Rattle.std.proofs.lemmas.Iterator.Search.{position_from_yields_List}
use Rattle.trace_text.specs.Words.{is_blank}
use Rattle.trace_text.proofs.Taking.{counted, within}
use Rattle.trace_text.proofs.words.blank_count.Goals as goal

pub returns : goal.returns
returns c =
    let line = c.args.line.now in
    let place = position_from_yields_List (λ octet. not (is_blank octet)) _ _ _ c.position.ensures.ran (YieldsList-from_slice line cc) (λ x b q k. search (rules, tests)) in
    let count = c.unwrap_or.ensures ∙ ap (λ o. unwrap_or o (length line)) place ∙ counted (λ octet. not (is_blank octet)) line in
    record { count = count; within = within (λ octet. not (is_blank octet)) line _ count }
