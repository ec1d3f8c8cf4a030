use Rattle.std.proofs.Common.{◌∙◌}
use Rattle.trace_text.specs.Words.{is_blank}
use Rattle.trace_text.proofs.Taking.{first_place, within}
use Rattle.trace_text.proofs.words.word_length.Goals as goal

pub returns : goal.returns
returns c =
    let count = c.unwrap_or.ensures ∙ first_place is_blank c.args.line.now c.memchr2.result c.memchr2.ensures in
    record { count = count; within = within is_blank c.args.line.now _ count }
