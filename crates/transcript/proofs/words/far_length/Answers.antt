use Rattle.std.proofs.Common.{◌∙◌}
use Rattle.trace_text.proofs.Public.{first_place, within}
use Rattle.transcript.specs.inside.Reading.{is_space}
use Rattle.transcript.proofs.words.far_length.Goals as goal

pub returns : goal.returns
returns c =
    let count = c.unwrap_or.ensures ∙ first_place is_space c.args.text.now c.memchr.result c.memchr.ensures in
    record { count = count; within = within is_space c.args.text.now _ count }
