use Rattle.std.proofs.Common.{ap, sym, ◌∙◌}
use Rattle.std.specs.Prelude.{◌&&◌, is_ok}
use Rattle.hex.specs.Hex.{decode_of}
use Rattle.trace_text.specs.Kinds.{is_within}
use Rattle.trace_text.proofs.Decoding.{passes, checked_as}
use Rattle.trace_text.proofs.kinds.expect_octets.Goals as goal

pub returns : goal.returns
returns c =
    c.expect_spelled.ensures
    ∙ ap (λ allowed. passes (allowed && is_ok (decode_of c.args.word.now))) c.is_within.ensures
    ∙ sym (checked_as (is_within c.args.low c.args.high) c.args.word.now)
