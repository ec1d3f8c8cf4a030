use Rattle.std.proofs.Common.{◌≡◌, length}
use Rattle.trace_text.specs.Words.{words_of}
use Rattle.trace_text.specs.Reading.{blocks_of}
use Rattle.trace_text.specs.Answering.{checked}
use Rattle.trace_text.proofs.blocks.expect_blocks.Given as goal

-- what is left decides
abbrev pub invariant-loop-word : goal.invariant-loop-word
invariant-loop-word l = checked (blocks_of (words_of l.left)) ≡ checked (blocks_of (words_of l.line))

abbrev pub decreases-loop-word : goal.decreases-loop-word
decreases-loop-word l = length l.left
