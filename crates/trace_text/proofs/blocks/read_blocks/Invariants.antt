use Rattle.std.proofs.Common.{◌≡◌, length}
use Rattle.trace_text.specs.Words.{words_of}
use Rattle.trace_text.specs.Reading.{blocks_of}
use Rattle.trace_text.proofs.Listing.{onto}
use Rattle.trace_text.proofs.blocks.read_blocks.Given as goal

-- the blocks so far, and those that are left
abbrev pub invariant-loop-word : goal.invariant-loop-word
invariant-loop-word l = blocks_of (words_of l.line) ≡ onto l.blocks (blocks_of (words_of l.left))

abbrev pub decreases-loop-word : goal.decreases-loop-word
decreases-loop-word l = length l.left
