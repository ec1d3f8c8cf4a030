use Rattle.std.proofs.Common.{refl, ◌∙◌, arith, length-set}
use Rattle.aes_block.specs.Expansion.{expansion}
use Rattle.aes_block.proofs.Held.{holds, holds-expanded, words_of-le}
use Rattle.aes_block.proofs.Schedule.{words-more}
use Rattle.aes_block.proofs.expanded_key.ExpandedKey.of.Goals as goal

pub loop-i-init : goal.loop-i-init
unfolding expansion
loop-i-init c = record { count = refl; same = refl }

pub loop-i-preserved : goal.loop-i-preserved
loop-i-preserved c = record {
  count = length-set c.loop-i.words c.loop-i.i c.next_word.result ∙ c.loop-i.invariant.count;
  same = words-more c.args.octets.now c.loop-i.words c.loop-i.i _ (omega (arith, c.loop-i.invariant.count, c.rounds.ensures, words_of-le c.args.len)) c.loop-i.invariant.same c.next_word.ensures;
}

pub invariant_of-result : goal.invariant_of-result
invariant_of-result c =
    holds-expanded c.args.len c.args.octets.now c.loop-i.words c.loop-i.i c.requires (omega (arith, c.rounds.ensures))
    c.loop-i.invariant.same

pub returns : goal.returns
returns c =
    holds c.args.len c.args.octets.now c.loop-i.words c.loop-i.i c.requires (omega (arith, c.rounds.ensures))
    c.loop-i.invariant.same
