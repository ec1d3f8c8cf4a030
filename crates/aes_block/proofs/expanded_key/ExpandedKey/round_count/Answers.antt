use Rattle.std.proofs.Common.{length, sym, ap, subst, ◌∙◌, arith}
use Rattle.aes_block.specs.Aes.{IsKey}
use Rattle.aes_block.specs.Expansion.{round_count}
use Rattle.aes_block.proofs.Held.{IsKey-key_octets, length-key_octets, round_count-key_octets, two_lengths}
use Rattle.aes_block.proofs.expanded_key.ExpandedKey.round_count.Goals as goal

pub returns-clause-key : goal.returns-clause-key
returns-clause-key c =
    subst IsKey c.self.view_is (IsKey-key_octets c.self.inside.len c.self.inside.words (omega (arith, c.self.told)))

pub returns-clause-length : goal.returns-clause-length
returns-clause-length c =
    two_lengths c.self.inside.len _
    (ap length (sym c.self.view_is) ∙ length-key_octets c.self.inside.len c.self.inside.words (omega (arith, c.self.told)))

pub returns-clause-count : goal.returns-clause-count
returns-clause-count c =
    c.rounds.ensures ∙ sym (round_count-key_octets c.self.inside.len c.self.inside.words (omega (arith, c.self.told)))
    ∙ ap round_count c.self.view_is
