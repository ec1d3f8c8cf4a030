use Rattle.std.proofs.Common.{◌≡◌, ◌+◌, ◌*◌, ◌≤◌, length, map, take, sym, ap, subst, ◌∙◌, arith}
use Rattle.aes_block.specs.Column.{octets_of}
use Rattle.aes_block.specs.Expansion.{expanded_key, round_count, round_key}
use Rattle.aes_block.specs.inside.Held.{key_octets}
use Rattle.aes_block.proofs.Held.{round_count-key_octets, words_of-le}
use Rattle.aes_block.proofs.Schedule.{length-expansion, round_key-words}
use Rattle.aes_block.proofs.expanded_key.ExpandedKey.round_key.Goals as goal

pub overflow_mul-i : goal.overflow_mul-i
overflow_mul-i c =
    let rounds = sym (ap round_count c.self.view_is) ∙ round_count-key_octets c.self.inside.len c.self.inside.words (omega (arith, c.self.told)) in
    omega (arith, rounds, c.requires, words_of-le c.self.inside.len)

pub four_words-requires : goal.four_words-requires
four_words-requires c =
    let rounds = sym (ap round_count c.self.view_is) ∙ round_count-key_octets c.self.inside.len c.self.inside.words (omega (arith, c.self.told)) in
    omega (arith, rounds, c.requires, c.self.told, words_of-le c.self.inside.len)

pub returns : goal.returns
returns c =
    let words = c.self.inside.words in
    let key = key_octets c.self.inside.len words in
    let rounds = round_count-key_octets c.self.inside.len words (omega (arith, c.self.told)) in
    let few : 4 * (round_count key + 1) ≤ length words = omega (arith, rounds, c.self.told, words_of-le c.self.inside.len) in
    let within : 4 * c.args.i + 4 ≤ 4 * (round_count key + 1) = omega (arith, c.requires, ap round_count c.self.view_is) in
    let same = subst (λ n. map octets_of (take n words) ≡ expanded_key key) (length-expansion key (4 * (round_count key + 1))) c.self.invariant in
    c.four_words.ensures ∙ round_key-words words key c.args.i _ few same within
    ∙ ap (λ k. round_key (expanded_key k) c.args.i) c.self.view_is
