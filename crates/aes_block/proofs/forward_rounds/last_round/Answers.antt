use Rattle.std.proofs.Common.{map, ap, ◌∙◌, bit_xor}
use lib.Lanes.{zip2}
use Rattle.aes_block.specs.LookUp.{entry_at}
use Rattle.aes_block.specs.inside.Halves.{changed, first_half, second_half}
use Rattle.aes_block.specs.declared.tables.TheConstants.{SUB_FIRST, SUB_SECOND}
use Rattle.aes_block.specs.declared.forward_rounds.TheConstants.{SHIFTED}
use Rattle.aes_block.proofs.Lanes.{looked, sum}
use Rattle.aes_block.proofs.RoundLanes.{last_round_of_lanes, picked}
use Rattle.aes_block.proofs.forward_rounds.last_round.Goals as goal

pub returns : goal.returns
returns c octets words ho hw is_state is_key =
    let v = picked SHIFTED (map changed octets) in
    let at = ap (picked SHIFTED) is_state in
    let first = c.inverse_halves.ensures.first ∙ ap (map first_half) at in
    let second = c.inverse_halves.ensures.second ∙ ap (map second_half) at in
    let out = sum (λ x. entry_at SUB_FIRST (first_half x)) (λ x. entry_at SUB_SECOND (second_half x)) v (looked SUB_FIRST first_half v c.look_up.ensures first) (looked SUB_SECOND second_half v c.look_up-2.ensures second) in
    (λ i. zip2 bit_xor (out i) (is_key i)) ∙ last_round_of_lanes octets words ho hw
