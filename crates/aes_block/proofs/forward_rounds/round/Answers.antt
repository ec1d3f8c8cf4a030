use Rattle.std.proofs.Common.{map, ap, ◌∙◌}
use Rattle.aes_block.specs.LookUp.{entry_at}
use Rattle.aes_block.specs.inside.Halves.{changed, first_half, second_half}
use Rattle.aes_block.specs.declared.tables.TheConstants.{ONCE_FIRST, ONCE_SECOND, TWICE_FIRST, TWICE_SECOND}
use Rattle.aes_block.specs.declared.forward_rounds.TheConstants.{SHIFTED}
use Rattle.aes_block.proofs.Lanes.{looked, sum}
use Rattle.aes_block.proofs.RoundLanes.{mixed_lanes, picked, round_of_lanes}
use Rattle.aes_block.proofs.forward_rounds.round.Goals as goal

pub returns : goal.returns
returns c octets words ho hw is_state is_key =
    let v = picked SHIFTED (map changed octets) in
    let at = ap (picked SHIFTED) is_state in
    let first = c.inverse_halves.ensures.first ∙ ap (map first_half) at in
    let second = c.inverse_halves.ensures.second ∙ ap (map second_half) at in
    let one = sum (λ x. entry_at ONCE_FIRST (first_half x)) (λ x. entry_at ONCE_SECOND (second_half x)) v (looked ONCE_FIRST first_half v c.look_up.ensures first) (looked ONCE_SECOND second_half v c.look_up-2.ensures second) in
    let two = sum (λ x. entry_at TWICE_FIRST (first_half x)) (λ x. entry_at TWICE_SECOND (second_half x)) v (looked TWICE_FIRST first_half v c.look_up-3.ensures first) (looked TWICE_SECOND second_half v c.look_up-4.ensures second) in
    (λ i. mixed_lanes (one i) (two i) (is_key i)) ∙ round_of_lanes octets words ho hw
