use Rattle.std.proofs.Common.{ap, ◌∙◌}
use Rattle.next_numbers.specs.Numbers.{in_range}
use Rattle.cak_roll.proofs.twin.Twin.to_claim.Goals as goal

pub returns : goal.returns
returns c = λ pair users t stands. c.in_range.ensures ∙ ap in_range (c.next.ensures pair users t stands)
