use Rattle.std.proofs.Common.{◌≡◌, drop}
use Rattle.std.specs.List.{find}
use Rattle.packet_verdicts.specs.Right.{is_right}
use Rattle.packet_verdicts.proofs.sealed.newest_right.Given as goal

-- what is found among all candidates is found among those that are left
abbrev pub invariant-loop-number : goal.invariant-loop-number
invariant-loop-number l =
    find (is_right l.keys l.tag l.frame) l.candidates
    ≡ find (is_right l.keys l.tag l.frame) (drop l.number-index l.candidates)
