use Rattle.std.proofs.Common.{◌≡◌, ◌++◌, take}
use Rattle.std.specs.List.{flat_map}
use Rattle.xpn_numbers.specs.Candidates.{ssci_candidates}
use Rattle.xpn_numbers.proofs.trying.append_salted.Given as goal

abbrev pub invariant-loop-ssci : goal.invariant-loop-ssci
invariant-loop-ssci l = l.into.items ≡ l.initial.into.items
    ++ flat_map (ssci_candidates l.tried l.hints.places l.hints.set.now l.hints.shown.now l.clear l.salted.salt) (take l.ssci-index l.ssci-items)
