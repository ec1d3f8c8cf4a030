use Rattle.std.proofs.Common.{◌≡◌, not, take, false}
use Rattle.std.specs.List.{list_any}
use Rattle.lan_base.specs.Identifiers.{has}
use Rattle.sak_exchange.proofs.key_state.making.one_is_missing.Given as goal

abbrev pub invariant-loop-report : goal.invariant-loop-report
invariant-loop-report l = list_any (λ r. not (has r.mi l.roster)) (take l.report-index l.live) ≡ false
