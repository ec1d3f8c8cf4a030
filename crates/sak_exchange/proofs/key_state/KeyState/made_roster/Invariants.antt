use Rattle.std.proofs.Common.{◌≡◌, ◌∷◌, map, take}
use Rattle.sak_exchange.proofs.key_state.KeyState.made_roster.Given as goal

abbrev pub invariant-loop-report : goal.invariant-loop-report
invariant-loop-report l = l.roster.items ≡ l.self.own ∷ map (λ r. r.mi) (take l.report-index l.live)
