use Rattle.std.proofs.Common.{◌≡◌, ℕ, List, take, true, false}
use Rattle.std.specs.List.{list_all}
use Rattle.lan_base.specs.declared.address.Mi.{Mi}
use Rattle.sak_exchange.specs.Histories.{Keying}
use Rattle.sak_exchange.specs.Making.{is_in_roster}
use Rattle.sak_exchange.specs.Standing.{StandsFor}
use Rattle.mka_station.proofs.saying.are_in_roster.Given as goal

abbrev pub invariant-loop-report : goal.invariant-loop-report
invariant-loop-report l = (base : ℕ) (own : Mi) (h : List Keying) → StandsFor base own false l.keys h → list_all (λ r. is_in_roster h r.mi) (take l.report-index l.live) ≡ true
