use Rattle.std.proofs.Common.{false, sym, subst}
use Rattle.sak_exchange.specs.Standing.{State as Keys, StandsFor as KeysStandFor}
use Rattle.mka_station.specs.Lives.{keys_of}
use Rattle.mka_station.proofs.station.Station.latest.Goals as goal

pub returns : goal.returns
returns c = λ m p s.
    c.latest.ensures m.base m.mi false (keys_of m p) (subst (λ (x : Keys). KeysStandFor m.base m.mi false x (keys_of m p)) (sym c.keys.ensures) s.keys)
