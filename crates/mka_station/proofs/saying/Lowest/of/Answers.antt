use Rattle.sak_exchange.specs.Held.{latest, old}
use Rattle.mka_station.proofs.Keys.{key-told}
use Rattle.mka_station.proofs.saying.Lowest.of.Goals as goal

pub returns : goal.returns
returns c = λ base own h s.
    let l = key-told h (latest h) c.latest.result c.key_of.result c.key_of.ensures (c.latest.ensures base own _ h s) in
    let o = key-told h (old h) c.old.result c.key_of-2.result c.key_of-2.ensures (c.old.ensures base own _ h s) in
    cc
