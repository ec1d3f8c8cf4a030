use Rattle.std.proofs.Common.{◌∙◌, refl}
use Rattle.sak_exchange.specs.Held.{latest, old, transmitting}
use Rattle.mka_station.proofs.Keys.{key-told}
use Rattle.mka_station.proofs.saying.uses.Goals as goal

pub returns : goal.returns
returns c = λ base own h s.
    let t = key-told h (transmitting h) c.transmitting.result c.key_of.result c.key_of.ensures (c.transmitting.ensures base own _ h s) in
    let l = key-told h (latest h) c.latest.result c.key_of-2.result c.key_of-2.ensures (c.latest.ensures base own _ h s) in
    let o = key-told h (old h) c.old.result c.key_of-3.result c.key_of-3.ensures (c.old.ensures base own _ h s) in
    c.uses_with.ensures ∙ rw (t, l, o) refl
