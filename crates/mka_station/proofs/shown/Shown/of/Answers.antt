use Rattle.std.proofs.Common.{◌∙◌, ap}
use Rattle.std.specs.Option.{option_map}
use Rattle.sak_exchange.specs.Held.{latest, old, transmitting}
use Rattle.mka_station.proofs.Keys.{key-told}
use Rattle.mka_station.proofs.shown.Shown.of.Goals as goal

pub returns : goal.returns
returns c = λ base own h s.
    let l = c.id_of.ensures ∙ ap (option_map (λ k. k.id)) (key-told h (latest h) c.latest.result c.key_of.result c.key_of.ensures (c.latest.ensures base own _ h s)) in
    let o = c.id_of-2.ensures ∙ ap (option_map (λ k. k.id)) (key-told h (old h) c.old.result c.key_of-2.result c.key_of-2.ensures (c.old.ensures base own _ h s)) in
    let t = c.id_of-3.ensures ∙ ap (option_map (λ k. k.id)) (key-told h (transmitting h) c.transmitting.result c.key_of-3.result c.key_of-3.ensures (c.transmitting.ensures base own _ h s)) in
    cc (c.in_ok-live_members.ensures, c.in_ok-potential_members.ensures)
