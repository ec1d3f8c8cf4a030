use Rattle.std.proofs.Common.{◌≡◌, ◌∙◌, ap, refl}
use Rattle.std.specs.Option.{option_map}
use Rattle.sak_exchange.specs.Held.{latest, old, transmitting}
use Rattle.mka_station.specs.Announcing.{id_of}
use Rattle.mka_station.proofs.Keys.{key-told}
use Rattle.mka_station.proofs.shown.Shown.is_of_keys.Goals as goal

pub returns : goal.returns
returns c = λ base own h s.
    let l : c.id_of-latest.result ≡ id_of (latest h) = c.id_of-latest.ensures ∙ ap (option_map (λ k. k.id)) (key-told h (latest h) c.latest.result c.key_of.result c.key_of.ensures (c.latest.ensures base own _ h s)) in
    let o : c.id_of-old.result ≡ id_of (old h) = c.id_of-old.ensures ∙ ap (option_map (λ k. k.id)) (key-told h (old h) c.old.result c.key_of-2.result c.key_of-2.ensures (c.old.ensures base own _ h s)) in
    let t : c.id_of-transmitting.result ≡ id_of (transmitting h) = c.id_of-transmitting.ensures ∙ ap (option_map (λ k. k.id)) (key-told h (transmitting h) c.transmitting.result c.key_of-3.result c.key_of-3.ensures (c.transmitting.ensures base own _ h s)) in
    c.is_of_ids.ensures ∙ rw (l, o, t) refl
