use Rattle.std.proofs.Common.{false, sym, subst, Option, Some}
use Rattle.std.specs.Prelude.{OnOk}
use Rattle.aes_block.specs.declared.secret.Secret.{Secret}
use Rattle.sak_exchange.specs.Making.{made_roster}
use Rattle.sak_exchange.specs.Standing.{StandsFor as KeysStandFor}
use Rattle.mka_station.specs.inside.Turns.{made_by, keys_made}
use Rattle.mka_station.proofs.station.ticking.make.Goals as goal

pub returns-in-Some-clause-stands : goal.returns-in-Some-clause-stands
returns-in-Some-clause-stands c = λ base own h s due.
    let d = c.args.due.now in
    subst (λ (o : Option Secret). OnOk c.make.result (KeysStandFor base own false c.make.new.self (keys_made (Some (made_roster own d.live.now)) (made_by base own h d.conf o) h))) (sym c.in-Some.is) (c.make.ensures.stands base own h s)
