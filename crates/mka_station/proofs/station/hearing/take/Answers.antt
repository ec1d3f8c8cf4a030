use Rattle.std.proofs.Common.{◌≡◌, false, sym, subst, Option}
use Rattle.std.specs.Prelude.{IfOk, OnOk}
use Rattle.sak_exchange.specs.declared.offer.Offer.{Offer}
use Rattle.sak_exchange.specs.Standing.{StandsFor as KeysStandFor}
use Rattle.mka_station.specs.Hearing.{take_changes, key_taken}
use Rattle.mka_station.specs.inside.Turns.{answered, keys_with}
use Rattle.mka_station.proofs.Takes.{past-judged}
use Rattle.mka_station.proofs.station.hearing.take.Goals as goal

pub returns-in-Some-clause-changes : goal.returns-in-Some-clause-changes
returns-in-Some-clause-changes c = λ base own h s.
    subst (λ (o : Option Offer). IfOk c.take.result (λ v. v ≡ take_changes h o (answered base c.args.kek.now h o))) (sym c.in-Some.is) (c.take.ensures.changes base own h s)

pub returns-in-Some-clause-stands : goal.returns-in-Some-clause-stands
returns-in-Some-clause-stands c = λ base own h s.
    subst (λ (o : Option Offer). OnOk c.take.result (KeysStandFor base own false c.take.new.self (keys_with (key_taken (answered base c.args.kek.now h o)) h))) (sym c.in-Some.is)
    (past-judged base own c.take.new.self h c.in-Some.offer c.args.kek.now c.take.result (c.take.ensures.stands base own h s))
