use Rattle.std.proofs.Common.{◌≡◌, Option, sym, subst}
use Rattle.std.specs.Result.{IfOk}
use Rattle.lan_base.specs.declared.address.Mi.{Mi}
use Rattle.mka_station.specs.Tick.{ended}
use Rattle.mka_station.proofs.peer_view.end_keys.Goals as goal

pub returns-in-Some-clause-changes : goal.returns-in-Some-clause-changes
returns-in-Some-clause-changes c = λ base own h s.
    subst (λ (o : Option Mi). IfOk c.retire.result (λ v. v ≡ ended h o)) (sym c.in-Some.is) (c.retire.ensures.changes base own h s)

pub returns-in-None-clause-changes : goal.returns-in-None-clause-changes
returns-in-None-clause-changes c = λ base own h s.
    subst (λ (o : Option Mi). IfOk c.drop_all.result (λ v. v ≡ ended h o)) (sym c.in-None.is) (c.drop_all.ensures.changes base own h s)
