use Rattle.std.proofs.Common.{[], ap, subst, refl}
use Rattle.lan_base.specs.declared.address.Sci.{Sci}
use Rattle.mka_station.specs.Lives.{Setup}
use Rattle.mka_station.specs.Standing.{born}
use Rattle.rx_slots.specs.Standing.{StandsFor as SlotsStandFor}
use Rattle.lan_core.proofs.SeatGoesOn.{alive-new, sits-with}
use Rattle.lan_core.proofs.seat.Seat.start.Goals as goal

pub invariant_of-result : goal.invariant_of-result
invariant_of-result c =
    let m = born c.args.config 0 c.args.draw in
    (record { member = m; past = [] }, alive-new m _ c.in_ok-station.ensures refl refl)

pub returns : goal.returns
returns c =
    let m = born c.args.config 0 c.args.draw in
    sits-with c.args.window (record { member = m; past = [] }) [] _ (alive-new m _ c.in_ok-station.ensures refl refl)
    (subst (λ (own : Sci). SlotsStandFor own c.args.window c.new.result []) (ap (λ (s : Setup). s.sci) c.config.view_is) c.new.ensures)
