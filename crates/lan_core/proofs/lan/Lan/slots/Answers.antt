use Rattle.std.proofs.Common.{sym, subst}
use Rattle.lan_core.specs.Lives.{receiving}
use Rattle.lan_core.specs.Standing.{StandsFor}
use Rattle.lan_core.proofs.Admitted.{has-slots, has-none}
use Rattle.lan_core.proofs.lan.Lan.slots.Goals as goal

pub returns-in-Some : goal.returns-in-Some
returns-in-Some c settings users r stands =
    let s = c.args.station in
    let st = subst (λ lan. StandsFor settings users lan r) (sym c.self.view_is) stands in
    has-slots settings (receiving s r) _ _ _ _ c.in-Some.seat.now c.slots.result.now (st.seats s) (sym c.in-Some.ensures) c.slots.ensures

pub returns-in-None : goal.returns-in-None
returns-in-None c settings users r stands =
    let s = c.args.station in
    let st = subst (λ lan. StandsFor settings users lan r) (sym c.self.view_is) stands in
    has-none settings (receiving s r) _ _ _ _ (st.seats s) (sym c.in-None.ensures)
