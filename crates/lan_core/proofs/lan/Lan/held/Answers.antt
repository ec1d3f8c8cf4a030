use Rattle.std.proofs.Common.{refl, sym, subst}
use Rattle.lan_core.specs.Lives.{receiving}
use Rattle.lan_core.specs.Standing.{StandsFor}
use Rattle.lan_core.proofs.CarriedOver.{no-life, its-life}
use Rattle.lan_core.proofs.lan.Lan.held.Goals as goal

pub returns-in-Some : goal.returns-in-Some
returns-in-Some c settings users r stands =
    let s = c.args.station in
    let st = subst (λ lan. StandsFor settings users lan r) (sym c.self.view_is) stands in
    let own = its-life settings _ _ _ _ _ c.in-Some.seat.now (st.seats s) (sym c.in-Some.ensures) in
    rw (own.1.0) (c.held.ensures settings.window own.0 (receiving s r) own.1.1)

pub returns-in-None : goal.returns-in-None
returns-in-None c settings users r stands =
    let s = c.args.station in
    let st = subst (λ lan. StandsFor settings users lan r) (sym c.self.view_is) stands in
    let none = no-life settings _ _ _ _ _ (st.seats s) (sym c.in-None.ensures) in
    rw none refl
