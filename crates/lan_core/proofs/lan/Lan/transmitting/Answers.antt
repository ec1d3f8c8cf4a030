use Rattle.std.proofs.Common.{◌≡◌, refl, ap, sym, subst}
use Rattle.std.specs.Prelude.{option_map}
use Rattle.sak_exchange.specs.Held.{transmitting}
use Rattle.lan_core.specs.Lives.{receiving, keys_in}
use Rattle.lan_core.specs.Standing.{StandsFor}
use Rattle.lan_core.proofs.CarriedOver.{no-life, its-life, numbers-held, numbers_of_held}
use Rattle.lan_core.proofs.lan.Lan.transmitting.Goals as goal

pub returns-in-Some : goal.returns-in-Some
returns-in-Some c settings users r stands =
    let s = c.args.station in
    let st = subst (λ lan. StandsFor settings users lan r) (sym c.self.view_is) stands in
    let own = its-life settings _ _ _ _ _ c.in-Some.seat.now (st.seats s) (sym c.in-Some.ensures) in
    let told = ap (λ k. option_map numbers_of_held k) (c.transmitting.ensures settings.window own.0 (receiving s r) own.1.1) in
    let so = cc_numbers c.numbers_of.ensures told (numbers-held (keys_in own.0) (transmitting (keys_in own.0))) in
    rw own.1.0 so
  where
    cc_numbers : {A : Type 0} {a b d e : A} → a ≡ b → b ≡ d → d ≡ e → a ≡ e
    cc_numbers x y z = cc (x, y, z)

pub returns-in-None : goal.returns-in-None
returns-in-None c settings users r stands =
    let s = c.args.station in
    let st = subst (λ lan. StandsFor settings users lan r) (sym c.self.view_is) stands in
    let none = no-life settings _ _ _ _ _ (st.seats s) (sym c.in-None.ensures) in
    rw none refl
