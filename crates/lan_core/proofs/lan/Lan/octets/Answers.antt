use Rattle.std.proofs.Common.{List, ℕ, length, map, ap, sym, subst, ◌∙◌}
use Rattle.std.specs.Prelude.{sum}
use Rattle.lan_core.specs.Ledgers.{air}
use Rattle.lan_core.specs.Standing.{StandsFor}
use Rattle.lan_core.proofs.CarriedOver.{order-sum}
use Rattle.lan_core.proofs.lan.Lan.octets.Goals as goal

pub returns : goal.returns
returns c settings users r stands =
    let st = subst (λ lan. StandsFor settings users lan r) (sym c.self.view_is) stands in
    c.octets.ensures.octets ∙ ap (λ (fs : List (List ℕ)). sum (map (λ octets. length octets) fs)) st.on_air
    ∙ order-sum (air r)
