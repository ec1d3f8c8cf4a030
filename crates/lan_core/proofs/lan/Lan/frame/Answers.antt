use Rattle.std.proofs.Common.{◌≡◌, ap, sym, subst}
use Rattle.std.specs.Option.{option_copied}
use Rattle.lan_core.specs.Ledgers.{air}
use Rattle.lan_core.specs.Standing.{StandsFor, octets_at}
use Rattle.lan_core.proofs.GroupMoved.{frame-of}
use Rattle.lan_core.proofs.lan.Lan.frame.Goals as goal

pub returns-clause-frame : goal.returns-clause-frame
returns-clause-frame c settings users r stands =
    let st = subst (λ lan. StandsFor settings users lan r) (sym c.self.view_is) stands in
    let got : option_copied c.frame.result ≡ octets_at c.self.inside.air c.args.number = c.frame.ensures.frame in
    cc (got, ap (λ fs. octets_at fs c.args.number) st.on_air, frame-of (air r) c.args.number st.numbered)
