use Rattle.std.proofs.Common.{◌≡◌, ◌∙◌, Bool, false, is_some, Option, ap, sym, subst}
use Rattle.lan_base.specs.declared.address.Mi.{Mi}
use Rattle.lan_base.specs.Identifiers.{same_mi}
use Rattle.sak_exchange.specs.Standing.{State as Keys, StandsFor as KeysStandFor}
use Rattle.sak_exchange.specs.Stills.{IsStill}
use Rattle.sak_exchange.proofs.Public.{not-true}
use Rattle.mka_station.specs.Announcing.{same_option}
use Rattle.mka_station.specs.inside.Found.{Found}
use Rattle.mka_station.proofs.station.Station.is_quiet.Goals.{then-is_same_server, else-is_same_server}
use Rattle.mka_station.proofs.station.Station.is_quiet.Goals as goal

pub returns-then-stays : goal.returns-then-stays
returns-then-stays c = λ silent base mi h s.
    let now = c.args.self.now in
    let found = c.args.peer_view.now in
    let server_is : c.peer_view.inside.server ≡ found.server = ap (λ (f : Found). f.server) c.peer_view.view_is in
    let same = c.is_same_server.ensures ∙ ap (λ (o : Option Mi). same_option same_mi o c.peer_view.inside.server) c.server.ensures ∙ ap (λ (o : Option Mi). same_option same_mi now.server o) server_is in
    let undue = c.is_due.ensures base mi h (subst (λ (x : Keys). KeysStandFor base mi false x h) (sym c.keys-then-stays.ensures) s) in
    elim c.if-is_same_server.branch [
      | then-is_same_server w ↦ record {
        same = sym same ∙ w.if-is_same_server.true;
        still = subst (λ (b : Bool). IsStill b h) (w.is_some.ensures ∙ ap (λ (o : Option Mi). is_some o) server_is)
            (w.stays.ensures (sym w.value-is ∙ c.if-stays.true) base mi h (subst (λ (x : Keys). KeysStandFor base mi false x h) (sym w.keys.ensures) s));
        undue = sym undue ∙ not-true c.is_due.result silent;
      }
      | else-is_same_server w ↦ absurd (cc (w.value-is, c.if-stays.true))
    ]
