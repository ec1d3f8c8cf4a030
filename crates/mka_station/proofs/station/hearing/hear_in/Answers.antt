use Rattle.std.proofs.Common.{◌≡◌, ◌∙◌, ◌∷◌, List, ap, sym, subst}
use Rattle.lan_base.specs.declared.address.Mi.{Mi}
use Rattle.peer_lists.specs.declared.heard.Heard.{Heard}
use Rattle.peer_lists.specs.Acceptance.{outcome}
use Rattle.peer_lists.specs.Histories.{Peering, recent, heard as peers_heard}
use Rattle.peer_lists.specs.Table.{Table, StandsFor as PeersStandFor}
use Rattle.mka_station.specs.Lives.{told, own, peers_of}
use Rattle.mka_station.proofs.Pasts.{peers-heard}
use Rattle.mka_station.proofs.station.hearing.hear_in.Goals as goal

pub returns-clause-answer : goal.returns-clause-answer
returns-clause-answer c = λ m p mi s.
    let a = c.args.announcement.now in
    let h0 = peers_of m p in
    let p1 = subst (λ (x : Table). PeersStandFor (own m) x h0) (sym c.copy_from.ensures) s in
    let told_is : c.told.result ≡ told m.mi (recent h0) a = c.told.ensures (own m) h0 s ∙ ap (λ (i : Mi). told i (recent h0) a) (sym mi) in
    c.hear.ensures.answer (own m) h0 p1 ∙ ap (outcome (own m) h0) told_is

pub returns-clause-stands : goal.returns-clause-stands
returns-clause-stands c = λ m p mi s.
    let a = c.args.announcement.now in
    let h0 = peers_of m p in
    let p1 = subst (λ (x : Table). PeersStandFor (own m) x h0) (sym c.copy_from.ensures) s in
    let told_is : c.told.result ≡ told m.mi (recent h0) a = c.told.ensures (own m) h0 s ∙ ap (λ (i : Mi). told i (recent h0) a) (sym mi) in
    subst (λ (h : List Peering). PeersStandFor (own m) c.hear.new.self h) (ap (λ (x : Heard). peers_heard x ∷ h0) told_is ∙ sym (peers-heard m a p)) (c.hear.ensures.stands (own m) h0 p1)
