use Rattle.std.proofs.Common.{◌∙◌, ◌∷◌, ◌+◌, min, cond, false, is_some, ap, sym, subst}
use Rattle.peer_lists.specs.Table.{Table, StandsFor as PeersStandFor}
use Rattle.sak_exchange.specs.Standing.{State as Keys, StandsFor as KeysStandFor}
use Rattle.mka_station.specs.Lives.{heard, own, peers_of, keys_of}
use Rattle.mka_station.specs.Hearing.{key_taken, answer_at, heard_past}
use Rattle.mka_station.specs.Standing.{State, StandsFor}
use Rattle.mka_station.proofs.Counts.{counted-epochs}
use Rattle.mka_station.proofs.Hears.{stands-heard}
use Rattle.mka_station.proofs.station.Station.hear_announcement.Goals as goal

pub returns-clause-reaction : goal.returns-clause-reaction
returns-clause-reaction c = λ m p s.
    let a = c.args.announcement.now in
    let t = subst (λ (x : State). StandsFor m x p) (sym c.self.view_is) s in
    let out = c.hear_in-outcome.ensures.answer m p (sym t.mi) t.peers in
    let after = c.hear_in-outcome.ensures.stands m p (sym t.mi) t.peers in
    let server = c.elect-server.ensures.server m (heard a ∷ p) (sym t.setup) (sym t.mi) after in
    (c.in_ok-heard.ensures m p t after out server).reaction

pub returns-clause-stands : goal.returns-clause-stands
returns-clause-stands c = λ m p s.
    let now = c.args.self.now in
    let a = c.args.announcement.now in
    let was = c.self.view_is in
    let t = subst (λ (x : State). StandsFor m x p) (sym was) s in
    let out = c.hear_in-outcome.ensures.answer m p (sym t.mi) t.peers in
    let after = c.hear_in-outcome.ensures.stands m p (sym t.mi) t.peers in
    let server = c.elect-server.ensures.server m (heard a ∷ p) (sym t.setup) (sym t.mi) after in
    let h = c.in_ok-heard.ensures m p t after out server in
    let two = c.settle.ensures in
    let installs = c.in_ok-heard.heard.installs in
    stands-heard m now c.settle.new.self a p c.in_ok-heard.heard.server s h.server
    (ap (λ (x : State). x.setup) two ∙ ap (λ (x : State). x.setup) was)
    (ap (λ (x : State). x.mi) two ∙ ap (λ (x : State). x.mi) was)
    (ap (λ (x : State). x.epochs) two ∙ ap (λ (x : State). cond installs (min (x.epochs + 1) 4294967295) x.epochs) was ∙ counted-epochs installs (is_some (key_taken (answer_at m a p))) now.epochs h.installs c.requires.room.installs)
    (subst (λ (x : Table). PeersStandFor (own m) x (peers_of m (heard a ∷ p))) (sym (ap (λ (x : State). x.peers) two ∙ c.swap.ensures.x_after)) after)
    (subst (λ (x : Keys). KeysStandFor m.base m.mi false x (keys_of m (heard_past m a p))) (sym (ap (λ (x : State). x.keys) two)) h.keys)
    (ap (λ (x : State). x.server) two)
    (ap (λ (x : State). x.spoken) two ∙ ap (λ (x : State). x.spoken) was)
