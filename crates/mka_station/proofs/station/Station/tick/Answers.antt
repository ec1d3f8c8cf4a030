use Rattle.std.proofs.Common.{◌∙◌, false, is_some, ap, sym, subst}
use Rattle.sak_exchange.specs.Standing.{State as Keys, StandsFor as KeysStandFor}
use Rattle.mka_station.specs.Lives.{Setup, keys_of}
use Rattle.mka_station.specs.Drawing.{sak_of}
use Rattle.mka_station.specs.Standing.{State, StandsFor}
use Rattle.mka_station.proofs.Drawn.{sak-is}
use Rattle.mka_station.proofs.Quiets.{quiet-turn, quiet-reaction}
use Rattle.mka_station.proofs.station.Station.tick.Goals as goal

pub returns-then-is_quiet-clause-reaction : goal.returns-then-is_quiet-clause-reaction
returns-then-is_quiet-clause-reaction g c = λ m p s.
    let i = c.self.inside in
    let seen = c.args.seen.now in
    let any = sak_of m.setup.suite (g.D.Draws.nth c.args.draws.now) in
    let t = subst (λ (x : State). StandsFor m x p) (sym c.self.view_is) s in
    let found = c.foresee-makes.ensures.comes m p (sym t.setup) (sym t.mi) t.peers in
    let unmade = sym (c.foresee-makes.ensures.makes m p (sym t.setup) (sym t.mi) t.peers t.keys) ∙ c.if-not-makes.true in
    let keys = subst (λ (k : Keys). KeysStandFor m.base m.mi false k (keys_of m p)) (sym c.foresee-makes.ensures.unchanged) t.keys in
    let then : State = record { setup = i.config; mi = i.mi; epochs = i.epochs; peers = i.peers; keys = c.foresee-makes.new.keys; server = i.server; spoken = i.spoken } in
    let stands : StandsFor m then p = record { setup = t.setup; mi = t.mi; epochs = t.epochs; peers = t.peers; keys = keys; server = t.server; spoken = t.spoken } in
    c.pass_quietly.ensures.reaction ∙ quiet-reaction m then p c.foresee-makes.new.peer_view seen any stands found (c.is_quiet.ensures c.if-is_quiet.true m.base m.mi (keys_of m p) keys) unmade

pub returns-then-is_quiet-clause-stands : goal.returns-then-is_quiet-clause-stands
returns-then-is_quiet-clause-stands g c = λ m p s.
    let i = c.self.inside in
    let seen = c.args.seen.now in
    let any = sak_of m.setup.suite (g.D.Draws.nth c.args.draws.now) in
    let t = subst (λ (x : State). StandsFor m x p) (sym c.self.view_is) s in
    let found = c.foresee-makes.ensures.comes m p (sym t.setup) (sym t.mi) t.peers in
    let unmade = sym (c.foresee-makes.ensures.makes m p (sym t.setup) (sym t.mi) t.peers t.keys) ∙ c.if-not-makes.true in
    let keys = subst (λ (k : Keys). KeysStandFor m.base m.mi false k (keys_of m p)) (sym c.foresee-makes.ensures.unchanged) t.keys in
    let then : State = record { setup = i.config; mi = i.mi; epochs = i.epochs; peers = i.peers; keys = c.foresee-makes.new.keys; server = i.server; spoken = i.spoken } in
    let stands : StandsFor m then p = record { setup = t.setup; mi = t.mi; epochs = t.epochs; peers = t.peers; keys = keys; server = t.server; spoken = t.spoken } in
    c.pass_quietly.ensures.stands m p any seen (is_some c.foresee-makes.new.peer_view.server) stands
    (quiet-turn m then p c.foresee-makes.new.peer_view seen any stands found (c.is_quiet.ensures c.if-is_quiet.true m.base m.mi (keys_of m p) keys) unmade)

pub returns-clause-reaction : goal.returns-clause-reaction
returns-clause-reaction g c = λ m p s.
    let seen = c.args.seen.now in
    let nth = g.D.Draws.nth c.args.draws.now in
    let any = sak_of m.setup.suite nth in
    let t = subst (λ (x : State). StandsFor m x p) (sym c.self.view_is) s in
    let found = c.foresee-makes.ensures.comes m p (sym t.setup) (sym t.mi) t.peers in
    let makes = c.foresee-makes.ensures.makes m p (sym t.setup) (sym t.mi) t.peers t.keys in
    let suite = ap (λ (x : Setup). x.suite) t.setup in
    let sak = sak-is m p seen nth c.foresee-makes.result c.self.inside.config.suite c.in_ok-sak.sak makes suite c.in_ok-sak.ensures.value in
    let keys = subst (λ (k : Keys). KeysStandFor m.base m.mi false k (keys_of m p)) (sym c.foresee-makes.ensures.unchanged) t.keys in
    let ticked = c.in_ok-ticked.ensures m p any (record { setup = t.setup; mi = t.mi; epochs = t.epochs; peers = t.peers; keys = keys; server = t.server; spoken = t.spoken }) found sak in
    c.pass.ensures.reaction ∙ ticked.reaction

pub returns-clause-stands : goal.returns-clause-stands
returns-clause-stands g c = λ m p s.
    let seen = c.args.seen.now in
    let nth = g.D.Draws.nth c.args.draws.now in
    let any = sak_of m.setup.suite nth in
    let t = subst (λ (x : State). StandsFor m x p) (sym c.self.view_is) s in
    let found = c.foresee-makes.ensures.comes m p (sym t.setup) (sym t.mi) t.peers in
    let makes = c.foresee-makes.ensures.makes m p (sym t.setup) (sym t.mi) t.peers t.keys in
    let suite = ap (λ (x : Setup). x.suite) t.setup in
    let sak = sak-is m p seen nth c.foresee-makes.result c.self.inside.config.suite c.in_ok-sak.sak makes suite c.in_ok-sak.ensures.value in
    let keys = subst (λ (k : Keys). KeysStandFor m.base m.mi false k (keys_of m p)) (sym c.foresee-makes.ensures.unchanged) t.keys in
    let ticked = c.in_ok-ticked.ensures m p any (record { setup = t.setup; mi = t.mi; epochs = t.epochs; peers = t.peers; keys = keys; server = t.server; spoken = t.spoken }) found sak in
    c.pass.ensures.stands m p any seen (record { setup = t.setup; mi = t.mi; epochs = t.epochs; peers = t.peers; keys = keys; server = t.server; spoken = t.spoken }) makes ticked
