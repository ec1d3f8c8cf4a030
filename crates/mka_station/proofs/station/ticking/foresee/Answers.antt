use Rattle.std.proofs.Common.{◌≡◌, ◌∙◌, ap, sym}
use Rattle.lan_base.specs.declared.address.Mi.{Mi}
use Rattle.mka_station.specs.Lives.{keys_of}
use Rattle.mka_station.specs.Views.{is_server}
use Rattle.mka_station.specs.inside.Found.{Found}
use Rattle.mka_station.proofs.PeerViews.{comes-in}
use Rattle.mka_station.proofs.Makes.{makes-is}
use Rattle.mka_station.proofs.station.ticking.foresee.Goals as goal

pub returns-clause-ahead : goal.returns-clause-ahead
returns-clause-ahead c = record { found = λ is. c.look_ahead.ensures }

pub returns-clause-comes : goal.returns-clause-comes
returns-clause-comes c = λ m p setup mi peers. comes-in m p c.args.config.now c.args.mi.now c.args.peers.now c.look_ahead.new.self setup mi peers c.look_ahead.ensures

pub returns-clause-makes : goal.returns-clause-makes
returns-clause-makes c = λ m p setup mi peers keys.
    let found = c.look_ahead.new.self in
    let comes = comes-in m p c.args.config.now c.args.mi.now c.args.peers.now found setup mi peers c.look_ahead.ensures in
    let serves : c.is_server-serves.result ≡ is_server found.server m.mi = c.is_server-serves.ensures ∙ ap (λ (f : Found). is_server f.server c.args.mi.now) c.peer_view.view_is ∙ ap (λ (i : Mi). is_server found.server i) (sym mi) in
    c.is_made.ensures.value m.base m.mi (keys_of m p) keys
    ∙ rw (serves, c.due-due.ensures.live, c.due-due.ensures.potential, c.due-due.ensures.seen, c.due-due.ensures.rekey, sym setup) (makes-is m p found c.args.seen.now comes)
