use Rattle.std.proofs.Common.{◌∙◌, sym}
use Rattle.mka_station.proofs.peer_view.PeerView.pass.Goals as goal

pub returns-then-stays : goal.returns-then-stays
returns-then-stays c = λ setup mi was. record {
  found = λ is.
      let f = was is in
      record { rows = f.rows ∙ sym (c.stays.ensures c.if-stays.true); reports = f.reports; server = f.server };
}

pub returns : goal.returns
returns c = λ setup mi was. c.forget.ensures setup mi c.args.peers.now
