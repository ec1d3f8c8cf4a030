-- The table stands for the history with the announcement that was sent in front.
use Rattle.std.proofs.Common.{ap, sym, subst}
use Rattle.peer_lists.specs.Table.{Table, StandsFor}
use Rattle.peer_lists.specs.Showing.{rows_shown}
use Rattle.peer_lists.proofs.Stands.{stands-sent}
use Rattle.peer_lists.proofs.table.PeerTable.sent.Goals as goal

pub returns-clause-stands : goal.returns-clause-stands
returns-clause-stands c =
    λ own h s.
    let view : Table = record { own = record { mi = c.self.inside.mi; sci = c.self.inside.sci }; rows = c.self.inside.rows.items; sent = c.self.inside.sent } in
    let stood : StandsFor own view h = subst (λ (t : Table). StandsFor own t h) (sym c.self.view_is) s in
    rw c.send.ensures (stands-sent own view h c.args.mn (c.requires.next own h s) (c.requires.once own h s) stood)

pub returns-clause-shown : goal.returns-clause-shown
returns-clause-shown c = ap rows_shown c.self.view_is
