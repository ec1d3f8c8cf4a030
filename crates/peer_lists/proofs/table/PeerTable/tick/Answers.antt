-- The table stands for the history with a tick in front.
use Rattle.std.proofs.Common.{◌∙◌, List, map, ap, sym, subst}
use Rattle.peer_lists.specs.declared.remembered.Remembered.{Remembered}
use Rattle.peer_lists.specs.Table.{Table, StandsFor}
use Rattle.peer_lists.specs.Showing.{aged_rows, shown}
use Rattle.peer_lists.proofs.Stands.{stands-tick}
use Rattle.peer_lists.proofs.table.PeerTable.tick.Goals as goal

pub returns-clause-stands : goal.returns-clause-stands
returns-clause-stands c =
    λ own h s.
    let view : Table = record { own = record { mi = c.self.inside.mi; sci = c.self.inside.sci }; rows = c.self.inside.rows.items; sent = c.self.inside.sent } in
    let stood : StandsFor own view h = subst (λ (t : Table). StandsFor own t h) (sym c.self.view_is) s in
    rw (c.age.ensures.rows, c.tick.ensures) (stands-tick own view h stood)

pub returns-clause-shown : goal.returns-clause-shown
returns-clause-shown c = ap (λ (ps : List Remembered). map shown ps) c.age.ensures.rows ∙ ap (λ (t : Table). map shown (aged_rows t.rows)) c.self.view_is
