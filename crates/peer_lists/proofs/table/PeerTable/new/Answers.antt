-- An empty table stands for the empty history.
use Rattle.std.proofs.Common.{◌≡◌, []}
use Rattle.peer_lists.proofs.Stands.{stands-new}
use Rattle.peer_lists.proofs.table.PeerTable.new.Goals as goal

pub returns : goal.returns
returns c =
    let none : c.in_ok-with_capacity.field-0.items ≡ [] = c.in_ok-with_capacity.ensures.items in
    rw (none, c.none.ensures) (stands-new (record { mi = c.args.own; sci = c.args.sci }))
