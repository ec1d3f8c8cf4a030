-- The table's test of a number is that of the history.
use Rattle.std.proofs.Common.{◌∙◌, ap}
use Rattle.peer_lists.specs.Table.{Table}
use Rattle.peer_lists.specs.inside.Countdowns.{is_number_recent}
use Rattle.peer_lists.proofs.Stands.{recent-stands}
use Rattle.peer_lists.proofs.table.PeerTable.recent.Goals as goal

pub returns : goal.returns
returns c =
    λ own h s. c.is_recent.ensures ∙ ap (λ (t : Table). is_number_recent t.sent c.args.mn) c.self.view_is ∙ recent-stands own c.args.self.now h s c.args.mn
