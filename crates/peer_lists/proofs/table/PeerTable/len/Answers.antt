-- There is a row for each member that is known.
use Rattle.std.proofs.Common.{◌≡◌, ◌∙◌, ap, arith, length}
use Rattle.std.proofs.lemmas.Grind.{common_steps}
use Rattle.peer_lists.specs.Table.{Table}
use Rattle.peer_lists.proofs.Stands.{len-stands}
use Rattle.peer_lists.proofs.table.PeerTable.len.Goals as goal

pub returns : goal.returns
returns c =
    let all : c.len.result ≡ length c.self.inside.rows.items = grind (arith, common_steps) in
    λ own h s. all ∙ ap (λ (t : Table). length t.rows) c.self.view_is ∙ len-stands own c.args.self.now h s
