-- The rows are those of the history.
use Rattle.std.proofs.Common.{◌∙◌, ap, List, map, slice_get}
use Rattle.std.proofs.lemmas.Option.{slice_get-map}
use Rattle.peer_lists.specs.declared.heard.Row.{Row}
use Rattle.peer_lists.specs.declared.remembered.Remembered.{Remembered}
use Rattle.peer_lists.specs.Table.{Table}
use Rattle.peer_lists.specs.Showing.{shown}
use Rattle.peer_lists.proofs.Stands.{row-stands}
use Rattle.peer_lists.proofs.table.PeerTable.rows_now.Goals as goal

pub returns-clause-rows : goal.returns-clause-rows
returns-clause-rows c =
    let rows = c.as_slice.ensures.value ∙ ap (λ (t : Table). t.rows) c.self.view_is in
    λ own h s at.
    ap (λ (l : List Row). slice_get l at) c.show.ensures.rows
    ∙ ap (λ (ps : List Remembered). slice_get (map shown ps) at) rows
    ∙ slice_get-map shown c.args.self.now.rows at
    ∙ row-stands own c.args.self.now h s at
