-- The rows a tick later are those of the history with a tick in front.
use Rattle.std.proofs.Common.{◌∙◌, ap, List, map, slice_get}
use Rattle.peer_lists.specs.declared.heard.Row.{Row}
use Rattle.peer_lists.specs.declared.remembered.Remembered.{Remembered}
use Rattle.peer_lists.specs.Table.{Table}
use Rattle.peer_lists.specs.Showing.{aged_rows, shown}
use Rattle.peer_lists.proofs.Stands.{later-stands}
use Rattle.peer_lists.proofs.table.PeerTable.rows_after_tick.Goals as goal

pub returns-clause-rows : goal.returns-clause-rows
returns-clause-rows c =
    let rows = c.as_slice.ensures.value ∙ ap (λ (t : Table). t.rows) c.self.view_is in
    λ own h s at.
    ap (λ (l : List Row). slice_get l at) c.show_after_tick.ensures.rows
    ∙ ap (λ (ps : List Remembered). slice_get (map shown (aged_rows ps)) at) rows
    ∙ later-stands own c.args.self.now h s at

pub returns-clause-shown : goal.returns-clause-shown
returns-clause-shown c =
    let rows = c.as_slice.ensures.value ∙ ap (λ (t : Table). t.rows) c.self.view_is in
    c.show_after_tick.ensures.rows ∙ ap (λ (ps : List Remembered). map shown (aged_rows ps)) rows
