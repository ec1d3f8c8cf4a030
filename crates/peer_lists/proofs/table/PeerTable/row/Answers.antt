-- The row at a place is that of the member that is known at the place.
use Rattle.std.proofs.Common.{◌∙◌, ap, List, slice_get}
use Rattle.std.specs.Option.{option_map}
use Rattle.peer_lists.specs.declared.remembered.Remembered.{Remembered}
use Rattle.peer_lists.specs.Table.{Table}
use Rattle.peer_lists.specs.Showing.{shown}
use Rattle.peer_lists.proofs.Stands.{row-stands, past-told}
use Rattle.peer_lists.proofs.table.PeerTable.row.Goals as goal

pub returns-clause-row : goal.returns-clause-row
returns-clause-row c =
    let rows = c.as_slice.ensures.value ∙ ap (λ (t : Table). t.rows) c.self.view_is in
    λ own h s. c.shown_at.ensures ∙ ap (λ (ps : List Remembered). option_map shown (slice_get ps c.args.at)) rows ∙ row-stands own c.args.self.now h s c.args.at

pub returns-clause-past : goal.returns-clause-past
returns-clause-past c =
    let rows = c.as_slice.ensures.value ∙ ap (λ (t : Table). t.rows) c.self.view_is in
    λ own h s. past-told own c.args.self.now h c.args.at c.shown_at.result (c.shown_at.ensures ∙ ap (λ (ps : List Remembered). option_map shown (slice_get ps c.args.at)) rows) s
