-- Where each row stays, so does what is shown.
use Rattle.std.proofs.Common.{◌∙◌, ap, sym, List}
use Rattle.std.specs.List.{list_all}
use Rattle.peer_lists.specs.declared.remembered.Remembered.{Remembered}
use Rattle.peer_lists.specs.Table.{Table}
use Rattle.peer_lists.specs.inside.RowChanges.{stays}
use Rattle.peer_lists.proofs.Staying.{rows-stay}
use Rattle.peer_lists.proofs.table.PeerTable.stays.Goals as goal

pub returns : goal.returns
returns c =
    let rows = c.as_slice.ensures.value ∙ ap (λ (t : Table). t.rows) c.self.view_is in
    λ is. rows-stay c.args.self.now.rows (sym (c.stay.ensures ∙ ap (λ (ps : List Remembered). list_all stays ps) rows) ∙ is)
