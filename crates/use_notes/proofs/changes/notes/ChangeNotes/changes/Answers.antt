use Rattle.std.proofs.Common.{subst}
use Rattle.std.specs.List.Sorted.{IsStrictlySortedBy}
use Rattle.std.specs.Map.{keys_of}
use Rattle.std.specs.Map.Iter.{deref_pair}
use Rattle.std.proofs.lemmas.Map.Iter.{rest_all}
use Rattle.use_notes.specs.changes.Changes.{sci_cmp}
use Rattle.use_notes.specs.changes.Standing.{Senders}
use Rattle.use_notes.proofs.changing.Listing.{listed, all-listed}
use Rattle.use_notes.proofs.changes.notes.ChangeNotes.changes.Goals as goal

pub returns : goal.returns
returns c = λ h stands.
    let none = rest_all deref_pair c.loop-sci.sci-iterator c.next.new.self c.next.result c.in-None.is c.next.ensures.steps in
    listed h c.args.self.now c.loop-sci.changes.items stands
    (subst (λ (n : Senders). IsStrictlySortedBy sci_cmp (keys_of n)) c.self.view_is
    c.into_iter-sci-iterator.ensures.into_iter_gives.5)
    (all-listed c.loop-sci.changes.items c.loop-sci.sci-iterator c.args.self.now c.loop-sci.invariant none)
