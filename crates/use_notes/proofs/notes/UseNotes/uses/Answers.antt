use Rattle.std.proofs.Common.{ℕ, map, subst}
use Rattle.std.specs.List.Sorted.{IsStrictlySortedBy}
use Rattle.lan_base.specs.declared.address.Sci.{Sci}
use Rattle.use_notes.specs.Standing.{KeptOfUse, Notes}
use Rattle.use_notes.specs.Uses.{use_cmp}
use Rattle.std.proofs.lemmas.Map.Iter.{rest_all}
use Rattle.std.specs.Map.Iter.{deref_pair}
use Rattle.use_notes.proofs.Listing.{listed, all-listed}
use Rattle.use_notes.proofs.notes.UseNotes.uses.Goals as goal

pub returns : goal.returns
returns c = λ h stands.
    let none = rest_all deref_pair c.loop-at.at-iterator c.next.new.self c.next.result c.in-None.is c.next.ensures.steps in
    listed h c.args.self.now c.loop-at.uses.items stands
    (subst (λ (n : Notes). IsStrictlySortedBy use_cmp (map (λ (e : (ℕ × Sci) × KeptOfUse). e.0) n.senders)) c.self.view_is
    c.into_iter-at-iterator.ensures.into_iter_gives.5)
    (all-listed c.loop-at.uses.items c.loop-at.at-iterator c.args.self.now.senders c.loop-at.invariant none)
