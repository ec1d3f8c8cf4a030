use Rattle.std.proofs.Common.{◌≡◌, ◌++◌, map}
use Rattle.use_notes.proofs.Listing.{use_at}
use Rattle.use_notes.proofs.notes.UseNotes.uses.Given as goal

abbrev pub invariant-loop-at : goal.invariant-loop-at
invariant-loop-at l = l.uses.items ++ map use_at l.at-iterator ≡ map use_at l.self.senders
