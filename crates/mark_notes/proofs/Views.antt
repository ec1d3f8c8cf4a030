-- What callers see of what is kept, and what an answer says, from what a call's says.
use Rattle.std.specs.Prelude.{Result, Ok, Err, OnOk}
use Rattle.mark_notes.specs.declared.notes.MarkNotes.TheInside.{Inside}
use Rattle.mark_notes.specs.Standing.{KeptMarks}

abbrev pub kept_of : Inside → KeptMarks
kept_of n = record { givings = n.givings.entries; senders = n.senders.entries }

pub on_ok : {T E P Q : Type 0} (r : Result T E) → (P → Q) → OnOk r P → OnOk r Q
on_ok (Ok x) f p = f p
on_ok (Err e) f p = tt
