-- What is kept of what a member said last.
use Rattle.std.specs.Prelude.{[]}
use Rattle.rollover_notes.specs.declared.saying.KeptSaying.{KeptSaying}
use Rattle.rollover_notes.specs.declared.saying.KeptSaying.TheVariants.{Alone, Listing}
use Rattle.rollover_notes.specs.Speaking.{Said}

abbrev pub said_in : KeptSaying → Said
said_in (Alone sci nanos) = record { sci = sci; nanos = nanos; listed = [] }
said_in (Listing listing) =
    record { sci = listing.value.sci; nanos = listing.value.nanos; listed = listing.value.listed.items }
