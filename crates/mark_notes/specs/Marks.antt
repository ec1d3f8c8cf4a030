-- What marks a capture, by its givings and its reused packets, newest first.
use Rattle.std.specs.Prelude.{ℕ, ◌==◌, if◌then◌else◌, List, [], ◌∷◌, ◌++◌, Option, Some, None}
use Rattle.std.specs.Option.{option_or}
use Rattle.lan_base.specs.declared.address.Sci.{Sci}
use Rattle.lan_base.specs.Identifiers.{same_sci}
use Rattle.mark_notes.specs.declared.giving.Giving.{Giving}
use Rattle.mark_notes.specs.declared.reuse.Reuse.{Reuse}

abbrev pub giving_here : ℕ → Giving → Option Giving
giving_here key g = if g.key == key then Some g else None

-- the first giving of a key
abbrev pub first_giving : List Giving → ℕ → Option Giving
first_giving [] key = None
first_giving (g ∷ gs) key = option_or (first_giving gs key) (giving_here key g)

abbrev pub reuse_here : Sci → Reuse → List Reuse
reuse_here sci r = if same_sci r.sci sci then r ∷ [] else []

-- the reused packets of a sender, the oldest first
abbrev pub reuses_of : Sci → List Reuse → List Reuse
reuses_of sci [] = []
reuses_of sci (r ∷ rs) = reuses_of sci rs ++ reuse_here sci r
