-- Identifiers: which are the same, and in which order they stand (this profile's own rule).
use Rattle.std.specs.Prelude.{◌≡◌, Bool, List, [], ◌∷◌, nat_eq}
use Rattle.std.specs.List.{list_any}
use Rattle.std.specs.Ordering.{nat_cmp}
use Rattle.std.specs.Cmp.Lexicographic.{slice_cmp}
use Rattle.std.specs.declared.cmp.Ordering.{Ordering}
use Rattle.std.specs.declared.cmp.Ordering.TheVariants.{Less}
use Rattle.lan_base.specs.declared.address.Mi.{Mi}
use Rattle.lan_base.specs.declared.address.Sci.{Sci}
use lib.Pointwise.{pointwise}

-- whether two member identifiers have the same octets
abbrev pub same_mi : Mi → Mi → Bool
same_mi m n = pointwise nat_eq m.0 n.0

-- whether two secure channel identifiers do
abbrev pub same_sci : Sci → Sci → Bool
same_sci s t = pointwise nat_eq s.0 t.0

-- the order of two member identifiers: by the first octet in which they differ
abbrev pub order : Mi → Mi → Ordering
order m n = slice_cmp nat_cmp m.0 n.0

-- whether a member is in a list
abbrev pub has : Mi → List Mi → Bool
has m ms = list_any (λ n. same_mi n m) ms

-- the first member stands before each of the others
abbrev pub IsBefore : Mi → List Mi → Type 0
IsBefore m [] = Unit {0}
IsBefore m (n ∷ ns) = (order m n ≡ Less) × IsBefore m ns

-- each member stands before all that come after it, so that none stands twice
abbrev pub IsAscending : List Mi → Type 0
IsAscending [] = Unit {0}
IsAscending (m ∷ ms) = IsBefore m ms × IsAscending ms
