use Rattle.std.proofs.Common.{◌≡◌, ◌<◌, ℕ, false, get_or}
use Rattle.std.specs.Prelude.{nat_eq}
use lib.Pointwise.{pointwise}
use Rattle.lan_base.specs.declared.name.Name.{Name}
use Rattle.lan_core.proofs.names.first_of.Given as goal

abbrev pub invariant-loop-place : goal.invariant-loop-place
invariant-loop-place l =
    (k : ℕ) (d : Name) → k < l.place → pointwise nat_eq (get_or l.names k d) l.name ≡ false
