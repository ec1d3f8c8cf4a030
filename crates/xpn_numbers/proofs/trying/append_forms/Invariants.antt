use Rattle.std.proofs.Common.{◌≡◌, ◌++◌, take}
use Rattle.std.specs.List.{flat_map}
use Rattle.xpn_numbers.specs.Candidates.{plain_of, salted_of}
use Rattle.xpn_numbers.proofs.trying.append_forms.Given as goal

abbrev pub invariant-loop-form : goal.invariant-loop-form
invariant-loop-form l = l.into.items ≡ l.initial.into.items ++ flat_map (plain_of l.tried) (take l.form-index l.forms)

abbrev pub invariant-salted : goal.invariant-salted
invariant-salted l = l.into.items ≡ l.initial.into.items
    ++ flat_map (salted_of l.tried l.hints.places l.hints.set.now l.hints.shown.now) (take l.form-index l.forms)
