use Rattle.std.proofs.Common.{◌≡◌, []}
use Rattle.known_keys.specs.Standing.{StandsFor}
use Rattle.capture_audit.specs.inside.Keeping.{AreSetUpTo}
use Rattle.capture_audit.proofs.auditor.set_keys.Given as goal

abbrev pub invariant-loop-key : goal.invariant-loop-key
invariant-loop-key l =
    (l.known.firsts.last ≡ l.initial.known.firsts.last)
    × (StandsFor [] l.initial.known → AreSetUpTo l.hand l.keys l.key-index l.known l.initial.into.items l.into.items)
