use Rattle.std.proofs.Common.{◌≡◌, drop}
use Rattle.receive_channels.specs.Channels.{with_added}
use Rattle.receive_channels.proofs.next.with_added.Given as goal

-- those that are left, added to what is there, give the same
abbrev pub invariant-loop-sci : goal.invariant-loop-sci
invariant-loop-sci l = with_added (drop l.sci-index l.added) l.present.items ≡ with_added l.added l.channels
