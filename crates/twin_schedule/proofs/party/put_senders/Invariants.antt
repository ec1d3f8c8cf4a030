use Rattle.std.proofs.Common.{◌≡◌, ◌++◌, take}
use Rattle.twin_schedule.specs.inside.Telling.{senders_in}
use Rattle.twin_schedule.proofs.party.put_senders.Given as goal

abbrev pub invariant-loop-fact : goal.invariant-loop-fact
invariant-loop-fact l =
    l.senders.items ≡ l.fn.senders.items ++ senders_in (take l.fact-index l.facts)
