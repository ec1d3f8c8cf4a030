use Rattle.std.proofs.Common.{true, false}
use Rattle.std.specs.Prelude.{codes}
use Rattle.transcript.proofs.Branches.{got, accepted, refused, tested}
use Rattle.transcript.proofs.facts.arrival.Goals as goal

pub returns-then-eq : goal.returns-then-eq
returns-then-eq c = λ names f.
    accepted names f _ _ _ _ (got _ _ _ _ c.next_word.ensures c.in_ok-word.ensures.ok_part)
    (tested _ _ (codes "accepted") _ true c.eq.ensures c.as_slice.ensures c.if-eq.true) (c.accepted.ensures names f)

pub returns : goal.returns
returns c = λ names f.
    refused names f _ _ _ c.refused.result c.ok_or-2.result (got _ _ _ _ c.next_word.ensures c.in_ok-word.ensures.ok_part)
    (tested _ _ (codes "accepted") _ false c.eq.ensures c.as_slice.ensures c.if-eq.false) (c.refused.ensures names f) c.ok_or-2.ensures.value
