use Rattle.std.proofs.Common.{true, false}
use Rattle.std.specs.Prelude.{codes}
use Rattle.transcript.proofs.Branches.{malformed, missed, late, tested}
use Rattle.transcript.proofs.facts.refused.Goals as goal

pub returns-then-eq : goal.returns-then-eq
returns-then-eq c = λ names f.
    malformed names f _ _ _ _ c.in_ok-word.ensures (tested _ _ (codes "malformed") _ true c.eq.ensures c.as_slice.ensures c.if-eq.true) (c.malformed.ensures names f)

pub returns-then-eq-3 : goal.returns-then-eq-3
returns-then-eq-3 c = λ names f.
    missed names f _ _ _ _ c.in_ok-word.ensures (tested _ _ (codes "malformed") _ false c.eq.ensures c.as_slice.ensures c.if-eq.false)
    (tested _ _ (codes "own") _ false c.eq-2.ensures c.as_slice-2.ensures c.if-eq-2.false)
    (tested _ _ (codes "missed") _ true c.eq-3.ensures c.as_slice-3.ensures c.if-eq-3.true) (c.missed.ensures names f)

pub returns-then-eq-5 : goal.returns-then-eq-5
returns-then-eq-5 c = λ names f.
    late names f _ _ _ _ c.in_ok-word.ensures (tested _ _ (codes "malformed") _ false c.eq.ensures c.as_slice.ensures c.if-eq.false)
    (tested _ _ (codes "own") _ false c.eq-2.ensures c.as_slice-2.ensures c.if-eq-2.false)
    (tested _ _ (codes "missed") _ false c.eq-3.ensures c.as_slice-3.ensures c.if-eq-3.false)
    (tested _ _ (codes "badcheck") _ false c.eq-4.ensures c.as_slice-4.ensures c.if-eq-4.false)
    (tested _ _ (codes "late") _ true c.eq-5.ensures c.as_slice-5.ensures c.if-eq-5.true) (c.late.ensures names f)
