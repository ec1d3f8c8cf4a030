use Rattle.std.proofs.Common.{◌≡◌, ◌≤◌, ◌<◌, ◌-◌, ℕ, List, length, take, refl, sym, arith}
use Rattle.std.proofs.lemmas.List.{length-take-le, take_all, take-take}
use Rattle.text_lines.proofs.Handing.{Laws}
use Rattle.text_lines.proofs.Pieces.{read-none, read-more, rose-earlier, reads, takes-fault}
use Rattle.text_lines.proofs.Pieces.{takes-end, takes-err, takes-limited, handed-out}
use Rattle.text_lines.proofs.Turning.{no-turn, one-more, at-last, last-end, last-limited, last-out}
use Rattle.text_lines.proofs.reading.read_lines.Given.{Over}
use Rattle.text_lines.proofs.reading.read_lines.Goals as goal

laws : (g : Over) → Laws g.T.LineTaker.Did
laws g = let m = g.met.T.LineTaker in record { none = m.none; more = m.more; early = m.early }

-- a piece with octets in it
filled : (count : ℕ) (into : List ℕ) → count ≤ length into → (count ≡ 0 → ⊥)
    → 0 < length (take count into)
filled count into fits some = let long = length-take-le count into fits in omega (arith, long, some)

pub loop-count-init : goal.loop-count-init
loop-count-init g c = record {
  within = omega arith;
  counts = omega arith;
  read = rw c.new-begun.ensures.items (read-none g.T.LineTaker.Did (laws g) _ _);
  turned = rw c.new-begun.ensures.items (no-turn g.S.Source.Gave g.T.LineTaker.Did (laws g) _ _);
}

pub returns-in_default-clause-reads : goal.returns-in_default-clause-reads
returns-in_default-clause-reads g c =
    let s = g.S.Source in
    reads _ (laws g) _ _ _ _ _ _ (takes-fault _ (laws g) c.args.limit c.loop-count.total _ _ _ _ _ _
    c.loop-count.invariant.read c.loop-count.invariant.within c.in_default.ensures.kept
    (rose-earlier _ _ _ c.loop-count.invariant.counts c.in_default.ensures.failed))

pub returns-then-count-eq0-clause-reads : goal.returns-then-count-eq0-clause-reads
returns-then-count-eq0-clause-reads g c =
    reads _ (laws g) _ _ _ _ _ _ (takes-end _ (laws g) c.args.limit c.loop-count.total c.in-Ok.count
    c.read.new.into _ _ _ _ _ _ _ c.last.result c.loop-count.invariant.read
    c.loop-count.invariant.within c.in-Ok.ensures.moved c.if-count-eq0.true
    (c.in-Ok.ensures.end c.if-count-eq0.true) (rw c.as_slice.ensures.value at c.last.ensures))

pub returns-then-limit-total-clause-reads : goal.returns-then-limit-total-clause-reads
returns-then-limit-total-clause-reads g c =
    let long = length-take-le c.in-Ok.count c.read.new.into c.in-Ok.ensures.fits in
    let past = c.if-limit-total.true in
    rw c.limited.ensures (reads _ (laws g) _ _ _ _ _ _ (takes-limited _ (laws g) c.args.limit
    c.loop-count.total _ _ _ _ _ (take c.in-Ok.count c.read.new.into)
    (take (c.args.limit - c.loop-count.total) c.read.new.into) _ _ c.feed.result
    c.loop-count.invariant.read c.loop-count.invariant.within c.in-Ok.ensures.moved
    (let fits = c.in-Ok.ensures.fits in let same = c.read.auto.into in omega (arith, long, fits, same))
    (sym (take-take (c.args.limit - c.loop-count.total) c.in-Ok.count c.read.new.into
    (omega (arith, past)))) (omega (arith, long, past)) c.feed.ensures.does))

pub returns-in_err-feed-clause-reads : goal.returns-in_err-feed-clause-reads
returns-in_err-feed-clause-reads g c =
    let long = length-take-le c.in-Ok.count c.read.new.into c.in-Ok.ensures.fits in
    let few = c.if-limit-total.false in
    reads _ (laws g) _ _ _ _ _ _ (handed-out _ (laws g) c.args.limit _ _ _ _ c.in_err-feed.field-0.0
    c.from_residual.result
    (takes-err _ (laws g) c.args.limit c.loop-count.total _ _ _ _ _
    (take c.in-Ok.count c.read.new.into) (take c.in-Ok.count c.read.new.into) _ _
    c.in_err-feed.field-0.0 c.loop-count.invariant.read c.loop-count.invariant.within
    c.in-Ok.ensures.moved
    (let fits = c.in-Ok.ensures.fits in let same = c.read.auto.into in omega (arith, long, fits, same))
    (sym (take_all (c.args.limit - c.loop-count.total) (take c.in-Ok.count c.read.new.into)
    (omega (arith, long, few))))
    c.in_err-feed.ensures.does) c.from_residual.ensures.1)

pub loop-count-preserved : goal.loop-count-preserved
loop-count-preserved g c = record {
  within = omega arith;
  counts = let before = c.loop-count.invariant.counts in let more = c.read.ensures.counts in
      omega (arith, before, more);
  read = read-more g.T.LineTaker.Did (laws g) _ c.loop-count.total _ _ _ _ (take c.in-Ok.count c.read.new.into)
      _ _ _ c.in-Ok.count c.loop-count.invariant.read c.in-Ok.ensures.moved
      (sym (length-take-le c.in-Ok.count c.read.new.into c.in-Ok.ensures.fits))
      c.in_ok-feed.ensures.does c.in_ok-feed.ensures.begun;
  turned = one-more g.S.Source.Gave g.T.LineTaker.Did (laws g) (take c.in-Ok.count c.read.new.into) _ _
      _ _ _ _ c.in-Ok.count _ _ _
      (filled c.in-Ok.count c.read.new.into c.in-Ok.ensures.fits c.if-count-eq0.false)
      (sym (length-take-le c.in-Ok.count c.read.new.into c.in-Ok.ensures.fits))
      c.loop-count.invariant.turned c.in-Ok.ensures.gave c.in_ok-feed.ensures.does
      c.in_ok-feed.ensures.begun;
}

pub returns-in_default-clause-turns : goal.returns-in_default-clause-turns
returns-in_default-clause-turns g c =
    at-last g.S.Source.Gave g.T.LineTaker.Did (laws g) c.args.limit c.loop-count.total _ _ _ _ _ _ _ _
    c.loop-count.invariant.within c.loop-count.invariant.turned (c.in_default.ensures.gave, refl)

pub returns-then-count-eq0-clause-turns : goal.returns-then-count-eq0-clause-turns
returns-then-count-eq0-clause-turns g c =
    at-last g.S.Source.Gave g.T.LineTaker.Did (laws g) c.args.limit c.loop-count.total _ _ _ _ _ _ _ _
    c.loop-count.invariant.within c.loop-count.invariant.turned
    (last-end g.S.Source.Gave g.T.LineTaker.Did (laws g) _ _ c.in-Ok.count c.read.new.into _ _ _ _
    c.last.result c.if-count-eq0.true c.in-Ok.ensures.gave
    (rw c.as_slice.ensures.value at c.last.ensures))

pub returns-then-limit-total-clause-turns : goal.returns-then-limit-total-clause-turns
returns-then-limit-total-clause-turns g c =
    let past = c.if-limit-total.true in
    let room = c.args.limit - c.loop-count.total in
    let long = length-take-le c.in-Ok.count c.read.new.into c.in-Ok.ensures.fits in
    rw c.limited.ensures (at-last g.S.Source.Gave g.T.LineTaker.Did (laws g) c.args.limit
    c.loop-count.total _ _ _ _ _ _ _ _
    c.loop-count.invariant.within c.loop-count.invariant.turned
    (last-limited g.S.Source.Gave g.T.LineTaker.Did (laws g) room _
    (take c.in-Ok.count c.read.new.into) (take room c.read.new.into) _ _ _ _ c.feed.result
    (omega (arith, past, long))
    (sym (take-take room c.in-Ok.count c.read.new.into (omega (arith, past))))
    c.in-Ok.ensures.gave c.feed.ensures.does))

pub returns-in_err-feed-clause-turns : goal.returns-in_err-feed-clause-turns
returns-in_err-feed-clause-turns g c =
    let few = c.if-limit-total.false in
    let long = length-take-le c.in-Ok.count c.read.new.into c.in-Ok.ensures.fits in
    at-last g.S.Source.Gave g.T.LineTaker.Did (laws g) c.args.limit c.loop-count.total _ _ _ _ _ _ _ _
    c.loop-count.invariant.within c.loop-count.invariant.turned
    (last-out g.S.Source.Gave g.T.LineTaker.Did (laws g) _ _ (take c.in-Ok.count c.read.new.into) _ _ _ _
    c.in_err-feed.field-0.0 c.from_residual.result
    (filled c.in-Ok.count c.read.new.into c.in-Ok.ensures.fits c.if-count-eq0.false)
    (omega (arith, few, long))
    c.in-Ok.ensures.gave c.in_err-feed.ensures.does c.from_residual.ensures.1)
