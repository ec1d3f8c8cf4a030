use Rattle.std.proofs.Common.{◌≡◌, ◌+◌, ap, ◌∙◌, arith}
use Rattle.trace_text.proofs.Public.{on_err, then_grew}
use Rattle.trace_maker.specs.Generator.{after, value}
use Rattle.trace_maker.specs.Made.{station}
use Rattle.trace_maker.proofs.Steps.{value_more, state_more, line_more, stations_end}
use Rattle.trace_maker.proofs.making.put_stations.Goals as goal

pub loop-i-preserved : goal.loop-i-preserved
loop-i-preserved c =
    let x = c.args.generator.now.state in
    let i = c.loop-i.i in
    let gave = value_more x i c.loop-i.generator.state _ _ c.loop-i.invariant.steps c.value-value.ensures.state c.value-value.ensures.value in
    record {
      text = line_more (λ k. station (k + 1) (value x (k + 1))) i _ c.args.into.now.items c.loop-i.into.items _ c.loop-i.invariant.text
          (c.station_line.ensures ∙ ap (station (i + 1)) gave) c.in_ok-put.ensures.ok;
      steps = state_more x i c.loop-i.generator.state _ c.loop-i.invariant.steps c.value-value.ensures.state;
    }

pub returns-in_err-put-clause-err : goal.returns-in_err-put-clause-err
returns-in_err-put-clause-err c =
    on_err _ (then_grew _ _ _ (_, c.loop-i.invariant.text) c.in_err-put.ensures.err)

pub returns-clause-ok : goal.returns-clause-ok
returns-clause-ok c =
    let all : c.loop-i.i ≡ 6 = omega (arith, c.loop-i.auto.i-end, c.loop-i-test.false) in
    stations_end c.args.generator.now.state c.loop-i.i _ _ all c.loop-i.invariant.text

pub returns-clause-steps : goal.returns-clause-steps
returns-clause-steps c =
    let all : c.loop-i.i ≡ 6 = omega (arith, c.loop-i.auto.i-end, c.loop-i-test.false) in
    c.loop-i.invariant.steps ∙ ap (after c.args.generator.now.state) all
