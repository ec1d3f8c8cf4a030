use Rattle.std.proofs.Common.{◌≡◌, ◌+◌, ap, ◌∙◌, arith}
use Rattle.trace_text.specs.Appending.{Grew}
use Rattle.trace_text.proofs.Public.{on_err, then_grew}
use Rattle.trace_maker.specs.Generator.{value}
use Rattle.trace_maker.specs.Made.{chosen}
use Rattle.trace_maker.proofs.Steps.{value_more, state_more, line_more, choices_end}
use Rattle.trace_maker.proofs.making.put_choices.Goals as goal

pub loop-i-preserved : goal.loop-i-preserved
loop-i-preserved c =
    let x = c.args.generator.now.state in
    let i = c.loop-i.i in
    let gave = value_more x i c.loop-i.generator.state _ _ c.loop-i.invariant.steps c.value.ensures.state c.value.ensures.value in
    record {
      text = line_more (λ k. chosen (value x (k + 1))) i _ c.args.into.now.items c.loop-i.into.items _ c.loop-i.invariant.text
          (c.in_ok-line.ensures ∙ ap chosen gave) c.in_ok-put.ensures.ok;
      steps = state_more x i c.loop-i.generator.state _ c.loop-i.invariant.steps c.value.ensures.state;
    }

pub returns-in_err-line-clause-err : goal.returns-in_err-line-clause-err
returns-in_err-line-clause-err c =
    let grew : Grew c.args.into.now.items c.loop-i.into.items = (_, c.loop-i.invariant.text) in
    on_err _ grew

pub returns-in_err-put-clause-err : goal.returns-in_err-put-clause-err
returns-in_err-put-clause-err c =
    on_err _ (then_grew _ _ _ (_, c.loop-i.invariant.text) c.in_err-put.ensures.err)

pub returns-clause-ok : goal.returns-clause-ok
returns-clause-ok c =
    let all : c.loop-i.i ≡ 300 = omega (arith, c.loop-i.auto.i-end, c.loop-i-test.false) in
    choices_end c.args.generator.now.state c.loop-i.i _ _ all c.loop-i.invariant.text
