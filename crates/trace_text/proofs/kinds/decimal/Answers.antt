use Rattle.std.proofs.Common.{◌≡◌, true, sym, subst, ◌∙◌}
use Rattle.std.specs.Str.Parse.{ParsesUnsigned}
use Rattle.trace_text.specs.Kinds.{is_number}
use Rattle.trace_text.proofs.Digits.{is_text, parsed}
use Rattle.trace_text.proofs.kinds.decimal.Goals as goal

pub returns-in-Ok : goal.returns-in-Ok
returns-in-Ok c =
    let numeral : is_number c.args.word.now ≡ true = sym c.if-not-is_number.ensures in
    let read = subst (λ text. ParsesUnsigned 64 10 text c.parse.result) c.in-Ok.ensures.cases.0 c.parse.ensures.value.0 in
    rw numeral (c.ok.ensures.value ∙ parsed c.args.word.now c.parse.result numeral read)

pub returns-in-Err : goal.returns-in-Err
returns-in-Err c = absurd (c.in-Err.ensures.cases.0 (is_text c.args.word.now (sym c.if-not-is_number.ensures)))
