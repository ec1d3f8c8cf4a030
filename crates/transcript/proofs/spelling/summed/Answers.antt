use Rattle.std.proofs.Common.{◌≡◌, ◌∙◌, ◌+◌, ◌*◌, Some, ap, subst, arith, take}
use Rattle.std.proofs.lemmas.Bool.Decides.{nat_tests}
use Rattle.std.proofs.lemmas.List.{take_all}
use Rattle.std.specs.Str.Parse.{AllDigits, digits_value}
use Rattle.transcript.proofs.Numbers.{summed_not, summed_few, summed_more, summed_so}
use Rattle.transcript.proofs.spelling.summed.Goals as goal

pub returns-then-not-is_ascii_digit : goal.returns-then-not-is_ascii_digit
returns-then-not-is_ascii_digit c = λ led.
    summed_not c.args.word.now c.loop-octet.octet-index c.loop-octet-test.true
    (λ range. absurd (grind (arith, nat_tests, c.is_ascii_digit.ensures.value, c.if-not-is_ascii_digit.true, range)))

pub overflow_mul-sum : goal.overflow_mul-sum
overflow_mul-sum c =
    let few = summed_few c.args.word.now c.loop-octet.octet-index c.loop-octet.sum c.loop-octet-test.true c.requires
    c.loop-octet.invariant.0 c.loop-octet.invariant.1 in
    omega (arith, few)

pub overflow_add-sum : goal.overflow_add-sum
overflow_add-sum c =
    let few = summed_few c.args.word.now c.loop-octet.octet-index c.loop-octet.sum c.loop-octet-test.true c.requires
    c.loop-octet.invariant.0 c.loop-octet.invariant.1 in
    omega (arith, few, c.from.ensures)

pub loop-octet-preserved : goal.loop-octet-preserved
loop-octet-preserved c =
    let more = summed_more c.args.word.now c.loop-octet.octet-index c.loop-octet.sum c.loop-octet-test.true
    (grind (arith, nat_tests, c.is_ascii_digit.ensures.value, c.if-not-is_ascii_digit.false))
    c.loop-octet.invariant.0 c.loop-octet.invariant.1 in
    (more.0, ap (λ n. c.loop-octet.sum * 10 + n) c.from.ensures ∙ more.1)

pub returns : goal.returns
returns c = λ led.
    let whole : take c.loop-octet.octet-index c.args.word.now ≡ c.args.word.now =
    take_all c.loop-octet.octet-index c.args.word.now (omega (arith, c.loop-octet-test.false)) in
    ap Some (c.loop-octet.invariant.1 ∙ ap (digits_value 10) whole)
    ∙ summed_so c.args.word.now c.requires (subst (λ ds. AllDigits 10 ds) whole c.loop-octet.invariant.0) led
