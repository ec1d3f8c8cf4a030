use Rattle.std.proofs.Common.{◌∙◌, ◌++◌, [], ◌∷◌, ℕ, ap}
use Rattle.std.specs.Prelude.{◌||◌}
use Rattle.known_keys.specs.Numbered.{greatest_first}
use Rattle.known_keys.proofs.Greatest.{step-first, step-second, step-both, first-ended, second-ended, on_extended, greater-first, greater-second, greater-both}
use Rattle.known_keys.proofs.falling.append_both.Goals as goal

pub returns-in_default : goal.returns-in_default
returns-in_default c = λ p q k first second.
    on_extended c.extend_from_slice.result c.loop-a.numbers.items c.extend_from_slice.new.self.items c.loop-a.other.now
    (c.args.numbers.now.items ++ greatest_first (λ n. p n || q n) k) c.extend_from_slice.ensures.items
    (first-ended p q c.args.numbers.now.items c.loop-a.numbers.items c.loop-a.one.now c.loop-a.other.now k
    (c.loop-a.invariant p q k first second) c.in_default.ensures.cases)

pub returns-in_default-split_first : goal.returns-in_default-split_first
returns-in_default-split_first c = λ p q k first second.
    on_extended c.extend_from_slice-in_default-split_first.result c.loop-a.numbers.items
    c.extend_from_slice-in_default-split_first.new.self.items c.loop-a.one.now
    (c.args.numbers.now.items ++ greatest_first (λ n. p n || q n) k)
    c.extend_from_slice-in_default-split_first.ensures.items
    (second-ended p q c.args.numbers.now.items c.loop-a.numbers.items c.loop-a.one.now c.loop-a.other.now k
    (c.loop-a.invariant p q k first second) c.in_default-split_first.ensures.cases)

pub loop-a-preserved-then-b-a : goal.loop-a-preserved-then-b-a
loop-a-preserved-then-b-a c = λ p q k first second.
    let a = c.in-Some.a.now in
    let b = c.in-Some-split_first.b.now in
    step-first p q c.args.numbers.now.items c.loop-a.numbers.items c.push.new.self.items c.loop-a.one.now c.loop-a.other.now
    a b k c.in-Some.behind_a.now c.in-Some-split_first.behind_b.now
    (c.loop-a.invariant p q k first second) c.in-Some.ensures.cases.0 c.in-Some-split_first.ensures.cases.0 c.if-b-a.true
    (c.in_ok-push.ensures.items ∙ ap (λ (n : ℕ). c.loop-a.numbers.items ++ n ∷ []) (c.greater.ensures ∙ greater-first a b c.if-b-a.true))

pub loop-a-preserved-then-a-b : goal.loop-a-preserved-then-a-b
loop-a-preserved-then-a-b c = λ p q k first second.
    let a = c.in-Some.a.now in
    let b = c.in-Some-split_first.b.now in
    step-second p q c.args.numbers.now.items c.loop-a.numbers.items c.push.new.self.items c.loop-a.one.now c.loop-a.other.now
    a b k c.in-Some.behind_a.now c.in-Some-split_first.behind_b.now
    (c.loop-a.invariant p q k first second) c.in-Some.ensures.cases.0 c.in-Some-split_first.ensures.cases.0 c.if-a-b.true
    (c.in_ok-push.ensures.items ∙ ap (λ (n : ℕ). c.loop-a.numbers.items ++ n ∷ []) (c.greater.ensures ∙ greater-second a b c.if-a-b.true))

pub loop-a-preserved : goal.loop-a-preserved
loop-a-preserved c = λ p q k first second.
    let a = c.in-Some.a.now in
    let b = c.in-Some-split_first.b.now in
    let same = greater-both a b c.if-b-a.false c.if-a-b.false in
    step-both p q c.args.numbers.now.items c.loop-a.numbers.items c.push.new.self.items c.loop-a.one.now c.loop-a.other.now
    a b k c.in-Some.behind_a.now c.in-Some-split_first.behind_b.now
    (c.loop-a.invariant p q k first second) c.in-Some.ensures.cases.0 c.in-Some-split_first.ensures.cases.0 same.0
    (c.in_ok-push.ensures.items ∙ ap (λ (n : ℕ). c.loop-a.numbers.items ++ n ∷ []) (c.greater.ensures ∙ same.1))
