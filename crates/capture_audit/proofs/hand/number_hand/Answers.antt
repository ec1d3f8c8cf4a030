use Rattle.std.proofs.Common.{◌<◌, ◌∷◌, ℕ, List, get_or, length, Err, ap, arith, sym, subst}
use Rattle.std.proofs.lemmas.List.{drop_all}
use Rattle.std.proofs.lemmas.Result.{err_from_is_err_and}
use Rattle.key_ring.specs.declared.ring.HandKey.{HandKey}
use Rattle.known_keys.specs.declared.fault.KeyError.{KeyError}
use Rattle.known_keys.specs.History.{Set, keys}
use Rattle.capture_audit.proofs.Filling.{not-full}
use Rattle.capture_audit.proofs.Numbering.{IsNumberedTo, number-begin, number-end, number-more, number-stop}
use Rattle.capture_audit.proofs.Setting.{hand-drop, no_key}
use Rattle.capture_audit.proofs.hand.number_hand.Goals as goal

pub loop-key-init : goal.loop-key-init
loop-key-init c =
    subst (λ (numbered : List (ℕ × HandKey)). IsNumberedTo c.args.hand.now 0 c.new-known.result numbered)
    (sym c.new-numbered.ensures.items) (number-begin c.args.hand.now c.new-known.result c.new-known.ensures.stands)

pub loop-key-preserved : goal.loop-key-preserved
loop-key-preserved c =
    let was = c.loop-key.invariant in
    let set = c.in_ok-number.ensures in
    let hand = c.args.hand.now in
    let i = c.loop-key.key-index in
    let key = get_or hand i no_key in
    let lt : c.loop-key.key-index < length c.args.hand.now = omega arith in
    number-more hand i key c.loop-key.known c.loop-key.numbered.items (hand-drop hand i lt) was c.in_ok-number.number _ _
    (set.set was.told was.stands) (set.number was.told was.stands)
    (not-full _ _ (length (keys (Set key.sender key.an key.sak ∷ was.told))) (set.full was.told was.stands))
    c.in_ok-push.ensures.items

pub returns-in_err-number-clause-ends : goal.returns-in_err-number-clause-ends
returns-in_err-number-clause-ends c =
    let p = err_from_is_err_and c.from_residual.result c.from_residual.ensures.1 in
    let was = c.loop-key.invariant in
    let hand = c.args.hand.now in
    let i = c.loop-key.key-index in
    let key = get_or hand i no_key in
    let lt : c.loop-key.key-index < length c.args.hand.now = omega arith in
    let full = c.in_err-number.ensures.full was.told was.stands in
    rw (p.1, p.2) (number-stop hand i key c.loop-key.known c.loop-key.numbered.items (hand-drop hand i lt) was
    c.in_err-number.field-0.0 (λ is. full.0 (ap (λ (e : KeyError). Err e) is)))

pub returns-clause-numbers : goal.returns-clause-numbers
returns-clause-numbers c =
    number-end c.args.hand.now c.loop-key.key-index c.loop-key.known c.loop-key.numbered.items
    (drop_all c.loop-key.key-index c.args.hand.now c.loop-key-test.false) c.loop-key.invariant
