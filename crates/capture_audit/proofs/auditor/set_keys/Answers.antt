use Rattle.std.proofs.Common.{◌∙◌, ◌<◌, ◌∷◌, get_or, length, Err, refl, ap, arith}
use Rattle.std.proofs.lemmas.List.{drop_all}
use Rattle.std.proofs.lemmas.Result.{err_from_is_err_and}
use Rattle.known_keys.specs.declared.fault.KeyError.{KeyError}
use Rattle.known_keys.specs.History.{Set, keys}
use Rattle.capture_audit.proofs.Filling.{not-full}
use Rattle.capture_audit.proofs.Setting.{hand-drop, no_key, sets-begin, sets-end, sets-more, sets-stop}
use Rattle.capture_audit.proofs.auditor.set_keys.Goals as goal

pub loop-key-init : goal.loop-key-init
loop-key-init c = (refl, λ stands. sets-begin c.args.hand.now c.args.keys c.args.known.now c.args.into.now.items stands)

pub loop-key-preserved : goal.loop-key-preserved
loop-key-preserved c =
    let was = c.loop-key.invariant in
    let set = c.in_ok-number.ensures in
    let hand = c.args.hand.now in
    let i = c.loop-key.key-index in
    let key = get_or hand i no_key in
    let lt : c.loop-key.key-index < length c.args.hand.now = omega arith in (
      set.last ∙ was.0,
      λ stands.
          let up = was.1 stands in
          sets-more hand c.args.keys i key c.in_ok-number.number _ _ _ _ _ (hand-drop hand i lt) up
          (set.set up.told up.stands) (set.number up.told up.stands)
          (not-full _ _ (length (keys (Set key.sender key.an key.sak ∷ up.told))) (set.full up.told up.stands))
          c.in_ok-put_hand_line.ensures,
    )

pub returns-in_err-number-clause-sets : goal.returns-in_err-number-clause-sets
returns-in_err-number-clause-sets c = λ stands.
    let p = err_from_is_err_and c.from_residual.result c.from_residual.ensures.1 in
    let hand = c.args.hand.now in
    let i = c.loop-key.key-index in
    let key = get_or hand i no_key in
    let lt : c.loop-key.key-index < length c.args.hand.now = omega arith in
    let up = c.loop-key.invariant.1 stands in
    let full = c.in_err-number.ensures.full up.told up.stands in
    rw (p.1, p.2) (sets-stop hand c.args.keys i key c.loop-key.known c.set.new.self c.args.into.now.items c.loop-key.into.items c.loop-key.into.items
    c.in_err-number.field-0.0 (hand-drop hand i lt) up
    (λ is. full.0 (ap (λ (e : KeyError). Err e) is)))

pub returns-clause-sets : goal.returns-clause-sets
returns-clause-sets c = λ stands.
    sets-end c.args.hand.now c.args.keys c.loop-key.key-index _ _ _ (drop_all c.loop-key.key-index c.args.hand.now c.loop-key-test.false) (c.loop-key.invariant.1 stands)
