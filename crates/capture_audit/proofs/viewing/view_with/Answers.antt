use Rattle.std.proofs.Common.{◌≡◌, ◌∙◌, List, [], ap, subst}
use Rattle.std.proofs.lemmas.Result.{err_from_is_err_and}
use Rattle.key_ring.specs.Rings.{Ring}
use Rattle.key_ring.specs.declared.ring.HandKey.{HandKey}
use Rattle.known_keys.specs.History.{keys}
use Rattle.capture_audit.specs.Before.{set_behind}
use Rattle.capture_audit.specs.inside.Keeping.{numbered_among}
use Rattle.capture_audit.specs.inside.Viewing.{IsEndOfHand}
use Rattle.capture_audit.proofs.Seeing.{hand-views}
use Rattle.capture_audit.proofs.viewing.view_with.Goals as goal

pub returns-in_err-hand-clause-views : goal.returns-in_err-hand-clause-views
returns-in_err-hand-clause-views g c = λ text is.
    let p = err_from_is_err_and c.from_residual.result c.from_residual.ensures.1 in
    let left = g.S.Source.left c.args.source.now in
    let same : c.deref.result.now ≡ c.args.ring.hand =
    c.deref.ensures.value ∙ ap (λ (r : Ring). r.hand) c.ring.view_is in
    rw (p.1, p.2) (hand-views text left left c.args.ring c.args.supply c.in_err-hand.field-0.0 is
    (subst (λ (hand : List HandKey). IsEndOfHand hand c.in_err-hand.field-0.0) same c.in_err-hand.ensures.ends))

pub returns-clause-views : goal.returns-clause-views
returns-clause-views g c = λ text is.
    let same : c.deref.result.now ≡ c.args.ring.hand =
    c.deref.ensures.value ∙ ap (λ (r : Ring). r.hand) c.ring.view_is in
    c.view_keyed.ensures.views text is (c.in_ok-hand.ensures.numbers
    ∙ ap (λ (hand : List HandKey). numbered_among (keys (set_behind [] hand)) hand) same)
