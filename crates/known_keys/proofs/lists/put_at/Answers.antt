use Rattle.std.proofs.Common.{◌≡◌, ◌∙◌, ℕ, List, [], Option, refl, ap, sym, subst}
use Rattle.std.specs.Prelude.{IsSome, unwrap_or}
use Rattle.std.specs.BTreeMap.{BTreeMap, is_at}
use Rattle.std.specs.Map.{set_value}
use Rattle.std.proofs.lemmas.Map.Steps.{set_value_same}
use Rattle.known_keys.specs.Maps.{Place, place_cmp, numbers_at}
use Rattle.known_keys.specs.inside.Steps.{with_place, IsPutAt}
use Rattle.known_keys.proofs.ListPuts.{put_at, on_ok, on_err}
use Rattle.known_keys.proofs.lists.put_at.Goals as goal

pub returns-in-Some-clause-put : goal.returns-in-Some-clause-put
returns-in-Some-clause-put c =
    let holds = c.get_mut.follows.holds c.put.new.self in
    let now = holds.3 (subst (λ (o : Option (List ℕ)). IsSome o) c.in-Some.ensures.value refl) in
    on_ok c.put.result
    (λ put. put_at c.args.key c.args.number _ _ c.put.new.self
    now.0 now.1
    (put ∙ ap (λ (o : Option (List ℕ)). with_place c.args.number (unwrap_or o [])) c.in-Some.ensures.value))
    c.put.ensures.put

pub returns-in-Some-clause-kept : goal.returns-in-Some-clause-kept
returns-in-Some-clause-kept c =
    on_err c.put.result
    (λ kept. (c.get_mut.follows.holds c.put.new.self).0
    ∙ ap (λ (own : List ℕ). set_value (is_at (place_cmp c.args.key)) c.args.lists.now.entries own) kept
    ∙ set_value_same (is_at (place_cmp c.args.key)) c.args.lists.now.entries c.in-Some.falling.now
    (sym c.in-Some.ensures.value))
    c.put.ensures.kept

pub returns-clause-put : goal.returns-clause-put
returns-clause-put c =
    let left = c.get_mut.follows.lender-at-none in
    let same : left ≡ c.args.lists.now = c.get_mut.follows.holds-at-none in
    subst (λ (m : BTreeMap Place (List ℕ)).
    IsPutAt c.args.key c.args.number m.entries c.insert.new.self.entries) same
    (put_at c.args.key c.args.number left.entries c.insert.new.self.entries c.put-2.new.self
    (λ q. c.in_ok-insert.ensures.updates.0 q) c.in_ok-insert.ensures.updates.1
    (c.in_ok-put.ensures.put
    ∙ ap (λ (ns : List ℕ). with_place c.args.number ns) c.new-falling.ensures
    ∙ ap (λ (o : Option (List ℕ)). with_place c.args.number (unwrap_or o [])) c.in_default.ensures.value
    ∙ ap (λ (m : BTreeMap Place (List ℕ)). with_place c.args.number (numbers_at m.entries c.args.key)) (sym same)))
