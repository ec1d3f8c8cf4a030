use Rattle.std.proofs.Common.{◌≡◌, ◌∙◌, ◌+◌, ◌≤◌, ◌++◌, [], ◌∷◌, ℕ, List, length, ap, subst, arith}
use Rattle.known_keys.specs.Maps.{AreKept, Keyed}
use Rattle.known_keys.specs.inside.Steps.{IsKeyed}
use Rattle.known_keys.proofs.Numbering.{keyed-new}
use Rattle.known_keys.proofs.keys.Keys.number.Goals as goal

pub returns-clause-keyed : goal.returns-clause-keyed
returns-clause-keyed c = λ saks kept.
    let items = c.self.inside.prepared.items in
    let before : Keyed = record { prepared = items; numbers = c.self.inside.numbers } in
    let after : Keyed = record { prepared = c.push.new.self.items; numbers = c.put.new.self } in
    let counted = c.len-2.ensures in
    let first = c.len.ensures in
    let few = c.if-len-ge-MOST_KEYS.false in
    let next : c.len-2.result + 1 ≡ length items + 1 = omega (arith, counted) in
    let within : c.len-2.result + 1 ≤ 4096 = omega (arith, first, counted, few) in
    subst (λ (m : Keyed). AreKept saks m → IsKeyed saks c.args.sak (c.len-2.result + 1) after) c.self.view_is
    (λ are. keyed-new saks c.args.sak (c.len-2.result + 1) before after c.in_default.ensures are next within
    (◌∙◌ {A = List (List ℕ)} c.in_ok-push.ensures.items
    (ap (λ (k : List ℕ). items ++ k ∷ []) (◌∙◌ {A = List ℕ} c.of-2.ensures c.of.ensures)))
    c.in_ok-put.ensures.put)
    kept
