use Rattle.std.proofs.Common.{◌≡◌, ◌∙◌, ◌||◌, Some, sym, ap}
use Rattle.std.specs.List.{list_any}
use Rattle.lan_core.specs.inside.Repeats.{begins, begins_at, first_with}
use Rattle.lan_core.proofs.CheckPlaced.{found_any, or_then, or_else}
use Rattle.lan_core.proofs.air.Air.has.Goals as goal

pub returns-then-begins : goal.returns-then-begins
returns-then-begins c = λ only.
    let frames = c.self.inside.frames.items in
    let checks = c.self.inside.checks in
    let octets = c.args.octets.now in
    let rest = list_any (λ place. begins_at frames octets (Some place)) checks.others in
    let at : c.begins.result ≡ begins_at frames octets (first_with checks c.args.check.now) =
    c.begins.ensures ∙ ap (begins_at c.args.self.now octets) c.first-first.ensures ∙ ap (λ fs. begins_at fs octets (first_with checks c.args.check.now)) (sym c.self.view_is) in
    or_then c.begins.result rest (list_any (begins octets) c.args.self.now) c.if-begins.true
    (ap (λ b. b || rest) at ∙ found_any frames checks octets c.args.check.now c.self.invariant.found only ∙ ap (list_any (begins octets)) c.self.view_is)

pub returns-else-begins : goal.returns-else-begins
returns-else-begins c = λ only.
    let frames = c.self.inside.frames.items in
    let checks = c.self.inside.checks in
    let octets = c.args.octets.now in
    let first = begins_at frames octets (first_with checks c.args.check.now) in
    let at : c.begins.result ≡ first =
    c.begins.ensures ∙ ap (begins_at c.args.self.now octets) c.first-first.ensures ∙ ap (λ fs. begins_at fs octets (first_with checks c.args.check.now)) (sym c.self.view_is) in
    let among : c.any_begins.result ≡ list_any (λ place. begins_at frames octets (Some place)) checks.others =
    c.any_begins.ensures ∙ ap (list_any (λ place. begins_at c.args.self.now octets (Some place))) c.others.ensures
    ∙ ap (λ fs. list_any (λ place. begins_at fs octets (Some place)) checks.others) (sym c.self.view_is) in
    or_else c.begins.result c.any_begins.result (list_any (begins octets) c.args.self.now) c.if-begins.false
    (ap (λ b. b || c.any_begins.result) at ∙ ap (λ b. first || b) among
    ∙ found_any frames checks octets c.args.check.now c.self.invariant.found only ∙ ap (list_any (begins octets)) c.self.view_is)
