use Rattle.std.proofs.Common.{◌∙◌, ◌-◌, ℕ, ap, arith, length, take}
use Rattle.std.proofs.lemmas.List.{length-take-le, take_all}
use Rattle.audit_text.proofs.Returned.{returned, unreturned}
use Rattle.audit_text.proofs.parting.kept_of.Goals as goal

pub returns-then-last-eq13 : goal.returns-then-last-eq13
returns-then-last-eq13 c =
    let line = c.args.line.now in
    let some = c.in-len1-up.len_at_least in
    ap (λ (k : ℕ). take k line) (length-take-le (length line - 1) line (omega arith))
    ∙ returned line some c.if-last-eq13.true

pub returns-else-last-eq13 : goal.returns-else-last-eq13
returns-else-last-eq13 c =
    let line = c.args.line.now in
    take_all (length line) line (omega arith) ∙ unreturned line c.in-len1-up.len_at_least c.if-last-eq13.false
