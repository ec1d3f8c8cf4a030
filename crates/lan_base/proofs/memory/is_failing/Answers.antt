use Rattle.std.proofs.Common.{◌≡◌, ◌+◌, ◌≤◌, ◌^◌, false, arith}
use Rattle.lan_base.specs.InMemory.{is_listed}
use Rattle.lan_base.proofs.Calls.{is_listed-past}
use Rattle.lan_base.proofs.memory.is_failing.Goals as goal

pub returns-in_default-clause-answer : goal.returns-in_default-clause-answer
returns-in_default-clause-answer c =
    let last : 2 ^ 64 ≤ c.args.calls.now + 1 = omega (arith, c.in_default.ensures) in
    let past : is_listed c.args.fails.now (c.args.calls.now + 1) ≡ false = is_listed-past c.args.fails.now (c.args.calls.now + 1) (λ k. omega (arith, c.type_inv.fails k)) last in
    (λ h. cc, λ h. cc)
