use Rattle.std.proofs.Common.{sym, ◌∙◌, arith}
use Rattle.lan_schedule.specs.Standing.{phase_of}
use Rattle.lan_schedule.proofs.Closing.{closes-inside}
use Rattle.lan_schedule.proofs.commands.Replay.close.Goals as goal

pub returns-clause-closes : goal.returns-clause-closes
returns-clause-closes c = λ w stands.
    closes-inside w (phase_of c.args.self.now.phase) c.saturating_add.result stands.phase
    (sym c.is_inside.ensures ∙ c.if-not-is_inside.false)
    (let at = c.line.ensures w stands in let counts = c.saturating_add.ensures in
    omega (arith, at, counts))
