use Rattle.std.proofs.Common.{rules, ◌∙◌}
use Rattle.sak_exchange.proofs.Ticks.{drops-told, stands-dropped, stands-same}
use Rattle.sak_exchange.proofs.key_state.KeyState.drop_all.Goals as goal

pub returns-clause-changes : goal.returns-clause-changes
returns-clause-changes c = λ base own h s. c.in_ok-changes.ensures.changes ∙ drops-told base own c.args.self.now h s

pub returns-clause-stands : goal.returns-clause-stands
returns-clause-stands c =
    λ base own h s.
    stands-same _ _ (search (rules, c.self.view_is)) (stands-dropped base own c.args.self.now h s)

pub returns-in_err-changes-clause-prompt : goal.returns-in_err-changes-clause-prompt
returns-in_err-changes-clause-prompt c = λ base own h s none. absurd (cc (c.in_err-changes.ensures.prompt (drops-told base own c.args.self.now h s ∙ none)))
