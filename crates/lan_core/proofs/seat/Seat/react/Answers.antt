use Rattle.std.proofs.Common.{◌≡◌, ◌+◌, ℕ, true, false, subst}
use Rattle.std.specs.Prelude.{IfOk, OnOk}
use Rattle.sak_exchange.specs.declared.due.Seen.{Seen}
use Rattle.mka_station.specs.Drawing.{sak_of, is_short, draws_at}
use Rattle.mka_station.specs.Tick.{tick_turn}
use Rattle.lan_core.specs.Lives.{lived, receiving}
use Rattle.lan_core.specs.Standing.{Sits}
use Rattle.lan_core.specs.inside.Following.{followed}
use Rattle.lan_core.proofs.seat.Seat.react.Goals as goal

pub returns-clause-reaction : goal.returns-clause-reaction
returns-clause-reaction g c = λ settings place r l s.
    let sak = sak_of l.member.setup.suite (g.D.Draws.nth c.args.draws.now) in
    subst (λ (seen : Seen). IfOk c.advance.result (λ x. x ≡ (tick_turn l.member seen sak l.past).reaction))
    (c.seen-seen.ensures settings place r l s) (c.advance.ensures.reaction settings.window l (receiving place r) s)

pub returns-clause-stands : goal.returns-clause-stands
returns-clause-stands g c = λ settings place r l s.
    let sak = sak_of l.member.setup.suite (g.D.Draws.nth c.args.draws.now) in
    subst (λ (seen : Seen). IfOk c.advance.result (λ x. Sits settings.window (lived l (tick_turn l.member seen sak l.past))
    (followed x.changes (receiving place r)) c.advance.new.self))
    (c.seen-seen.ensures settings place r l s) (c.advance.ensures.stands settings.window l (receiving place r) s)

pub returns-clause-drawn : goal.returns-clause-drawn
returns-clause-drawn g c = λ settings place r l s.
    subst (λ (seen : Seen). OnOk c.advance.result ((k : ℕ) → g.D.Draws.nth c.advance.new.draws k ≡ g.D.Draws.nth c.args.draws.now (k + draws_at l.member l.past seen)))
    (c.seen-seen.ensures settings place r l s) (c.advance.ensures.drawn settings.window l (receiving place r) s)

pub returns-clause-enough : goal.returns-clause-enough
returns-clause-enough g c = λ settings place r l s.
    subst (λ (seen : Seen). OnOk c.advance.result (is_short l.member l.past seen (g.D.Draws.nth c.args.draws.now) ≡ false))
    (c.seen-seen.ensures settings place r l s) (c.advance.ensures.enough settings.window l (receiving place r) s)

pub returns-clause-spent : goal.returns-clause-spent
returns-clause-spent g c = λ settings place r l s is.
    subst (λ (seen : Seen). is_short l.member l.past seen (g.D.Draws.nth c.args.draws.now) ≡ true)
    (c.seen-seen.ensures settings place r l s) (c.advance.ensures.spent settings.window l (receiving place r) s is)
