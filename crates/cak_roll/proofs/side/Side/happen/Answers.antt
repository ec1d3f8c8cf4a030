use Rattle.std.proofs.Common.{sym, subst}
use Rattle.cak_roll.specs.Standing.{StandsIn}
use Rattle.cak_roll.proofs.SideGoes.{event-goes, event-repeats, event-stops, event-refused}
use Rattle.cak_roll.proofs.side.Side.happen.Goals as goal

pub returns-in_err-follow-in-Ok : goal.returns-in_err-follow-in-Ok
returns-in_err-follow-in-Ok g c settings users r both stands are next ready =
    let st = subst (StandsIn settings users r both) (sym c.self.view_is) stands in
    event-refused settings users r both c.args.event.now _ _ _ _ _ _ c.from_residual.ensures.1
    (event-repeats settings users r both c.args.event.now (g.D.Draws.nth c.args.draws.now)
    c.args.drawn.now c.in-Ok.facts _ are
    (c.in-Ok.ensures.goes settings users r st.lan ready.may_come)
    (c.in-Ok.ensures.facts settings users r st.lan ready.may_come)
    (rw (next, c.as_slice.ensures) at c.in_err-follow-in-Ok.ensures.judged))

pub returns-in_ok-follow-in-Ok : goal.returns-in_ok-follow-in-Ok
returns-in_ok-follow-in-Ok g c settings users r both stands are next ready =
    let st = subst (StandsIn settings users r both) (sym c.self.view_is) stands in
    event-goes settings users r both c.args.event.now (g.D.Draws.nth c.args.draws.now)
    (g.D.Draws.nth c.step.new.draws) _ c.follow.new.self c.args.drawn.now c.follow.new.drawn
    c.in-Ok.facts c.step.new.self c.follow.new.self.numbers st are
    (c.in-Ok.ensures.goes settings users r st.lan ready.may_come)
    (c.in-Ok.ensures.facts settings users r st.lan ready.may_come)
    (c.in-Ok.ensures.stands settings users r st.lan ready.may_come)
    (c.in-Ok.ensures.drawn settings users r st.lan ready.may_come)
    ((rw c.as_slice.ensures at c.in_ok-follow-in-Ok.ensures.numbers) settings r st.numbers ready.next)
    (rw (next, c.as_slice.ensures) at c.in_ok-follow-in-Ok.ensures.judged)
    (rw c.as_slice.ensures at c.in_ok-follow-in-Ok.ensures.noted)
    (rw (next, c.as_slice.ensures) at c.in_ok-follow-in-Ok.ensures.counted)

pub returns-in-Err : goal.returns-in-Err
returns-in-Err g c settings users r both stands are next ready =
    let st = subst (StandsIn settings users r both) (sym c.self.view_is) stands in
    event-stops settings users r both c.args.event.now (g.D.Draws.nth c.args.draws.now) _
    c.args.drawn.now c.args.next c.in-Err.error c.over_both.result ready.homely st are next
    (c.in-Err.ensures.refused settings users r st.lan ready.may_come) c.over_both.ensures
