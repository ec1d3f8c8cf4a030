use Rattle.std.proofs.Common.{[], ◌+◌, ◌++◌, sym, ap, ◌∙◌, subst}
use Rattle.std.specs.Option.{option_copied}
use Rattle.lan_core.specs.Answers.{IsWhy}
use Rattle.lan_core.specs.Run.{Run}
use Rattle.cak_roll.specs.inside.Parts.{events_of_part, IsReadyPart}
use Rattle.cak_roll.specs.inside.Sides.{EventsGo, Happen, events_stop}
use Rattle.cak_roll.proofs.SideGoes.{sent-stops, sent-happens, emission-ready, nothing-happens}
use Rattle.cak_roll.proofs.SideGoes.{claim-counts, part-refused}
use Rattle.cak_roll.proofs.side.Side.run.Goals as goal

pub returns-in-Nothing : goal.returns-in-Nothing
returns-in-Nothing g c settings users r both stands are next ready =
    subst (λ p. (x : Run) × EventsGo c.args.group settings users r both (events_of_part p)
    (g.D.Draws.nth c.args.draws.now) (g.D.Draws.nth c.args.draws.now) c.args.self.now
    c.args.drawn.now c.args.told.now c.args.told.now x) (sym c.in-Nothing.is) (
      [],
      nothing-happens c.args.group settings users r both (g.D.Draws.nth c.args.draws.now)
          c.args.self.now c.args.drawn.now c.args.told.now stands are,
    )

pub returns-in-One : goal.returns-in-One
returns-in-One g c settings users r both stands are next ready =
    subst (λ p. Happen c.args.group settings users r both (events_of_part p)
    (g.D.Draws.nth c.args.draws.now) (g.D.Draws.nth c.tell.new.draws) c.tell.new.self
    c.tell.new.drawn c.args.told.now c.tell.new.told c.tell.result) (sym c.in-One.is)
    (c.tell.ensures settings users r both stands are next
    (subst (IsReadyPart settings users r (option_copied c.args.user)) c.in-One.is ready))

pub returns-in_err-tell-in-Sent : goal.returns-in_err-tell-in-Sent
returns-in_err-tell-in-Sent g c settings users r both stands are next ready =
    let both-ready = subst (IsReadyPart settings users r (option_copied c.args.user)) c.in-Sent.is
    ready in
    part-refused c.args.group settings users r both (events_of_part c.args.part.now) _ _ _ _ _ _ _ _
    c.from_residual.ensures.1
    (subst (λ p. IsWhy (events_stop settings users r both (events_of_part p)
    (g.D.Draws.nth c.args.draws.now)) c.in_err-tell-in-Sent.field-0.0) (sym c.in-Sent.is)
    (sent-stops c.args.group settings users r both c.in-Sent.station c.in-Sent.number c.in-Sent.pn
    (g.D.Draws.nth c.args.draws.now) c.in_err-tell-in-Sent.field-0.0
    (c.in_err-tell-in-Sent.ensures settings users r both stands are next both-ready.0)))

pub returns-in_ok-tell-in-Sent : goal.returns-in_ok-tell-in-Sent
returns-in_ok-tell-in-Sent g c settings users r both stands are next ready =
    let both-ready = subst (IsReadyPart settings users r (option_copied c.args.user)) c.in-Sent.is
    ready in
    let one = c.in_ok-tell-in-Sent.ensures settings users r both stands are next both-ready.0 in
    let same = claim-counts c.args.group settings users r both c.in-Sent.station c.in-Sent.number
    c.in-Sent.pn (g.D.Draws.nth c.args.draws.now) (g.D.Draws.nth c.tell-in-Sent.new.draws)
    c.tell-in-Sent.new.self c.args.drawn.now c.tell-in-Sent.new.drawn c.args.told.now
    c.tell-in-Sent.new.told one.0 are one.1 in
    let emission = emission-ready c.args.group settings users r both c.in-Sent.station
    c.in-Sent.number c.in-Sent.pn (g.D.Draws.nth c.args.draws.now)
    (g.D.Draws.nth c.tell-in-Sent.new.draws) c.args.self.now c.tell-in-Sent.new.self
    c.tell-in-Sent.new.drawn c.args.told.now c.tell-in-Sent.new.told one.0
    (option_copied c.args.user) stands both-ready.0 both-ready.1 one.1 in
    subst (λ p. Happen c.args.group settings users r both (events_of_part p)
    (g.D.Draws.nth c.args.draws.now) (g.D.Draws.nth c.tell-in-Sent-2.new.draws)
    c.tell-in-Sent-2.new.self c.tell-in-Sent-2.new.drawn c.args.told.now c.tell-in-Sent-2.new.told
    c.tell-in-Sent-2.result) (sym c.in-Sent.is)
    (sent-happens c.args.group settings users r both c.in-Sent.station c.in-Sent.number c.in-Sent.pn
    (g.D.Draws.nth c.args.draws.now) (g.D.Draws.nth c.tell-in-Sent.new.draws)
    (g.D.Draws.nth c.tell-in-Sent-2.new.draws) c.tell-in-Sent.new.self c.tell-in-Sent-2.new.self
    c.tell-in-Sent.new.drawn c.tell-in-Sent-2.new.drawn c.args.told.now c.tell-in-Sent.new.told
    c.tell-in-Sent-2.new.told one.0 c.tell-in-Sent-2.result one.1
    (c.tell-in-Sent-2.ensures settings users (one.0 ++ r) (one.0 ++ both) one.1.stands one.1.noted
    (next ∙ ap (λ n. n + 1) (sym same)) emission))
