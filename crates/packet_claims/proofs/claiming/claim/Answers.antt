use Rattle.std.proofs.Common.{rules, arith, ◌≢◌, ◌∙◌, sym, ap, subst}
use Rattle.association_slots.specs.Told.{IsAdded}
use Rattle.association_slots.specs.Views.{In, SeatAt, greatest}
use Rattle.association_slots.specs.declared.view.Mark.{Mark}
use Rattle.association_slots.specs.declared.view.SeatView.{SeatView}
use Rattle.association_slots.specs.declared.view.Added.TheVariants.{Number, Over, Gone}
use Rattle.packet_claims.specs.Claims.{IsNoKey, IsExhausted}
use Rattle.packet_claims.proofs.Trying.{begins, not_over, no_key, was_over, fills, further, goes_on, wins, same_after, same_epoch}
use Rattle.packet_claims.proofs.claiming.claim.Goals as goal

pub loop-now-init : goal.loop-now-init
loop-now-init g c = (search rules, begins c.args.seat.now.view)

pub loop-now-preserved : goal.loop-now-preserved
loop-now-preserved g c = let v0 = c.args.seat.now.view in let v = c.loop-now.seat.view in let p = c.load-now.result in let is = ap (λ (s : SeatAt). s.view) c.load-now.ensures.view in (
  c.add.ensures.same ∙ (ap (λ (s : SeatAt). s.table) c.load-now.ensures.view ∙ c.loop-now.invariant.0),
  goes_on v0 v c.loop-now.tried c.loop-now.invariant.1 p c.load-now.ensures.sees (search rules) c.add.new.self.view (subst (λ (z : SeatView). IsAdded z Gone c.add.new.self.view) is c.in-Gone.ensures.view),
)

pub loop-now-smaller : goal.loop-now-smaller
loop-now-smaller g c = let v0 = c.args.seat.now.view in let v = c.loop-now.seat.view in let p = c.load-now.result in let s = c.load-now.ensures.sees in let t = c.loop-now.invariant.1 in
    let f = further v0 v c.loop-now.tried t p s (search rules) in omega (arith, f, s.small.0, t.stays.limit)

pub returns-then-not-now-clause-no_key : goal.returns-then-not-now-clause-no_key
returns-then-not-now-clause-no_key g c after same = let v0 = c.args.seat.now.view in let v = c.loop-now.seat.view in let p = c.load-now.result in let is = ap (λ (s : SeatAt). s.view) c.load-now.ensures.view in
    subst (λ (z : SeatView). IsNoKey v0 z after) (sym is) (subst (IsNoKey v0 _) (same_after p.epoch after same) (no_key v0 v c.loop-now.tried c.loop-now.invariant.1 p c.load-now.ensures.sees (search rules)))

pub returns-then-now-overshot-clause-exhausted : goal.returns-then-now-overshot-clause-exhausted
returns-then-now-overshot-clause-exhausted g c epoch same = let v0 = c.args.seat.now.view in let v = c.loop-now.seat.view in let p = c.load-now.result in let is = ap (λ (s : SeatAt). s.view) c.load-now.ensures.view in
    let low = c.overshot.ensures ∙ ap (λ (z : SeatView). greatest z.over) is in
    subst (λ (z : SeatView). IsExhausted v0 z epoch) (sym is) (subst (IsExhausted v0 _) (same_epoch p.epoch epoch same) (was_over v0 v c.loop-now.tried c.loop-now.invariant.1 p c.load-now.ensures.sees (search rules) (omega (arith, low, c.if-now-overshot.true))))

pub add-requires-clause-not_over : goal.add-requires-clause-not_over
add-requires-clause-not_over g c = let v = c.loop-now.seat.view in let p = c.load-now.result in let is = ap (λ (s : SeatAt). s.view) c.load-now.ensures.view in
    let low = c.overshot.ensures ∙ ap (λ (z : SeatView). greatest z.over) is in
    subst (λ (z : SeatView). (m : Mark) → In m z.over → m.epoch ≢ z.shown.epoch) (sym is) (not_over v p (omega (arith, low, c.if-now-overshot.false)))

pub returns-in-Number-clause-claim : goal.returns-in-Number-clause-claim
returns-in-Number-clause-claim g c = let v0 = c.args.seat.now.view in let v = c.loop-now.seat.view in let p = c.load-now.result in let is = ap (λ (s : SeatAt). s.view) c.load-now.ensures.view in
    wins v0 v c.loop-now.tried c.loop-now.invariant.1 p c.load-now.ensures.sees (search rules) c.add.new.self.view c.known-card.new.self.view c.in-Number.pn c.known-card.result
    (subst (λ (z : SeatView). IsAdded z (Number c.in-Number.pn) c.add.new.self.view) is c.in-Number.ensures.view) c.known-card.ensures.view c.known-card.ensures.knows

pub returns-in-Over-clause-exhausted : goal.returns-in-Over-clause-exhausted
returns-in-Over-clause-exhausted g c epoch same = let v0 = c.args.seat.now.view in let v = c.loop-now.seat.view in let p = c.load-now.result in let is = ap (λ (s : SeatAt). s.view) c.load-now.ensures.view in
    subst (IsExhausted v0 c.add.new.self.view) (same_epoch p.epoch epoch same) (fills v0 v c.loop-now.tried c.loop-now.invariant.1 p c.load-now.ensures.sees (search rules) c.add.new.self.view (subst (λ (z : SeatView). IsAdded z Over c.add.new.self.view) is c.in-Over.ensures.view))
