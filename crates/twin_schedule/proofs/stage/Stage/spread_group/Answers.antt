use Rattle.std.proofs.Common.{◌≡◌, length, refl, ap, ◌∙◌, arith}
use Rattle.cak_roll.specs.Twin.{of_group}
use Rattle.twin_schedule.proofs.Doing.{change-does, handed-on, then-err, then-ok}
use Rattle.twin_schedule.proofs.Looking.{spread-does}
use Rattle.twin_schedule.proofs.stage.Stage.spread_group.Goals as goal

pub returns-in_err-spread_between : goal.returns-in_err-spread_between
returns-in_err-spread_between g c =
    let all : c.frame_count.result
    ≡ length (of_group c.args.group c.args.self.now.first c.args.self.now.second).senders.items =
    c.frame_count.ensures ∙ ap (λ p. length p.senders.items) c.party.ensures in
    handed-on _ _ _ _ _ (spread-does c.args.group c.party-2.result.now.spread
    c.counted-count.result _ _ _ (ap (λ p. p.spread) c.party-2.ensures)
    (λ few. c.counted-count.ensures (omega (arith, all, few)) ∙ all)
    (then-err _ _ _ _ _ c.in_err-spread_between.ensures)) c.from_residual.ensures.1

pub returns : goal.returns
returns g c =
    let all : c.frame_count.result
    ≡ length (of_group c.args.group c.args.self.now.first c.args.self.now.second).senders.items =
    c.frame_count.ensures ∙ ap (λ p. length p.senders.items) c.party.ensures in
    spread-does c.args.group c.party-2.result.now.spread c.counted-count.result _ _ _
    (ap (λ p. p.spread) c.party-2.ensures)
    (λ few. c.counted-count.ensures (omega (arith, all, few)) ∙ all)
    (then-ok _ _ _ _ _ _ c.in_ok-spread_between.ensures (change-does _ _ _ c.set_spread.ensures refl))
