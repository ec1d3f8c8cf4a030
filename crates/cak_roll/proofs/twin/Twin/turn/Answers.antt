use Rattle.std.proofs.Common.{◌++◌, ◌+◌, ◌∙◌, ap, sym}
use Rattle.cak_roll.specs.declared.event.GroupNumber.TheVariants.{First, Second}
use Rattle.cak_roll.specs.Twin.{run_of, merged}
use Rattle.cak_roll.specs.Standing.{Held}
use Rattle.cak_roll.specs.Stepping.{in_groups}
use Rattle.cak_roll.specs.inside.Parts.{events_of_part}
use Rattle.cak_roll.specs.inside.Turns.{turn_stop}
use Rattle.cak_roll.proofs.TurnGoes.{second-starts, turned, one-fails, two-fails}
use Rattle.cak_roll.proofs.Performing.{turn-refused}
use Rattle.cak_roll.proofs.twin.Twin.turn.Goals as goal

pub returns-in_err-run_first-clause-turns : goal.returns-in_err-run_first-clause-turns
returns-in_err-run_first-clause-turns g c pair users t event both suites first second one two none =
    let before = g.D.Draws.nth c.args.draws.now in
    let next-is = c.next_number-next.ensures ∙ ap (λ (h : Held). h.drawn.count + 1) c.self.view_is in
    turn-refused (turn_stop pair users t event before) pair users t event before _ _ _ _
    c.from_residual.ensures.1
    (one-fails pair users t event before before before suites (events_of_part c.args.first.now) _ first
    (c.in_err-run_first.ensures.happens pair.first users (run_of First t) (merged t) both.first
    both.drawn next-is one))

pub returns-in_err-run_second-clause-turns : goal.returns-in_err-run_second-clause-turns
returns-in_err-run_second-clause-turns g c pair users t event both suites first second one two none =
    let before = g.D.Draws.nth c.args.draws.now in
    let next-is = c.next_number-next.ensures ∙ ap (λ (h : Held). h.drawn.count + 1) c.self.view_is in
    let between = g.D.Draws.nth c.run_first.new.draws in
    let done = c.in_ok-run_first.ensures.happens pair.first users (run_of First t) (merged t)
    both.first both.drawn next-is
    one in
    let next = second-starts pair users t event before between between suites
    (events_of_part c.args.first.now) c.args.self.now c.run_first.new.self c.new-told.result
    c.run_first.new.told done.0 both c.in_ok-run_first.ensures.same done.1 in
    let later = c.next_number-later.ensures ∙ ap (λ (h : Held). h.drawn.count + 1) c.self-2.view_is in
    turn-refused (turn_stop pair users t event before) pair users t event before _ _ _ _
    c.from_residual-in_err-run_second.ensures.1
    (two-fails pair users t event before between between suites (events_of_part c.args.first.now)
    (events_of_part c.args.second.now) c.run_first.new.self.first c.run_first.new.self.drawn
    c.new-told.result c.run_first.new.told done.0 _ first second done.1
    (c.in_err-run_second.ensures.happens pair.second users (run_of Second t) (done.0 ++ merged t)
    next.0 next.1 later two
    (λ is. none (sym (ap (λ (h : Held). h.second) c.in_ok-run_first.ensures.same) ∙ is))))

pub returns-clause-turns : goal.returns-clause-turns
returns-clause-turns g c pair users t event both suites first second one two none =
    let before = g.D.Draws.nth c.args.draws.now in
    let next-is = c.next_number-next.ensures ∙ ap (λ (h : Held). h.drawn.count + 1) c.self.view_is in
    let between = g.D.Draws.nth c.run_first.new.draws in
    let after = g.D.Draws.nth c.run_second.new.draws in
    let done = c.in_ok-run_first.ensures.happens pair.first users (run_of First t) (merged t)
    both.first both.drawn next-is
    one in
    let next = second-starts pair users t event before between after suites
    (events_of_part c.args.first.now) c.args.self.now c.run_first.new.self c.new-told.result
    c.run_first.new.told done.0 both c.in_ok-run_first.ensures.same done.1 in
    let later = c.next_number-later.ensures ∙ ap (λ (h : Held). h.drawn.count + 1) c.self-2.view_is in
    let then-done = c.in_ok-run_second.ensures.happens pair.second users (run_of Second t)
    (done.0 ++ merged t) next.0 next.1 later two
    (λ is. none (sym (ap (λ (h : Held). h.second) c.in_ok-run_first.ensures.same) ∙ is)) in (
      in_groups event done.0 then-done.0,
      turned pair users t event before between after suites (events_of_part c.args.first.now)
          (events_of_part c.args.second.now) c.run_first.new.self c.run_second.new.self c.new-told.result
          c.run_first.new.told c.run_second.new.told done.0 then-done.0 first second c.new-told.ensures
          c.in_ok-run_second.ensures.same done.1 then-done.1,
    )
