use Rattle.std.proofs.Common.{◌≡◌, ℕ, ◌+◌, ◌-◌, subst, ◌∙◌, arith}
use Rattle.key_wrap.proofs.Leading.{LeadsOn, LeadsOn-before}
use Rattle.key_wrap.proofs.Steps.{steps-none}
use Rattle.key_wrap.proofs.wrapping.undo_steps.Goals as goal

pub loop-i-preserved : goal.loop-i-preserved
loop-i-preserved c =
    let kek = c.args.kek.now in
    let given = c.args.state.now in
    let j : c.loop-i.i ≡ c.loop-i.i - 1 + 1 = omega arith in
    let P : ℕ → Type 0 = λ n. LeadsOn kek given c.loop-i.state c.args.count n in
    let undone = c.undo_step.ensures in
    LeadsOn-before kek given c.loop-i.state c.undo_step.new.state c.args.count (c.loop-i.i - 1)
    (subst P j c.loop-i.invariant) c.requires c.loop-i.auto.state undone.blocks undone.undone undone.only

pub returns-clause-undone : goal.returns-clause-undone
returns-clause-undone c =
    let done : c.loop-i.i ≡ 0 = omega arith in
    let P : ℕ → Type 0 = λ n. LeadsOn c.args.kek.now c.args.state.now c.loop-i.state c.args.count n in
    let leads = subst P done c.loop-i.invariant in
    leads.undone c.loop-i.state (steps-none c.args.kek.now c.loop-i.state)

pub returns-clause-only : goal.returns-clause-only
returns-clause-only c = λ start o e.
    let done : c.loop-i.i ≡ 0 = omega arith in
    let P : ℕ → Type 0 = λ n. LeadsOn c.args.kek.now c.args.state.now c.loop-i.state c.args.count n in
    let leads = subst P done c.loop-i.invariant in
    leads.only start o e ∙ steps-none c.args.kek.now start
