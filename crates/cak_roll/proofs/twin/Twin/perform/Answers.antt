use Rattle.std.proofs.Common.{sym, ap, ◌∙◌, subst}
use Rattle.std.specs.Option.{option_copied}
use Rattle.cak_roll.specs.declared.event.GroupNumber.TheVariants.{First, Second}
use Rattle.cak_roll.specs.Standing.{Held, AreMembers}
use Rattle.cak_roll.proofs.ReadyParts.{ready-part}
use Rattle.cak_roll.proofs.MembersFollow.{members-then}
use Rattle.cak_roll.proofs.TwinGoes.{is-step, event-is, goes-on, answer-refused, lone-part}
use Rattle.cak_roll.proofs.twin.Twin.perform.Goals as goal

pub returns-in_err-told-clause-answers : goal.returns-in_err-told-clause-answers
returns-in_err-told-clause-answers g c pair users t stands may =
    let before = g.D.Draws.nth c.args.draws.now in
    let typed = c.law_fields_are_typed.ensures in
    let first = c.part-first.ensures pair users t stands in
    let second = c.part-second.ensures pair users t stands in
    let given = option_copied c.args.user in
    answer-refused pair users t c.args.event.now before _ _ _ _ c.from_residual.ensures.1
    (c.in_err-told.ensures.turns pair users t c.args.event.now stands.groups stands.set_up.suites first
    second
    (ready-part pair users t First given c.args.event.now before c.part-first.result stands.legal may typed
    first)
    (ready-part pair users t Second given c.args.event.now before c.part-second.result stands.legal may
    typed second)
    (λ none. second ∙ lone-part pair users t c.args.self.now c.args.event.now stands may.may_come
    (sym c.is_early.ensures ∙ c.if-is_early.false) none)
    may.draws)

pub returns-clause-answers : goal.returns-clause-answers
returns-clause-answers g c pair users t stands may =
    let before = g.D.Draws.nth c.args.draws.now in
    let after = g.D.Draws.nth c.perform_parts.new.draws in
    let typed = c.law_fields_are_typed.ensures in
    let first = c.part-first.ensures pair users t stands in
    let second = c.part-second.ensures pair users t stands in
    let given = option_copied c.args.user in
    let done = c.in_ok-told.ensures.turns pair users t c.args.event.now stands.groups
    stands.set_up.suites first second
    (ready-part pair users t First given c.args.event.now before c.part-first.result stands.legal may
    typed first)
    (ready-part pair users t Second given c.args.event.now before c.part-second.result stands.legal
    may typed second)
    (λ none. second ∙ lone-part pair users t c.args.self.now c.args.event.now stands may.may_come
    (sym c.is_early.ensures ∙ c.if-is_early.false) none)
    may.draws in
    let same = c.in_ok-told.ensures.same in
    let step = is-step pair users t c.args.event.now before after c.args.self.now
    c.perform_parts.new.self c.in_ok-told.told done.0 given stands may typed done.1 in
    let event = event-is pair users t c.args.event.now before after c.args.self.now
    c.perform_parts.new.self c.in_ok-told.told done.0 given stands may typed done.1 in
    let members = subst (AreMembers t)
    (sym (ap (λ (h : Held). h.members) c.self.view_is ∙ same.2)) stands.members in (
      done.0,
      goes-on pair users t c.args.event.now before after c.args.self.now c.perform_parts.new.self
          c.in_ok-told.told done.0 given stands may typed done.1 _ same.0 same.1
          (ap (λ (h : Held). record h { members = c.follow.new.self }) c.self.view_is)
          (members-then pair users t done.0 c.self.inside.members c.follow.new.self c.args.event.now
          step event members c.in_ok-follow.ensures),
    )
