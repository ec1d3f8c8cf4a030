use Rattle.std.proofs.Common.{◌-◌, ap, ◌∙◌, get_or}
use Rattle.cak_roll.specs.Twin.{adopters}
use Rattle.twin_schedule.specs.World.{pair_of}
use Rattle.twin_schedule.proofs.stage.Stage.sender.Goals as goal

pub returns-in-First : goal.returns-in-First
returns-in-First c = λ w stands.
    rw c.in-First.is (c.sender.ensures
    ∙ ap (λ l. get_or l (c.args.frame - 1) 0) stands.first_party.senders)

pub returns-in-Second : goal.returns-in-Second
returns-in-Second c = λ w stands.
    rw c.in-Second.is (c.number_at.ensures
    ∙ ap (λ l. get_or l c.from.result 0)
    (c.adopters.ensures (pair_of w) w.kept.users w.run stands.twin)
    ∙ ap (λ k. get_or (adopters w.run) k 0) (c.from.ensures ∙ c.sender-in-Second.ensures
    ∙ ap (λ l. get_or l (c.args.frame - 1) 0) stands.second_party.senders))
