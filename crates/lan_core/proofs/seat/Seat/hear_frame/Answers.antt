use Rattle.std.proofs.Common.{◌≡◌, ◌∙◌, ◌++◌, Result, ap, subst, arith}
use Rattle.mkpdu_codec.specs.declared.announcement.Announcement.{Announcement}
use Rattle.mka_station.specs.declared.verdict.DropReason.{DropReason}
use Rattle.mka_station.specs.declared.reaction.Reaction.{Reaction}
use Rattle.mka_station.specs.Hearing.{frame_turn, heard_turn}
use Rattle.lan_core.specs.Expected.{reaction_facts}
use Rattle.lan_core.specs.Lives.{lived}
use Rattle.lan_core.specs.Standing.{Sits}
use Rattle.lan_core.specs.inside.Following.{followed}
use Rattle.lan_core.specs.inside.Seats.{installs_in}
use Rattle.lan_core.proofs.JudgedAlike.{as-judged}
use Rattle.lan_core.proofs.SlotsFollow.{in-reaction}
use Rattle.lan_core.proofs.SeatGoesOn.{leaves}
use Rattle.lan_core.proofs.seat.Seat.hear_frame.Goals as goal

pub returns-clause-stands : goal.returns-clause-stands
returns-clause-stands c = λ window l h s of.
    let is = as-judged c.args.judge.now c.turn_to.new.self c.args.octets.now c.judgement.result.now
    c.in_ok-turn_to.ensures.kept c.in_ok-turn_to.ensures.octets c.judgement.ensures l.member.setup of in
    let reaction = c.in_ok-reaction.reaction in
    leaves window _ c.args.place c.args.number 0 h reaction (frame_turn l.member c.args.octets.now l.past).reaction _
    (subst (λ (j : Result Announcement DropReason). reaction ≡ (heard_turn l.member j l.past).reaction) is
    (c.in_ok-reaction.ensures.reaction window l h s))
    (subst (λ (j : Result Announcement DropReason). Sits window (lived l (heard_turn l.member j l.past))
    (followed reaction.changes h) c.hear.new.self) is
    (c.in_ok-reaction.ensures.stands window l h s))

pub returns-clause-facts : goal.returns-clause-facts
returns-clause-facts c = λ window l h s of.
    let is = as-judged c.args.judge.now c.turn_to.new.self c.args.octets.now c.judgement.result.now
    c.in_ok-turn_to.ensures.kept c.in_ok-turn_to.ensures.octets c.judgement.ensures l.member.setup of in
    let same = subst (λ (j : Result Announcement DropReason). c.in_ok-reaction.reaction ≡ (heard_turn l.member j l.past).reaction) is
    (c.in_ok-reaction.ensures.reaction window l h s) in
    c.in_ok-tell.ensures ∙ (ap (λ xs. xs ++ reaction_facts c.args.place c.args.number 0 c.in_ok-reaction.reaction) c.new-facts.ensures
    ∙ ap (λ (x : Reaction). reaction_facts c.args.place c.args.number 0 x) same)

pub returns-clause-counted : goal.returns-clause-counted
returns-clause-counted c =
    let told = c.in_ok-tell.ensures ∙ ap (λ xs. xs ++ reaction_facts c.args.place c.args.number 0 c.in_ok-reaction.reaction) c.new-facts.ensures in
    omega (arith, c.in_ok-reaction.ensures.counted, ap installs_in told, in-reaction c.args.place c.args.number 0 c.in_ok-reaction.reaction)
