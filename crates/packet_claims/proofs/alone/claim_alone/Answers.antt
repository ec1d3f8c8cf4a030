use Rattle.std.proofs.Common.{◌∙◌, sym, ap, subst, MatchResult}
use Rattle.association_slots.specs.Learned.{Learned}
use Rattle.association_slots.specs.Steps.{new_seat, told}
use Rattle.association_slots.specs.Views.{AllIn, ControlAt, SeatAt}
use Rattle.association_slots.specs.declared.view.ControlView.{ControlView}
use Rattle.association_slots.specs.declared.view.SeatView.{SeatView}
use Rattle.packet_claims.specs.Alone.{IsNextClaim}
use Rattle.packet_claims.specs.Claims.{Did}
use Rattle.packet_claims.proofs.Lonely.{did_by, same_number, all_in, next_claim, exhausted, no_key}
use Rattle.packet_claims.proofs.alone.claim_alone.Goals as goal

pub returns-clause-did : goal.returns-clause-did
returns-clause-did g c =
    let w = c.claim-answer.new.seat.view in let s = ap (λ (v : SeatAt). v.view) c.seat-seat.ensures.seat in let a = c.claim-answer.ensures in (
      w,
      ap (λ (v : ControlAt). v.view) c.tell.ensures.view ∙ ap (λ (v : ControlAt). told v.view w) c.seat-seat.ensures.control,
      subst (λ (v : SeatView). Did v w c.claim-answer.result) s (did_by c.seat-seat.result.view w c.claim-answer.result a.claim a.no_key a.exhausted),
    )

pub returns-clause-all_in : goal.returns-clause-all_in
returns-clause-all_in g c =
    let C = c.args.control.now.view in let r = returns-clause-did g c in let back = subst Learned r.1 c.tell.ensures.learned in
    subst (λ (d : ControlView). AllIn C → AllIn d) (sym r.1) (all_in C r.0 c.seat-seat.ensures.before back c.requires.room (same_number (new_seat C) r.0 c.claim-answer.result r.2))

pub returns-clause-next : goal.returns-clause-next
returns-clause-next g c in_ present low =
    let C = c.args.control.now.view in let r = returns-clause-did g c in let back = subst Learned r.1 c.tell.ensures.learned in
    subst (λ (d : ControlView). MatchResult c.claim-answer.result (IsNextClaim C d) (λ _. ⊥)) (sym r.1) (next_claim C r.0 c.seat-seat.ensures.before back c.requires.room (same_number (new_seat C) r.0 c.claim-answer.result r.2) in_ present low c.claim-answer.result r.2)

pub returns-clause-exhausted : goal.returns-clause-exhausted
returns-clause-exhausted g c in_ present full =
    let C = c.args.control.now.view in let r = returns-clause-did g c in let back = subst Learned r.1 c.tell.ensures.learned in
    exhausted C r.0 c.seat-seat.ensures.before back c.requires.room (same_number (new_seat C) r.0 c.claim-answer.result r.2) in_ present full c.claim-answer.result r.2

pub returns-clause-no_key : goal.returns-clause-no_key
returns-clause-no_key g c absent =
    let C = c.args.control.now.view in let r = returns-clause-did g c in let back = subst Learned r.1 c.tell.ensures.learned in
    no_key C r.0 c.seat-seat.ensures.before back c.requires.room (same_number (new_seat C) r.0 c.claim-answer.result r.2) absent c.claim-answer.result r.2
