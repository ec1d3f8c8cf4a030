use Rattle.std.proofs.Common.{◌≡◌, ℕ, List, ◌∷◌, sym, ap, ◌∙◌, subst, add-one}
use Rattle.rx_slots.specs.Histories.{heard}
use Rattle.rx_slots.specs.Numbers.{answer}
use Rattle.rx_slots.specs.Standing.{StandsFor}
use Rattle.workbench_cases.specs.Frames.{next_number, frame_numbered, receiver, receiver_after}
use Rattle.workbench_cases.proofs.ciphers.frames.last_end.Goals as goal

pub loop-done-preserved : goal.loop-done-preserved
loop-done-preserved c =
    let n = c.loop-done._done in
    let was = c.loop-done.invariant in
    let h = (receiver_after n).history in
    let frame : c.next_frame.result.now ≡ frame_numbered (next_number (receiver_after n).last) =
    c.next_frame.ensures.value ∙ ap (λ last. frame_numbered (next_number last)) was.last in
    record {
      stands = subst (λ (m : ℕ). StandsFor receiver 2 c.receive.new.self (receiver_after m).history) (sym (add-one n))
          (subst (λ (octets : List ℕ). StandsFor receiver 2 c.receive.new.self (heard octets ∷ h)) frame
          (c.in_ok-last.ensures.stands receiver 2 h was.stands));
      last = c.in_ok-last.ensures.answer receiver 2 h was.stands ∙ (ap (answer receiver 2 h) frame
          ∙ ap (λ m. (receiver_after m).last) (sym (add-one n)));
    }
